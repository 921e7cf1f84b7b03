-- What was written is read back.
use Rattle.std.proofs.Common.{◌≡◌, ℕ, suc, ◌+◌, ◌*◌, ◌^◌, ◌<◌, ◌≤◌, List, [], ◌∷◌, ◌++◌, map, length, take, drop, set, Some, None, Ok, Option, sym, refl, ap, ◌∙◌, subst, arith}
use Rattle.std.proofs.lemmas.List.{length-map, length-set, take_at}
use Rattle.std.proofs.lemmas.Bool.{eqb-true}
use Rattle.protocol.specs.declared.argument.Argument.{Argument}
use Rattle.protocol.specs.declared.argument.Argument.TheVariants as arg
use Rattle.protocol.specs.declared.argument.ArgumentType.{ArgumentType}
use Rattle.protocol.specs.declared.fd.OwnedFd.{OwnedFd}
use Rattle.protocol.specs.declared.fd.RawFd.{RawFd}
use Rattle.protocol.specs.Types.{Matching, kind, type_of}
use Rattle.book.specs.Files.{Files, file_of, numbers}
use Rattle.book.proofs.Changes.{enters_at, enters_kept}
use Rattle.wire.specs.Values.{Value, Message, int, uint, fixed, string, null, object, new_id, array, descriptor, carried, descriptors, renamed}
use Rattle.wire.specs.Frame.{Fits, field, fields, frame, known, overlay, size_of, word}
use Rattle.wire.specs.Laws.{type_of_value, Carries, AllCarry, Typed}
use Rattle.wire.specs.ReadBack.{Regained}
use Rattle.wire.specs.Records.{value_of}
use Rattle.wire.specs.Write.{Copied, Placed, largest}
use Rattle.wire.proofs.Reading.{reads_frames}

-- values with other descriptors in the place of theirs
abbrev pub refilled : {X Y : Type 0} → List (Value X) → List Y → List (Value Y)
refilled [] ys = []
refilled (int z ∷ vs) ys = int z ∷ refilled vs ys
refilled (uint n ∷ vs) ys = uint n ∷ refilled vs ys
refilled (fixed z ∷ vs) ys = fixed z ∷ refilled vs ys
refilled (string bs ∷ vs) ys = string bs ∷ refilled vs ys
refilled (null ∷ vs) ys = null ∷ refilled vs ys
refilled (object n ∷ vs) ys = object n ∷ refilled vs ys
refilled (new_id n ∷ vs) ys = new_id n ∷ refilled vs ys
refilled (array bs ∷ vs) ys = array bs ∷ refilled vs ys
refilled (descriptor x ∷ vs) [] = []
refilled (descriptor x ∷ vs) (y ∷ ys) = descriptor y ∷ refilled vs ys

-- they have the same fields and types, these descriptors, and the same files where the descriptors do
pub record Refilled {X Y Z : Type 0} (f : X → Z) (g : Y → Z) (ts : List ArgumentType) (vs : List (Value X)) (ys : List Y) : Type 0 where
  pub bytes : fields (refilled vs ys) ≡ fields vs
  pub fds : descriptors (refilled vs ys) ≡ ys
  pub typed : Typed ts (refilled vs ys)
  pub files : map (renamed g) (refilled vs ys) ≡ map (renamed f) vs

module _ {X Y Z : Type 0} (f : X → Z) (g : Y → Z) where
  -- a value that is no descriptor, before the others
  refilled_plain : (t : ArgumentType) (ts : List ArgumentType) (v : Value X) (w : Value Y) (vs : List (Value X)) (ys : List Y)
      → refilled (v ∷ vs) ys ≡ w ∷ refilled vs ys → field w ≡ field v → carried w ≡ [] → kind t ≡ kind (type_of_value w) → Carries w → renamed g w ≡ renamed f v
      → Refilled f g ts vs ys → Refilled f g (t ∷ ts) (v ∷ vs) ys
  refilled_plain t ts v w vs ys e b c k h r s = record {
    bytes = ap fields e ∙ ap (λ x. x ++ fields (refilled vs ys)) b ∙ ap (λ x. field v ++ x) s.bytes;
    fds = ap descriptors e ∙ ap (λ x. x ++ descriptors (refilled vs ys)) c ∙ s.fds;
    typed = subst (Typed (t ∷ ts)) (sym e) (k, h, s.typed);
    files = ap (map (renamed g)) e ∙ ap (λ x. x ∷ map (renamed g) (refilled vs ys)) r ∙ ap (λ x. renamed f v ∷ x) s.files;
  }

  pub refilled_all : (ts : List ArgumentType) (vs : List (Value X)) (ys : List Y) → Typed ts vs → map g ys ≡ map f (descriptors vs) → Refilled f g ts vs ys
  refilled_all [] [] ys h e = record { bytes = refl; fds = sym (none_left ys e); typed = tt; files = refl }
    where
      none_left : (ys : List Y) → map g ys ≡ [] → ys ≡ []
      none_left [] e = refl
      none_left (y ∷ ys) e = absurd (let z = ap length e in omega arith)
  refilled_all [] (v ∷ vs) ys h e = absurd h
  refilled_all (t ∷ ts) [] ys h e = absurd h
  refilled_all (t ∷ ts) (int z ∷ vs) ys h e = refilled_plain t ts (int z) (int z) vs ys refl refl refl h.0 h.1 refl (refilled_all ts vs ys h.2 e)
  refilled_all (t ∷ ts) (uint n ∷ vs) ys h e = refilled_plain t ts (uint n) (uint n) vs ys refl refl refl h.0 h.1 refl (refilled_all ts vs ys h.2 e)
  refilled_all (t ∷ ts) (fixed z ∷ vs) ys h e = refilled_plain t ts (fixed z) (fixed z) vs ys refl refl refl h.0 h.1 refl (refilled_all ts vs ys h.2 e)
  refilled_all (t ∷ ts) (string s ∷ vs) ys h e = refilled_plain t ts (string s) (string s) vs ys refl refl refl h.0 h.1 refl (refilled_all ts vs ys h.2 e)
  refilled_all (t ∷ ts) (null ∷ vs) ys h e = refilled_plain t ts null null vs ys refl refl refl h.0 h.1 refl (refilled_all ts vs ys h.2 e)
  refilled_all (t ∷ ts) (object n ∷ vs) ys h e = refilled_plain t ts (object n) (object n) vs ys refl refl refl h.0 h.1 refl (refilled_all ts vs ys h.2 e)
  refilled_all (t ∷ ts) (new_id n ∷ vs) ys h e = refilled_plain t ts (new_id n) (new_id n) vs ys refl refl refl h.0 h.1 refl (refilled_all ts vs ys h.2 e)
  refilled_all (t ∷ ts) (array s ∷ vs) ys h e = refilled_plain t ts (array s) (array s) vs ys refl refl refl h.0 h.1 refl (refilled_all ts vs ys h.2 e)
  refilled_all (t ∷ ts) (descriptor x ∷ vs) [] h e = absurd (let z = ap length e in omega arith)
  refilled_all (t ∷ ts) (descriptor x ∷ vs) (y ∷ ys) h e =
      let s = refilled_all ts vs ys h.2 (let d : g y ∷ map g ys ≡ f x ∷ map f (descriptors vs) = e in cc) in
      let q : g y ≡ f x = (let d : g y ∷ map g ys ≡ f x ∷ map f (descriptors vs) = e in cc) in
      record {
        bytes = s.bytes;
        fds = ap (λ x. y ∷ x) s.fds;
        typed = (h.0, tt, s.typed);
        files = ap (λ z. descriptor z ∷ map (renamed g) (refilled vs ys)) q ∙ ap (λ z. descriptor (f x) ∷ z) s.files;
      }

-- what is open stays open while numbers are duplicated
copied_kept : (named : Files) (ns : List RawFd) (fs : Files) (ms : List OwnedFd) (fs' : Files) → Copied named ns fs ms fs' → (k x : ℕ) → file_of fs k ≡ Some x → file_of fs' k ≡ Some x
copied_kept named [] fs [] fs' h k x e = ap (λ (gs : Files). file_of gs k) h ∙ e
copied_kept named [] fs (m ∷ ms) fs' h k x e = absurd h
copied_kept named (n ∷ ns) fs [] fs' h k x e = absurd h
copied_kept named (n ∷ ns) fs (m ∷ ms) fs' h k x e =
    copied_kept named ns (set fs m.0 (Some h.0)) ms fs' h.3 k x (enters_kept h.0 m.0 fs (set fs m.0 (Some h.0)) h.2 k x e)

-- each duplicate stands for the file that its number names
copied_files : (named : Files) (ns : List RawFd) (fs : Files) (ms : List OwnedFd) (fs' : Files) → length fs ≡ numbers → Copied named ns fs ms fs'
    → map (λ (d : OwnedFd). file_of fs' d.0) ms ≡ map (λ (n : RawFd). file_of named n.0) ns
copied_files named [] fs [] fs' l h = refl
copied_files named [] fs (m ∷ ms) fs' l h = absurd h
copied_files named (n ∷ ns) fs [] fs' l h = absurd h
copied_files named (n ∷ ns) fs (m ∷ ms) fs' l h =
    let here : file_of fs' m.0 ≡ file_of named n.0 =
    copied_kept named ns (set fs m.0 (Some h.0)) ms fs' h.3 m.0 h.0 (enters_at h.0 m.0 fs (set fs m.0 (Some h.0)) l h.2) ∙ sym h.1 in
    ap (λ o. o ∷ map (λ (d : OwnedFd). file_of fs' d.0) ms) here
    ∙ ap (λ os. file_of named n.0 ∷ os) (copied_files named ns (set fs m.0 (Some h.0)) ms fs' (length-set fs m.0 (Some h.0) ∙ l) h.3)

-- arguments that match a signature have its types
value_kind : {X : Type 0} (bs : List ℕ) (a : Argument X) → kind (type_of_value (value_of bs a)) ≡ kind (type_of a)
value_kind bs (arg.Int z) = refl
value_kind bs (arg.Uint n) = refl
value_kind bs (arg.Fixed z) = refl
value_kind bs (arg.Str t) = refl
value_kind bs arg.NullStr = refl
value_kind bs (arg.Object n) = refl
value_kind bs (arg.NewId n) = refl
value_kind bs (arg.Array t) = refl
value_kind bs (arg.Fd x) = refl

pub matching_typed : {X : Type 0} (bs : List ℕ) (ts : List ArgumentType) (xs : List (Argument X)) → Matching ts xs → AllCarry (map (value_of bs) xs) → Typed ts (map (value_of bs) xs)
matching_typed bs [] [] h c = tt
matching_typed bs [] (a ∷ xs) h c = absurd (let z = h.0 in omega arith)
matching_typed bs (t ∷ ts) [] h c = absurd (let z = h.0 in omega arith)
matching_typed bs (t ∷ ts) (a ∷ xs) h c = (
  sym (eqb-true (kind (type_of a)) (kind t) (h.1 0 (omega arith))) ∙ sym (value_kind bs a),
  c.0,
  matching_typed bs ts xs ((let z = h.0 in omega arith), λ k l. h.1 (suc k) (omega arith)) c.1,
)

-- a frame written over bytes fits
overlay_fits : (f : List (Option ℕ)) (p : List ℕ) → length f ≤ length p → Fits f (take (length f) (overlay f p))
overlay_fits [] p l = tt
overlay_fits (x ∷ f) [] l = absurd (let z : suc (length f) ≤ 0 = l in omega arith)
overlay_fits (Some b ∷ f) (c ∷ p) l = (refl, overlay_fits f p (let z : suc (length f) ≤ suc (length p) = l in omega arith))
overlay_fits (None ∷ f) (c ∷ p) l = overlay_fits f p (let z : suc (length f) ≤ suc (length p) = l in omega arith)

-- the frame asks values only for their fields
frame_same : {X Y : Type 0} (m : Message X) (vs : List (Value Y)) → fields vs ≡ fields m.args → frame (record { sender = m.sender; opcode = m.opcode; args = vs }) ≡ frame m
frame_same m vs e = ap (λ (b : List (Option ℕ)). known (word m.sender) ++ (known (word ((8 + length b) * 65536 + m.opcode)) ++ b)) e

pub regained : (ts : List ArgumentType) (room : ℕ) (m : Message RawFd) (payload : List ℕ) (places places' : List OwnedFd) (rest : List ℕ) (more : List OwnedFd) (fs fs' : Files)
    → Typed ts m.args → m.sender < 2 ^ 32 → m.opcode < 2 ^ 16 → size_of m ≤ largest → size_of m ≤ length payload → length fs ≡ numbers → Placed (descriptors m.args) places fs places' fs' → length ts ≤ room
    → Regained ts room (take (size_of m) (overlay (frame m) payload) ++ rest) (take (length (descriptors m.args)) places' ++ more) m (size_of m) rest more fs fs'
regained ts room m payload places places' rest more fs fs' typed sender opcode small fit book p r =
    let files = copied_files fs (descriptors m.args) fs p.duplicates fs' book p.copied in
    let s = refilled_all (λ (n : RawFd). file_of fs n.0) (λ (d : OwnedFd). file_of fs' d.0) ts m.args p.duplicates typed files in
    let same_frame = frame_same m (refilled m.args p.duplicates) s.bytes in
    let size : 8 + length (fields (refilled m.args p.duplicates)) ≡ size_of m = ap (λ (b : List (Option ℕ)). 8 + length b) s.bytes in
    let len : length (frame m) ≡ size_of m = omega arith in
    let count : length p.duplicates ≡ length (descriptors m.args) =
    sym (length-map p.duplicates (λ (d : OwnedFd). file_of fs' d.0)) ∙ ap length files ∙ length-map (descriptors m.args) (λ (n : RawFd). file_of fs n.0) in
    let taken : take (length (descriptors m.args)) places' ≡ p.duplicates =
    ap (take (length (descriptors m.args))) p.placed ∙ take_at p.duplicates (drop (length p.duplicates) places) (length (descriptors m.args)) count in
    record {
      message = record { sender = m.sender; opcode = m.opcode; args = refilled m.args p.duplicates };
      answer =
          reads_frames room ts (take (size_of m) (overlay (frame m) payload) ++ rest) (take (length (descriptors m.args)) places' ++ more)
          (record { sender = m.sender; opcode = m.opcode; args = refilled m.args p.duplicates }) (take (size_of m) (overlay (frame m) payload)) rest more
          (record { sender = sender; opcode = opcode; size = omega arith; args = s.typed })
          (subst (λ (f : List (Option ℕ)). Fits f (take (size_of m) (overlay (frame m) payload))) (sym same_frame)
          (subst (λ (k : ℕ). Fits (frame m) (take k (overlay (frame m) payload))) len (overlay_fits (frame m) payload (omega arith))))
          refl (ap (λ (x : List OwnedFd). x ++ more) (taken ∙ sym s.fds)) r
          ∙ ap (λ (k : ℕ). Ok (record { message = record { sender = m.sender; opcode = m.opcode; args = refilled m.args p.duplicates }; size = k; rest = rest; left = more })) size;
      same = ap (λ (vs : List (Value (Option ℕ))). record { sender = m.sender; opcode = m.opcode; args = vs }) s.files;
    }

-- the same, of the payload that the code left and the size that it answered
pub read_back : (ts : List ArgumentType) (room : ℕ) (m : Message RawFd) (n : ℕ) (payload payload' : List ℕ) (places places' : List OwnedFd) (rest : List ℕ) (more : List OwnedFd) (fs fs' : Files)
    → n ≡ size_of m → payload' ≡ overlay (frame m) payload
    → Typed ts m.args → m.sender < 2 ^ 32 → m.opcode < 2 ^ 16 → size_of m ≤ largest → size_of m ≤ length payload → length fs ≡ numbers → Placed (descriptors m.args) places fs places' fs' → length ts ≤ room
    → Regained ts room (take n payload' ++ rest) (take (length (descriptors m.args)) places' ++ more) m n rest more fs fs'
read_back ts room m n payload payload' places places' rest more fs fs' e d typed sender opcode small fit book p r =
    subst (λ (k : ℕ). Regained ts room (take k payload' ++ rest) (take (length (descriptors m.args)) places' ++ more) m k rest more fs fs') (sym e)
    (subst (λ (b : List ℕ). Regained ts room (take (size_of m) b ++ rest) (take (length (descriptors m.args)) places' ++ more) m (size_of m) rest more fs fs') (sym d)
    (regained ts room m payload places places' rest more fs fs' typed sender opcode small fit book p r))
