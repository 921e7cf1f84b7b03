-- Bytes that fit the frame of a well-typed message are read as that message.
use Rattle.std.proofs.Common.{◌≡◌, ℕ, ◌+◌, ◌-◌, ◌*◌, ◌/◌, ◌%◌, ◌^◌, ◌<◌, ◌≤◌, true, List, [], ◌∷◌, ◌++◌, length, get_or, take, drop, ℤ, pos, negsuc, Some, Ok, Result, sym, refl, ap, ◌∙◌, subst, append-nil, arith, w32, SFits, to_z, of_z}
use Rattle.std.proofs.lemmas.List.{append_assoc, length-append, take_at, drop_at, get_or_at, length_push}
use Rattle.std.proofs.lemmas.Int.{to_z-of_z}
use Rattle.std.proofs.lemmas.Bool.{cond-true, cond-false, le-leb, eq-eqb, ne_eqb, and_from}
use Rattle.protocol.specs.declared.refusal.Refusal.{Refusal}
use Rattle.protocol.specs.declared.argument.AllowNull.TheVariants.{Yes}
use Rattle.protocol.specs.declared.argument.ArgumentType.{ArgumentType}
use Rattle.protocol.specs.declared.argument.ArgumentType.TheVariants as type
use Rattle.protocol.specs.Types.{kind}
use Rattle.wire.specs.Values.{Value, Message, int, uint, fixed, string, null, object, new_id, array, descriptor, carried, descriptors}
use Rattle.wire.specs.Frame.{Fits, known, word, padding, block, field, fields, frame, frame_sized, size_of}
use Rattle.wire.specs.Read.{Parsed, word_at, no_zero, number, whole, inner, text, one, then, before, values, fd_of, fd_count, size_at, opcode_at, parsed}
use Rattle.wire.specs.Laws.{type_of_value, Carries, Typed, ReadsFrames}
use Rattle.wire.proofs.Fitting.{Blocked, fits_length, fits_known, fits_split, fits_block, word_read}
use Rattle.wire.proofs.Parsing.{after_checks}
use Rattle.wire.proofs.Walk.{length_block}

-- reading asks a type only for its kind
abbrev standard : ℕ → ArgumentType
standard k = get_or (type.Int ∷ type.Uint ∷ type.Fixed ∷ type.Str Yes ∷ type.Object Yes ∷ type.NewId ∷ type.Array ∷ type.Fd ∷ []) k type.Fd

one_standard : {X : Type 0} (t : ArgumentType) (bs : List ℕ) (xs : List X) → one t bs xs ≡ one (standard (kind t)) bs xs
one_standard type.Int bs xs = refl
one_standard type.Uint bs xs = refl
one_standard type.Fixed bs xs = refl
one_standard (type.Str maybe) bs xs = refl
one_standard (type.Object maybe) bs xs = refl
one_standard type.NewId bs xs = refl
one_standard type.Array bs xs = refl
one_standard type.Fd bs xs = refl

fd_standard : (t : ArgumentType) → fd_of t ≡ fd_of (standard (kind t))
fd_standard type.Int = refl
fd_standard type.Uint = refl
fd_standard type.Fixed = refl
fd_standard (type.Str maybe) = refl
fd_standard (type.Object maybe) = refl
fd_standard type.NewId = refl
fd_standard type.Array = refl
fd_standard type.Fd = refl

pub one_same : {X : Type 0} (s t : ArgumentType) (bs : List ℕ) (xs : List X) → kind s ≡ kind t → one s bs xs ≡ one t bs xs
one_same s t bs xs e = one_standard s bs xs ∙ ap (λ k. one (standard k) bs xs) e ∙ sym (one_standard t bs xs)

fd_same : (s t : ArgumentType) → kind s ≡ kind t → fd_of s ≡ fd_of t
fd_same s t e = fd_standard s ∙ ap (λ k. fd_of (standard k)) e ∙ sym (fd_standard t)

fd_of_value : {X : Type 0} (v : Value X) → fd_of (type_of_value v) ≡ length (carried v)
fd_of_value (int z) = refl
fd_of_value (uint n) = refl
fd_of_value (fixed z) = refl
fd_of_value (string bs) = refl
fd_of_value null = refl
fd_of_value (object n) = refl
fd_of_value (new_id n) = refl
fd_of_value (array bs) = refl
fd_of_value (descriptor x) = refl

-- a signature has as many descriptors as values of it
pub fds_counted : {X : Type 0} (ts : List ArgumentType) (vs : List (Value X)) → Typed ts vs → fd_count ts ≡ length (descriptors vs)
fds_counted [] [] h = refl
fds_counted [] (v ∷ vs) h = absurd h
fds_counted (t ∷ ts) [] h = absurd h
fds_counted (t ∷ ts) (v ∷ vs) h =
    ap (λ n. n + fd_count ts) (fd_same t (type_of_value v) h.0 ∙ fd_of_value v)
    ∙ ap (λ n. length (carried v) + n) (fds_counted ts vs h.2)
    ∙ sym (length-append (carried v) (descriptors vs))

-- a word
number_read : {X : Type 0} (f : ℕ → Value X) (n : ℕ) (bs rest : List ℕ) → Fits (known (word n)) bs → n < 2 ^ 32 → number f (bs ++ rest) ≡ Some (f n)
number_read f n bs rest h l =
    ap (λ x. number f (x ++ rest)) (fits_known (word n) bs h)
    ∙ cond-true _ _ _ (le-leb 4 (length (word n ++ rest)) (omega arith))
    ∙ ap (λ k. Some (f k)) (word_read n rest l)

-- a block
module _ (bs front rest : List ℕ) (b : Blocked bs front) (l : length bs < 2 ^ 32) where
  joined : front ++ rest ≡ word (length bs) ++ (bs ++ (b.pad ++ rest))
  joined = ap (λ x. x ++ rest) b.bytes ∙ append_assoc (word (length bs)) (bs ++ b.pad) rest ∙ ap (λ x. word (length bs) ++ x) (append_assoc bs b.pad rest)

  block_word : word_at (front ++ rest) ≡ length bs
  block_word = ap word_at joined ∙ word_read (length bs) (bs ++ (b.pad ++ rest)) l

  length_of_block : length (front ++ rest) ≡ 4 + (length bs + (padding (length bs) + length rest))
  length_of_block =
      let j = ap length joined in
      let m = length-append bs (b.pad ++ rest) in
      let n = length-append b.pad rest in
      let p = b.padded in
      omega arith

  block_whole : whole (front ++ rest) ≡ true
  block_whole =
      and_from _ _ (le-leb 4 (length (front ++ rest)) (let e = length_of_block in omega arith))
      (le-leb _ _ (subst (λ (n : ℕ). 4 + (n + padding n) ≤ length (front ++ rest)) (sym block_word) (let e = length_of_block in omega arith)))

  block_inner : inner (front ++ rest) ≡ bs
  block_inner =
      ap (λ (n : ℕ). take n (drop 4 (front ++ rest))) block_word
      ∙ ap (λ (x : List ℕ). take (length bs) (drop 4 x)) joined
      ∙ take_at bs (b.pad ++ rest) (length bs) refl

-- the bytes before a final 0
text_read : {X : Type 0} (bs : List ℕ) → no_zero bs ≡ true → text {X = X} (bs ++ 0 ∷ []) ≡ Some (string bs)
text_read bs h =
    let l : length (bs ++ 0 ∷ []) ≡ length bs + 1 = length_push bs 0 in
    let z : length (bs ++ 0 ∷ []) - 1 ≡ length bs = omega arith in
    let front : take (length (bs ++ 0 ∷ []) - 1) (bs ++ 0 ∷ []) ≡ bs = ap (λ (n : ℕ). take n (bs ++ 0 ∷ [])) z ∙ take_at bs (0 ∷ []) (length bs) refl in
    let last : get_or (bs ++ 0 ∷ []) (length (bs ++ 0 ∷ []) - 1) 1 ≡ 0 = ap (λ (n : ℕ). get_or (bs ++ 0 ∷ []) n 1) z ∙ get_or_at bs 0 [] 1 (length bs) refl in
    cond-false _ _ _ (ne_eqb (length (bs ++ 0 ∷ [])) 0 (λ (e : length (bs ++ 0 ∷ []) ≡ 0). omega arith))
    ∙ cond-true _ _ _ (and_from _ _ (eq-eqb _ _ last) (ap no_zero front ∙ h))
    ∙ ap (λ (x : List ℕ). Some (string x)) front

bits_small : (z : ℤ) → SFits w32 z → of_z w32 z < 2 ^ 32
bits_small (pos n) h = omega (arith, h.sfits)
bits_small (negsuc n) h = omega arith

-- one value
pub one_read : {X : Type 0} (v : Value X) (bs rest : List ℕ) (xs : List X) → Carries v → Fits (field v) bs → length bs < 2 ^ 32 → one (type_of_value v) (bs ++ rest) (carried v ++ xs) ≡ Some v
one_read (int z) bs rest xs h f l = number_read (λ n. int (to_z w32 n)) (of_z w32 z) bs rest f (bits_small z h) ∙ ap (λ y. Some (int y)) (to_z-of_z w32 z h)
one_read (uint n) bs rest xs h f l = number_read uint n bs rest f h
one_read (fixed z) bs rest xs h f l = number_read (λ n. fixed (to_z w32 n)) (of_z w32 z) bs rest f (bits_small z h) ∙ ap (λ y. Some (fixed y)) (to_z-of_z w32 z h)
one_read (string s) bs rest xs h f l =
    let b = fits_block (s ++ 0 ∷ []) bs f in
    let m : length (s ++ 0 ∷ []) < 2 ^ 32 = (let e = fits_length (block (s ++ 0 ∷ [])) bs f in let d = length_block (s ++ 0 ∷ []) in omega arith) in
    cond-true _ _ _ (block_whole (s ++ 0 ∷ []) bs rest b m) ∙ ap text (block_inner (s ++ 0 ∷ []) bs rest b m) ∙ text_read s h
one_read null bs rest xs h f l =
    let b = fits_block [] bs f in
    cond-true _ _ _ (block_whole [] bs rest b (omega arith)) ∙ ap text (block_inner [] bs rest b (omega arith))
one_read (object n) bs rest xs h f l = number_read object n bs rest f h
one_read (new_id n) bs rest xs h f l = number_read new_id n bs rest f h
one_read (array s) bs rest xs h f l =
    let b = fits_block s bs f in
    let m : length s < 2 ^ 32 = (let e = fits_length (block s) bs f in let d = length_block s in omega arith) in
    cond-true _ _ _ (block_whole s bs rest b m) ∙ ap (λ (x : List ℕ). Some (array x)) (block_inner s bs rest b m)
one_read (descriptor x) bs rest xs h f l = refl

-- the values of a message, one after another, whatever follows
pub values_read : {X : Type 0} (ts : List ArgumentType) (vs : List (Value X)) (bs rest : List ℕ) (more : List X)
    → Typed ts vs → Fits (fields vs) bs → length bs < 2 ^ 32 → values ts (bs ++ rest) (descriptors vs ++ more) ≡ Some vs
values_read [] [] bs rest more h f l = refl
values_read [] (v ∷ vs) bs rest more h f l = absurd h
values_read (t ∷ ts) [] bs rest more h f l = absurd h
values_read (t ∷ ts) (v ∷ vs) bs rest more h f l =
    let s = fits_split (field v) (fields vs) bs f in
    let e : bs ++ rest ≡ s.first ++ (s.second ++ rest) = ap (λ x. x ++ rest) s.whole ∙ append_assoc s.first s.second rest in
    let d : descriptors (v ∷ vs) ++ more ≡ carried v ++ (descriptors vs ++ more) = append_assoc (carried v) (descriptors vs) more in
    let n = ap length s.whole ∙ length-append s.first s.second in
    let len = fits_length (field v) s.first s.fits_first in
    let o : one t (s.first ++ (s.second ++ rest)) (carried v ++ (descriptors vs ++ more)) ≡ Some v =
    one_same t (type_of_value v) _ _ h.0 ∙ one_read v s.first (s.second ++ rest) (descriptors vs ++ more) h.1 s.fits_first (omega arith) in
    ap (λ x. values (t ∷ ts) x (descriptors (v ∷ vs) ++ more)) e
    ∙ ap (λ x. values (t ∷ ts) (s.first ++ (s.second ++ rest)) x) d
    ∙ ap (λ x. then x (λ w. before w (values ts (drop (length (field w)) (s.first ++ (s.second ++ rest))) (drop (length (carried w)) (carried v ++ (descriptors vs ++ more)))))) o
    ∙ ap (λ x. before v (values ts x (drop (length (carried v)) (carried v ++ (descriptors vs ++ more))))) (drop_at s.first (s.second ++ rest) (length (field v)) len)
    ∙ ap (λ x. before v (values ts (s.second ++ rest) x)) (drop_at (carried v) (descriptors vs ++ more) (length (carried v)) refl)
    ∙ ap (before v) (values_read ts vs s.second rest more h.2 s.fits_second (omega arith))

-- the header of a frame, and its arguments behind it
record Headed {X : Type 0} (m : Message X) (size : ℕ) (front : List ℕ) : Type 0 where
  body : List ℕ
  bytes : front ≡ word m.sender ++ (word (size * 65536 + m.opcode) ++ body)
  fits : Fits (fields m.args) body

headed : {X : Type 0} (m : Message X) (size : ℕ) (front : List ℕ) → Fits (frame_sized size m) front → Headed m size front
headed m size front f =
    let s = fits_split (known (word m.sender)) (known (word (size * 65536 + m.opcode)) ++ fields m.args) front f in
    let t = fits_split (known (word (size * 65536 + m.opcode))) (fields m.args) s.second s.fits_second in
    record {
      body = t.second;
      bytes = s.whole ∙ ap (λ x. x ++ s.second) (fits_known (word m.sender) s.first s.fits_first) ∙ ap (λ x. word m.sender ++ x) (t.whole ∙ ap (λ x. x ++ t.second) (fits_known (word (size * 65536 + m.opcode)) t.first t.fits_first));
      fits = t.fits_second;
    }

abbrev answered : {X : Type 0} → ℕ → ℕ → List (Value X) → ℕ → List ℕ → List X → Result (Parsed X) Refusal
answered s o vs n rest left = Ok (record { message = record { sender = s; opcode = o; args = vs }; size = n; rest = rest; left = left })

same : {X : Type 0} (s s' o o' n n' : ℕ) (rest rest' : List ℕ) (left left' : List X) (vs : List (Value X)) → s ≡ s' → o ≡ o' → n ≡ n' → rest ≡ rest' → left ≡ left'
    → answered s o vs n rest left ≡ answered s' o' vs n' rest' left'
same s s' o o' n n' rest rest' left left' vs p q r t u = cc

pub reads_frames : {X : Type 0} (room : ℕ) (ts : List ArgumentType) (raw : List ℕ) (xs : List X) → ReadsFrames room ts raw xs
reads_frames {X} room ts raw xs m front rest more w f e d r =
    let h = headed m (size_of m) front f in
    let all : raw ≡ word m.sender ++ (word (size_of m * 65536 + m.opcode) ++ (h.body ++ rest)) =
    e ∙ ap (λ (x : List ℕ). x ++ rest) h.bytes in
    let len : length front ≡ size_of m = fits_length (frame m) front f ∙ omega arith in
    let second : word_at (drop 4 raw) ≡ size_of m * 65536 + m.opcode = ap (λ (x : List ℕ). word_at (drop 4 x)) all ∙ word_read (size_of m * 65536 + m.opcode) (h.body ++ rest) (let a = w.opcode in let b = w.size in omega arith) in
    let size : size_at raw ≡ size_of m = ap (λ (n : ℕ). n / 65536) second ∙ (let a = w.opcode in omega arith) in
    let code : opcode_at raw ≡ m.opcode = ap (λ (n : ℕ). n % 65536) second ∙ (let a = w.opcode in omega arith) in
    let sender : word_at raw ≡ m.sender = ap word_at all ∙ word_read m.sender (word (size_of m * 65536 + m.opcode) ++ (h.body ++ rest)) w.sender in
    let n : length raw ≡ length front + length rest = ap length e ∙ length-append front rest in
    let body : drop 8 (take (size_at raw) raw) ≡ h.body =
    ap (λ (k : ℕ). drop 8 (take k raw)) size ∙ ap (λ (x : List ℕ). drop 8 (take (size_of m) x)) e ∙ ap (drop 8) (take_at front rest (size_of m) len) ∙ ap (drop 8) h.bytes in
    let length_of_body : length h.body ≡ length (fields m.args) = fits_length (fields m.args) h.body h.fits in
    let fds : length xs ≡ length (descriptors m.args) + length more = ap length d ∙ length-append (descriptors m.args) more in
    let vs : values ts (drop 8 (take (size_at raw) raw)) xs ≡ Some m.args =
    ap (λ (x : List ℕ). values ts x xs) (body ∙ sym (append-nil h.body)) ∙ ap (values ts (h.body ++ [])) d
    ∙ values_read ts m.args h.body [] more w.args h.fits (let b = w.size in omega arith) in
    after_checks room ts raw xs (omega arith, omega arith, omega arith) (let c = fds_counted ts m.args w.args in omega arith) r
    ∙ ap (parsed raw xs) vs
    ∙ same (word_at raw) m.sender (opcode_at raw) m.opcode (size_at raw) (size_of m) (drop (size_at raw) raw) rest (drop (length (descriptors m.args)) xs) more m.args sender code size
    (ap (λ (k : ℕ). drop k raw) size ∙ ap (drop (size_of m)) e ∙ drop_at front rest (size_of m) len)
    (ap (drop (length (descriptors m.args))) d ∙ drop_at (descriptors m.args) more (length (descriptors m.args)) refl)
