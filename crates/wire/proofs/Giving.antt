-- Whatever is read fits the frame of what it gave.
use Rattle.std.proofs.Common.{◌≡◌, ℕ, ◌+◌, ◌-◌, ◌*◌, ◌^◌, ◌<◌, ◌≤◌, true, List, [], ◌∷◌, ◌++◌, length, get_or, take, drop, Some, Option, sym, refl, ap, ◌∙◌, subst, inl, inr, div-add-mod', arith, take-add, w32, to_z}
use Rattle.std.proofs.lemmas.List.{append_assoc, length-append, take-append-drop, drop-drop, length-take, length-drop, get_or-drop, get_or-take, nil_from_length, drop-append-le, get_or_past}
use Rattle.std.proofs.lemmas.Int.{of_z-to_z}
use Rattle.std.proofs.lemmas.Nat.{le_bytes_4}
use mir.ValLaws.{to_z-Fits}
use Rattle.std.proofs.lemmas.Bool.{cases_lt}
use Rattle.protocol.specs.declared.argument.ArgumentType.{ArgumentType}
use Rattle.protocol.specs.declared.argument.ArgumentType.TheVariants as type
use Rattle.protocol.specs.Types.{kind}
use Rattle.wire.specs.Values.{Value, int, uint, fixed, object, new_id, descriptor, carried, descriptors}
use Rattle.wire.specs.Frame.{Fits, known, word, padding, block, field, fields}
use Rattle.wire.specs.Read.{word_at, number, whole, inner, text, first, one, before, values, size_at, opcode_at}
use Rattle.wire.specs.Laws.{type_of_value, Carries, Typed, Framed, GivesFrames}
use Rattle.wire.proofs.Fitting.{block_fits, fits_join, known_fits}
use Rattle.wire.proofs.Parsing.{given_as, parse_got}
use Rattle.wire.proofs.Walk.{length_block, then_got, before_got, one_within, number_got, text_got, array_got, whole_fits, length_inner}
use Rattle.wire.proofs.Outcomes.{passed}

-- each of them is a byte
abbrev pub Bytes : List ℕ → Type 0
Bytes bs = (k : ℕ) → get_or bs k 0 < 256

pub bytes_drop : (n : ℕ) (bs : List ℕ) → Bytes bs → Bytes (drop n bs)
bytes_drop n bs h k = subst (λ (b : ℕ). b < 256) (sym (get_or-drop n bs k 0)) (h (n + k))

bytes_take : (n : ℕ) (bs : List ℕ) → Bytes bs → Bytes (take n bs)
bytes_take n bs h k = elim (cases_lt k n) [
  | inl l ↦ subst (λ (b : ℕ). b < 256) (sym (get_or-take n bs k 0 l)) (h k)
  | inr l ↦ subst (λ (b : ℕ). b < 256) (sym (get_or_past (take n bs) k 0 (simp length-take (omega arith)))) (omega arith)
]

-- the first four bytes are the word of their number
four : (bs : List ℕ) → Bytes bs → 4 ≤ length bs → take 4 bs ≡ word (word_at bs)
four [] h l = absurd (omega arith)
four (a ∷ []) h l = absurd (omega arith)
four (a ∷ b ∷ []) h l = absurd (omega arith)
four (a ∷ b ∷ c ∷ []) h l = absurd (omega arith)
four (a ∷ b ∷ c ∷ d ∷ bs) h l = sym (le_bytes_4 (a ∷ b ∷ c ∷ d ∷ []) _ refl (bytes_take 4 (a ∷ b ∷ c ∷ d ∷ bs) h) refl)

word_small : (bs : List ℕ) → Bytes bs → word_at bs < 2 ^ 32
word_small bs h = let a = h 0 in let b = h 1 in let c = h 2 in let d = h 3 in omega arith

-- an argument that was read: its type, that the format carries it, and its bytes
pub record Given {X : Type 0} (t : ArgumentType) (bs : List ℕ) (xs : List X) (v : Value X) : Type 0 where
  kinds : kind t ≡ kind (type_of_value v)
  carries : Carries v
  fits : Fits (field v) (take (length (field v)) bs)
  taken : xs ≡ carried v ++ drop (length (carried v)) xs

given_fd : {X : Type 0} {bs : List ℕ} (xs : List X) (v : Value X) → first xs ≡ Some v → Given type.Fd bs xs v
given_fd {X} {bs} [] v e = cc
given_fd {X} {bs} (x ∷ xs) v e =
    let q : descriptor x ≡ v = cc in
    subst (Given type.Fd bs (x ∷ xs)) q (record { kinds = refl; carries = tt; fits = tt; taken = refl })

module _ {X : Type 0} (bs : List ℕ) (xs : List X) (h : Bytes bs) where
  given_number : (t : ArgumentType) (f : ℕ → Value X) (v : Value X) → number f bs ≡ Some v
      → ((n : ℕ) → n < 2 ^ 32 → (kind t ≡ kind (type_of_value (f n))) × Carries (f n) × (field (f n) ≡ known (word n)) × (carried (f n) ≡ [])) → Given t bs xs v
  given_number t f v e facts =
      let g = number_got f bs v e in
      let w = facts (word_at bs) (word_small bs h) in
      subst (Given t bs xs) (sym g.1) (record {
        kinds = w.0;
        carries = w.1;
        fits = subst (λ (x : List (Option ℕ)). Fits x (take (length x) bs)) (sym w.2) (subst (Fits (known (word (word_at bs)))) (sym (four bs h g.0)) (known_fits (word (word_at bs))));
        taken = subst (λ (x : List X). xs ≡ x ++ drop (length x) xs) (sym w.3) refl;
      })

  -- the bytes of a block, cut out of what is there
  given_block : (cs : List ℕ) → whole bs ≡ true → cs ≡ inner bs → Fits (block cs) (take (length (block cs)) bs)
  given_block cs w e =
      let l : length cs ≡ word_at bs = ap length e ∙ length_inner bs w in
      let fit = whole_fits bs w in
      let size : length (block cs) ≡ 4 + (length cs + padding (length cs)) = length_block cs in
      let pad : List ℕ = take (padding (length cs)) (drop (length cs) (drop 4 bs)) in
      let room : padding (length cs) ≤ length bs - 4 - length cs = subst (λ (n : ℕ). padding n ≤ length bs - 4 - n) (sym l) (omega arith) in
      let padded : length (take (padding (length cs)) (drop (length cs) (drop 4 bs))) ≡ padding (length cs) = simp (length-take, length-drop) (omega arith) in
      let bytes : take (length (block cs)) bs ≡ word (length cs) ++ (cs ++ take (padding (length cs)) (drop (length cs) (drop 4 bs))) =
      ap (λ (n : ℕ). take n bs) size
      ∙ take-add 4 (length cs + padding (length cs)) bs
      ∙ ap (λ (x : List ℕ). x ++ take (length cs + padding (length cs)) (drop 4 bs)) (four bs h (omega arith) ∙ ap word (sym l))
      ∙ ap (λ (x : List ℕ). word (length cs) ++ x) (take-add (length cs) (padding (length cs)) (drop 4 bs)
      ∙ ap (λ (x : List ℕ). x ++ take (padding (length cs)) (drop (length cs) (drop 4 bs))) (ap (λ (n : ℕ). take n (drop 4 bs)) l ∙ sym e)) in
      subst (Fits (block cs)) (sym bytes) (block_fits cs (take (padding (length cs)) (drop (length cs) (drop 4 bs))) padded)

  given : (t : ArgumentType) (v : Value X) → one t bs xs ≡ Some v → Given t bs xs v
  given type.Int v e = given_number type.Int (λ n. int (to_z w32 n)) v e (λ n l. (refl, to_z-Fits w32 n (record { fits = l }), ap (λ k. known (word k)) (of_z-to_z w32 n l), refl))
  given type.Uint v e = given_number type.Uint uint v e (λ n l. (refl, l, refl, refl))
  given type.Fixed v e = given_number type.Fixed (λ n. fixed (to_z w32 n)) v e (λ n l. (refl, to_z-Fits w32 n (record { fits = l }), ap (λ k. known (word k)) (of_z-to_z w32 n l), refl))
  given (type.Str maybe) v e =
      let p = passed (whole bs) (text (inner bs)) v e in
      elim (text_got (inner bs) v p.1) [
        | inl n ↦ subst (Given (type.Str maybe) bs xs) (sym n.1) (record { kinds = refl; carries = tt; fits = given_block [] p.0 (sym (nil_from_length (inner bs) n.0)); taken = refl })
        | inr s ↦ subst (Given (type.Str maybe) bs xs) (sym s.2) (record { kinds = refl; carries = s.1.clean; fits = given_block (s.0 ++ 0 ∷ []) p.0 s.1.bytes; taken = refl })
      ]
  given (type.Object maybe) v e = given_number (type.Object maybe) object v e (λ n l. (refl, l, refl, refl))
  given type.NewId v e = given_number type.NewId new_id v e (λ n l. (refl, l, refl, refl))
  given type.Array v e =
      let p = array_got bs v e in
      subst (Given type.Array bs xs) (sym p.1) (record { kinds = refl; carries = tt; fits = given_block (inner bs) p.0 refl; taken = refl })
  given type.Fd v e = given_fd xs v e

-- the values that were read, and their bytes
record AllGiven {X : Type 0} (ts : List ArgumentType) (bs : List ℕ) (xs : List X) (vs : List (Value X)) : Type 0 where
  typed : Typed ts vs
  fits : Fits (fields vs) (take (length (fields vs)) bs)
  inside : length (fields vs) ≤ length bs
  taken : xs ≡ descriptors vs ++ drop (length (descriptors vs)) xs

given_more : {X : Type 0} (t : ArgumentType) (ts : List ArgumentType) (bs : List ℕ) (xs : List X) (v : Value X) (us : List (Value X))
    → Given t bs xs v → length (field v) ≤ length bs → AllGiven ts (drop (length (field v)) bs) (drop (length (carried v)) xs) us → AllGiven (t ∷ ts) bs xs (v ∷ us)
given_more t ts bs xs v us g w r = record {
  typed = (g.kinds, g.carries, r.typed);
  fits = rw (length-append, take-add) (fits_join (field v) (fields us) (take (length (field v)) bs) (take (length (fields us)) (drop (length (field v)) bs)) g.fits r.fits);
  inside = (let n = length-append (field v) (fields us) in let room = r.inside in let left = length-drop (length (field v)) bs in omega arith);
  taken =
      g.taken
      ∙ ap (λ x. carried v ++ x) r.taken
      ∙ sym (append_assoc (carried v) (descriptors us) (drop (length (descriptors us)) (drop (length (carried v)) xs)))
      ∙ ap (λ x. (carried v ++ descriptors us) ++ x) (drop-drop (length (descriptors us)) (length (carried v)) xs ∙ ap (λ k. drop k xs) (sym (length-append (carried v) (descriptors us))));
}

all_given : {X : Type 0} (ts : List ArgumentType) (bs : List ℕ) (xs : List X) (vs : List (Value X)) → Bytes bs → values ts bs xs ≡ Some vs → AllGiven ts bs xs vs
all_given [] bs xs vs h e = let q : [] ≡ vs = cc in subst (AllGiven [] bs xs) q (record { typed = tt; fits = tt; inside = omega arith; taken = refl })
all_given (t ∷ ts) bs xs vs h e =
    let p = then_got (one t bs xs) (λ v. before v (values ts (drop (length (field v)) bs) (drop (length (carried v)) xs))) vs e in
    let q = before_got p.0 (values ts (drop (length (field p.0)) bs) (drop (length (carried p.0)) xs)) vs p.2 in
    subst (AllGiven (t ∷ ts) bs xs) (sym q.2)
    (given_more t ts bs xs p.0 q.0 (given bs xs h t p.0 p.1) (one_within t bs xs p.0 p.1).0 (all_given ts (drop (length (field p.0)) bs) (drop (length (carried p.0)) xs) q.0 (bytes_drop (length (field p.0)) bs h) q.1))

module _ {X : Type 0} (ts : List ArgumentType) (raw : List ℕ) (xs : List X) (vs : List (Value X)) (h : Bytes raw) (l : 8 ≤ length raw) (s : 8 ≤ size_at raw) (w : size_at raw ≤ length raw)
    (g : AllGiven ts (drop 8 (take (size_at raw) raw)) xs vs) where
  abbrev body : List ℕ
  body = drop 8 (take (size_at raw) raw)

  body_length : length body ≡ size_at raw - 8
  body_length = simp (length-drop, length-take) (omega arith)

  second : take 4 (drop 4 raw) ≡ word (size_at raw * 65536 + opcode_at raw)
  second =
      four (drop 4 raw) (bytes_drop 4 raw h) (simp length-drop (omega arith))
      ∙ ap word (sym (div-add-mod' (word_at (drop 4 raw)) 65536))

  -- the bytes behind the header: the frame's, and those past it
  behind : drop 8 raw ≡ body ++ drop (size_at raw) raw
  behind =
      ap (drop 8) (sym (take-append-drop (size_at raw) raw))
      ∙ drop-append-le 8 (take (size_at raw) raw) (drop (size_at raw) raw) (simp length-take (omega arith))

  cut : raw ≡ (take 4 raw ++ (take 4 (drop 4 raw) ++ take (length (fields vs)) body)) ++ (drop (length (fields vs)) body ++ drop (size_at raw) raw)
  cut =
      sym (take-append-drop 4 raw)
      ∙ ap (λ (x : List ℕ). take 4 raw ++ x)
      (sym (take-append-drop 4 (drop 4 raw))
      ∙ ap (λ (x : List ℕ). take 4 (drop 4 raw) ++ x)
      (drop-drop 4 4 raw ∙ behind
      ∙ ap (λ (x : List ℕ). x ++ drop (size_at raw) raw) (sym (take-append-drop (length (fields vs)) body))
      ∙ append_assoc (take (length (fields vs)) body) (drop (length (fields vs)) body) (drop (size_at raw) raw))
      ∙ sym (append_assoc (take 4 (drop 4 raw)) (take (length (fields vs)) body) (drop (length (fields vs)) body ++ drop (size_at raw) raw)))
      ∙ sym (append_assoc (take 4 raw) (take 4 (drop 4 raw) ++ take (length (fields vs)) body) (drop (length (fields vs)) body ++ drop (size_at raw) raw))

  sized : size_at raw ≡ length (take 4 raw ++ (take 4 (drop 4 raw) ++ take (length (fields vs)) body)) + length (drop (length (fields vs)) body)
  sized = simp (length-append, length-take, length-drop) (omega (arith, g.inside, body_length))

  framed : Framed ts raw xs (given_as raw xs vs)
  framed = record {
    front = take 4 raw ++ (take 4 (drop 4 raw) ++ take (length (fields vs)) body);
    ignored = drop (length (fields vs)) body;
    bytes = cut;
    fits =
        fits_join (known (word (word_at raw))) (known (word (size_at raw * 65536 + opcode_at raw)) ++ fields vs) (take 4 raw) (take 4 (drop 4 raw) ++ take (length (fields vs)) body)
        (subst (Fits (known (word (word_at raw)))) (sym (four raw h (omega arith))) (known_fits (word (word_at raw))))
        (fits_join (known (word (size_at raw * 65536 + opcode_at raw))) (fields vs) (take 4 (drop 4 raw)) (take (length (fields vs)) body)
        (subst (Fits (known (word (size_at raw * 65536 + opcode_at raw)))) (sym second) (known_fits (word (size_at raw * 65536 + opcode_at raw))))
        g.fits);
    size = sized;
    typed = g.typed;
    descriptors_are = g.taken;
  }

pub gives_frames : {X : Type 0} (room : ℕ) (ts : List ArgumentType) (raw : List ℕ) (xs : List X) → Bytes raw → GivesFrames room ts raw xs
gives_frames room ts raw xs h p e =
    let g = parse_got room ts raw xs p e in
    subst (Framed ts raw xs) g.is
    (framed ts raw xs g.args h g.header g.small g.whole (all_given ts (drop 8 (take (size_at raw) raw)) xs g.args (bytes_drop 8 (take (size_at raw) raw) (bytes_take (size_at raw) raw h)) g.read))
