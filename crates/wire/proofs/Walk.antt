-- One step of reading the arguments of a frame, one after another.
use Rattle.std.proofs.Common.{◌≡◌, ℕ, suc, ◌+◌, ◌-◌, ◌<◌, ◌≤◌, true, cond, leb, ◌⊎◌, List, [], ◌∷◌, ◌++◌, length, get_or, take, Some, None, Option, sym, refl, ap, ◌∙◌, subst, inl, inr, arith, w32, to_z}
use Rattle.std.proofs.lemmas.List.{length-append, length-replicate, length-take, length-drop, take_more, take_all}
use Rattle.std.proofs.lemmas.Bool.{cond-true, cond-false, leb-true, and_parts, cases_eq, eq-eqb, ne_eqb, eqb-true}
use Rattle.std.specs.Option.{option_map}
use Rattle.protocol.specs.declared.argument.Argument.{Argument}
use Rattle.protocol.specs.declared.argument.ArgumentType.{ArgumentType}
use Rattle.protocol.specs.declared.argument.ArgumentType.TheVariants as type
use Rattle.wire.specs.Values.{Value, int, uint, fixed, string, null, object, new_id, array, descriptor, carried}
use Rattle.wire.specs.Frame.{known, block, field}
use Rattle.wire.specs.Read.{word_at, number, no_zero, whole, inner, ended, text, one, then, before}
use Rattle.wire.specs.Records.{block_length, field_length, carried_by, record_of, records_of}
use Rattle.wire.proofs.Outcomes.{mapped_some, passed}

pub length_known : (bs : List ℕ) → length (known bs) ≡ length bs
length_known [] = refl
length_known (b ∷ bs) = ap suc (length_known bs)

pub length_block : (bs : List ℕ) → length (block bs) ≡ block_length (length bs)
length_block bs = simp (length-append, length_known, length-replicate) (omega arith)

-- a record takes as many bytes, and carries as many descriptors, as its value
pub record_length : {X : Type 0} (at : ℕ) (v : Value X) → field_length (record_of at v) ≡ length (field v)
record_length at (int z) = refl
record_length at (uint n) = refl
record_length at (fixed z) = refl
record_length at (string bs) = ap block_length (sym (length-append bs (0 ∷ []))) ∙ sym (length_block (bs ++ 0 ∷ []))
record_length at null = refl
record_length at (object n) = refl
record_length at (new_id n) = refl
record_length at (array bs) = sym (length_block bs)
record_length at (descriptor x) = refl

pub record_carries : {X : Type 0} (at : ℕ) (v : Value X) → carried_by (record_of at v) ≡ carried v
record_carries at (int z) = refl
record_carries at (uint n) = refl
record_carries at (fixed z) = refl
record_carries at (string bs) = refl
record_carries at null = refl
record_carries at (object n) = refl
record_carries at (new_id n) = refl
record_carries at (array bs) = refl
record_carries at (descriptor x) = refl

pub number_got : {X : Type 0} (f : ℕ → Value X) (bs : List ℕ) (v : Value X) → number f bs ≡ Some v → (4 ≤ length bs) × (v ≡ f (word_at bs))
number_got f bs v e = let p = passed (leb 4 (length bs)) (Some (f (word_at bs))) v e in (leb-true _ _ p.0, let q = p.1 in cc)

pub whole_fits : (bs : List ℕ) → whole bs ≡ true → block_length (word_at bs) ≤ length bs
whole_fits bs h = leb-true _ _ (and_parts _ _ h).1

pub length_inner : (bs : List ℕ) → whole bs ≡ true → length (inner bs) ≡ word_at bs
length_inner bs h = let w = whole_fits bs h in simp (length-take, length-drop) (omega arith)

-- bytes that end in their only 0
pub record Ended (bs s : List ℕ) : Type 0 where
  pub bytes : s ++ 0 ∷ [] ≡ bs
  pub clean : no_zero s ≡ true

ended_got : (bs : List ℕ) → 0 < length bs → ended bs ≡ true → Ended bs (take (length bs - 1) bs)
ended_got bs h e =
    let p = and_parts _ _ e in
    let i : ℕ = length bs - 1 in
    let z : get_or bs (length bs - 1) 1 ≡ 0 = eqb-true _ _ p.0 in
    record {
      bytes =
          ap (λ (b : ℕ). take (length bs - 1) bs ++ b ∷ []) (sym z)
          ∙ sym (take_more bs (length bs - 1) 1 (omega arith))
          ∙ take_all (length bs - 1 + 1) bs (omega arith);
      clean = p.1;
    }

-- what a text may be: null where there are no bytes, else the bytes before a final 0
pub text_got : {X : Type 0} (bs : List ℕ) (v : Value X) → text bs ≡ Some v → ((length bs ≡ 0) × (v ≡ null)) ⊎ ((s : List ℕ) × Ended bs s × (v ≡ string s))
text_got bs v e = elim (cases_eq (length bs) 0) [
  | inl z ↦ inl (z, (let q = sym (cond-true _ _ _ (eq-eqb _ _ z)) ∙ e in cc))
  | inr n ↦ inr (let p = passed (ended bs) (Some (string (take (length bs - 1) bs))) v (sym (cond-false _ _ _ (ne_eqb _ _ n)) ∙ e) in (take (length bs - 1) bs, ended_got bs (omega arith) p.0, (let q = p.1 in cc)))
]

pub array_got : {X : Type 0} (bs : List ℕ) (v : Value X) → cond (whole bs) (Some (array (inner bs))) None ≡ Some v → (whole bs ≡ true) × (v ≡ array (inner bs))
array_got bs v e = let p = passed (whole bs) (Some (array (inner bs))) v e in (p.0, (let q = p.1 in cc))

pub length_whole : (bs : List ℕ) → whole bs ≡ true → length (block (inner bs)) ≡ block_length (word_at bs)
length_whole bs h = length_block (inner bs) ∙ ap block_length (length_inner bs h)

-- an argument that was read lies in the bytes, and its descriptor among those to come
abbrev Within : {X : Type 0} → List ℕ → List X → Value X → Type 0
Within bs xs v = (length (field v) ≤ length bs) × (length (carried v) ≤ length xs)

number_within : {X : Type 0} (f : ℕ → Value X) (bs : List ℕ) (xs : List X) (v : Value X) → ((n : ℕ) → (length (field (f n)) ≡ 4) × (length (carried (f n)) ≡ 0)) → number f bs ≡ Some v → Within bs xs v
number_within f bs xs v four e = let g = number_got f bs v e in subst (Within bs xs) (sym g.1) (let q = four (word_at bs) in (omega arith, omega arith))

pub one_within : {X : Type 0} (t : ArgumentType) (bs : List ℕ) (xs : List X) (v : Value X) → one t bs xs ≡ Some v → Within bs xs v
one_within type.Int bs xs v e = number_within (λ n. int (to_z w32 n)) bs xs v (λ n. (refl, refl)) e
one_within type.Uint bs xs v e = number_within uint bs xs v (λ n. (refl, refl)) e
one_within type.Fixed bs xs v e = number_within (λ n. fixed (to_z w32 n)) bs xs v (λ n. (refl, refl)) e
one_within (type.Str maybe) bs xs v e =
    let p = passed (whole bs) (text (inner bs)) v e in
    let w = whole_fits bs p.0 in
    elim (text_got (inner bs) v p.1) [
      | inl n ↦ subst (Within bs xs) (sym n.1) (omega arith, omega arith)
      | inr s ↦ subst (Within bs xs) (sym s.2) ((let l : length (block (s.0 ++ 0 ∷ [])) ≡ block_length (word_at bs) = ap (λ (i : List ℕ). length (block i)) s.1.bytes ∙ length_whole bs p.0 in omega arith), omega arith)
    ]
one_within (type.Object maybe) bs xs v e = number_within object bs xs v (λ n. (refl, refl)) e
one_within type.NewId bs xs v e = number_within new_id bs xs v (λ n. (refl, refl)) e
one_within type.Array bs xs v e =
    let p = array_got bs v e in
    let w = whole_fits bs p.0 in
    let l = length_whole bs p.0 in
    subst (Within bs xs) (sym p.1) (omega arith, omega arith)
one_within type.Fd bs [] v e = cc
one_within type.Fd bs (x ∷ xs) v e = let q : descriptor x ≡ v = cc in subst (Within bs (x ∷ xs)) q (omega arith, omega arith)

-- an argument that was read at a place, by its record
pub record Stepped {X : Type 0} (t : ArgumentType) (at : ℕ) (bs : List ℕ) (xs : List X) (a : Argument X) : Type 0 where
  pub value : Value X
  pub read : one t bs xs ≡ Some value
  pub is : a ≡ record_of at value
  pub size : field_length a ≡ length (field value)
  pub inside : length (field value) ≤ length bs
  pub carries : length (carried_by a) ≡ length (carried value)
  pub there : length (carried value) ≤ length xs

pub stepped : {X : Type 0} (t : ArgumentType) (at : ℕ) (bs : List ℕ) (xs : List X) (a : Argument X) → Some a ≡ option_map (record_of at) (one t bs xs) → Stepped t at bs xs a
stepped t at bs xs a e =
    let m = mapped_some (record_of at) (one t bs xs) a e in
    let w = one_within t bs xs m.0 m.1 in
    record {
      value = m.0;
      read = m.1;
      is = m.2;
      size = ap field_length m.2 ∙ record_length at m.0;
      inside = w.0;
      carries = ap (λ b. length (carried_by b)) m.2 ∙ ap length (record_carries at m.0);
      there = w.1;
    }

-- what the first value of several is, and the others
pub then_got : {X : Type 0} (o : Option (Value X)) (next : Value X → Option (List (Value X))) (vs : List (Value X)) → then o next ≡ Some vs → (v : Value X) × (o ≡ Some v) × (next v ≡ Some vs)
then_got None next vs e = cc
then_got (Some v) next vs e = (v, refl, e)

pub before_got : {X : Type 0} (v : Value X) (o : Option (List (Value X))) (vs : List (Value X)) → before v o ≡ Some vs → (us : List (Value X)) × (o ≡ Some us) × (vs ≡ v ∷ us)
before_got v None vs e = cc
before_got v (Some us) vs e = (us, refl, cc)

pub length_records : {X : Type 0} (at : ℕ) (vs : List (Value X)) → length (records_of at vs) ≡ length vs
length_records at [] = refl
length_records at (v ∷ vs) = ap suc (length_records (at + length (field v)) vs)
