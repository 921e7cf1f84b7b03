-- The records of values that were read show these values in the frame.
use Rattle.std.proofs.Common.{◌≡◌, ℕ, ◌+◌, ◌≤◌, true, List, [], ◌∷◌, ◌++◌, map, length, take, drop, Some, Option, sym, refl, ap, ◌∙◌, subst, inl, inr, append-nil, arith, w32, to_z}
use Rattle.std.proofs.lemmas.List.{drop-drop, length-append, length-drop, take_at, take-take}
use Rattle.std.proofs.lemmas.Bool.{cond-true, le-leb}
use Rattle.protocol.specs.declared.argument.Argument.{Argument}
use Rattle.protocol.specs.declared.argument.ArgumentType.{ArgumentType}
use Rattle.protocol.specs.declared.argument.ArgumentType.TheVariants as type
use Rattle.protocol.specs.declared.fd.OwnedFd.{OwnedFd}
use Rattle.wire.specs.Values.{Value, int, uint, fixed, string, object, new_id, array, descriptor, carried}
use Rattle.wire.specs.Frame.{field}
use Rattle.wire.specs.Read.{Parsed, word_at, number, whole, inner, text, one, before, values, size_at, parse}
use Rattle.wire.specs.Records.{bytes_of, text_at, block_length, record_of, records_of, value_in}
use Rattle.wire.specs.Answers.{Filled, Shows}
use Rattle.wire.proofs.Walk.{length_records}
use Rattle.wire.proofs.Walk.{then_got, before_got, number_got, text_got, array_got, whole_fits, length_inner}
use Rattle.wire.proofs.Outcomes.{passed}
use Rattle.wire.proofs.Parsing.{parse_got}

-- the first bytes behind the length at a place
module _ (f : List ℕ) (at : ℕ) (w : whole (drop at f) ≡ true) where
  fit : at + block_length (word_at (drop at f)) ≤ length f
  fit = let b = whole_fits (drop at f) w in let l = length-drop at f in omega arith

  front : (s t : List ℕ) → s ++ t ≡ inner (drop at f) → bytes_of f (text_at (at + 4) (length s)) ≡ s
  front s t e =
      let n = length_inner (drop at f) w in
      let m = ap length e in
      let k = length-append s t in
      ap (take (length s)) (sym (drop-drop 4 at f))
      ∙ sym (take-take (length s) (word_at (drop at f)) (drop 4 (drop at f)) (omega arith))
      ∙ ap (take (length s)) (sym e)
      ∙ take_at s t (length s) refl

  inside : (s t : List ℕ) → s ++ t ≡ inner (drop at f) → (at + 4) + length s ≤ length f
  inside s t e =
      let n = length_inner (drop at f) w in
      let m = ap length e in
      let k = length-append s t in
      let b = fit in
      omega arith

number_shown : {X : Type 0} (f : List ℕ) (at : ℕ) (g : ℕ → Value X) (v : Value X) → number g (drop at f) ≡ Some v → ((n : ℕ) → value_in f (record_of at (g n)) ≡ Some (g n)) → value_in f (record_of at v) ≡ Some v
number_shown f at g v e same = let p = number_got g (drop at f) v e in subst (λ w. value_in f (record_of at w) ≡ Some w) (sym p.1) (same (word_at (drop at f)))

shown_one : {X : Type 0} (t : ArgumentType) (f : List ℕ) (at : ℕ) (xs : List X) (v : Value X) → one t (drop at f) xs ≡ Some v → value_in f (record_of at v) ≡ Some v
shown_one type.Int f at xs v e = number_shown f at (λ n. int (to_z w32 n)) v e (λ n. refl)
shown_one type.Uint f at xs v e = number_shown f at uint v e (λ n. refl)
shown_one type.Fixed f at xs v e = number_shown f at (λ n. fixed (to_z w32 n)) v e (λ n. refl)
shown_one {X} (type.Str maybe) f at xs v e =
    let p = passed (whole (drop at f)) (text (inner (drop at f))) v e in
    elim (text_got (inner (drop at f)) v p.1) [
      | inl n ↦ subst (λ (w : Value X). value_in f (record_of at w) ≡ Some w) (sym n.1) refl
      | inr s ↦
          subst (λ (w : Value X). value_in f (record_of at w) ≡ Some w) (sym s.2)
          (cond-true _ _ _ (le-leb _ _ (inside f at p.0 s.0 (0 ∷ []) s.1.bytes)) ∙ ap (λ (b : List ℕ). Some (string b)) (front f at p.0 s.0 (0 ∷ []) s.1.bytes))
    ]
shown_one (type.Object maybe) f at xs v e = number_shown f at object v e (λ n. refl)
shown_one type.NewId f at xs v e = number_shown f at new_id v e (λ n. refl)
shown_one {X} type.Array f at xs v e =
    let p = array_got (drop at f) v e in
    subst (λ (w : Value X). value_in f (record_of at w) ≡ Some w) (sym p.1)
    (cond-true _ _ _ (le-leb _ _ (inside f at p.0 (inner (drop at f)) [] (append-nil (inner (drop at f))))) ∙ ap (λ (b : List ℕ). Some (array b)) (front f at p.0 (inner (drop at f)) [] (append-nil (inner (drop at f)))))
shown_one type.Fd f at [] v e = cc
shown_one {X} type.Fd f at (x ∷ xs) v e = let q : descriptor x ≡ v = cc in subst (λ (w : Value X). value_in f (record_of at w) ≡ Some w) q refl

pub shown_all : {X : Type 0} (ts : List ArgumentType) (f : List ℕ) (at : ℕ) (xs : List X) (vs : List (Value X)) → values ts (drop at f) xs ≡ Some vs → map (value_in f) (records_of at vs) ≡ map Some vs
shown_all [] f at xs vs e = let q : [] ≡ vs = cc in subst (λ us. map (value_in f) (records_of at us) ≡ map Some us) q refl
shown_all {X} (t ∷ ts) f at xs vs e =
    let p = then_got (one t (drop at f) xs) (λ v. before v (values ts (drop (length (field v)) (drop at f)) (drop (length (carried v)) xs))) vs e in
    let q = before_got p.0 (values ts (drop (length (field p.0)) (drop at f)) (drop (length (carried p.0)) xs)) vs p.2 in
    let r = shown_all ts f (at + length (field p.0)) (drop (length (carried p.0)) xs) q.0 (ap (λ (b : List ℕ). values ts b (drop (length (carried p.0)) xs)) (sym (drop-drop (length (field p.0)) at f)) ∙ q.1) in
    subst (λ (us : List (Value X)). map (value_in f) (records_of at us) ≡ map Some us) (sym q.2)
    (ap (λ o. o ∷ map (value_in f) (records_of (at + length (field p.0)) q.0)) (shown_one t f at xs p.0 p.1) ∙ ap (λ os. Some p.0 ∷ os) r)

-- the records that were filled
pub shows : (room : ℕ) (ts : List ArgumentType) (raw : List ℕ) (xs : List OwnedFd) (cursor cursor' : ℕ) (rs rs' : List (Argument OwnedFd))
    → Filled (values ts (drop 8 (take (size_at raw) raw)) xs) cursor rs cursor' rs' → Shows (parse room ts raw xs) raw rs'
shows room ts raw xs cursor cursor' rs rs' f found q =
    let g = parse_got room ts raw xs found q in
    let filled = subst (λ (o : Option (List (Value OwnedFd))). Filled o cursor rs cursor' rs') g.read f in
    subst (λ (p : Parsed OwnedFd). map (value_in (take p.size raw)) (take (length p.message.args) rs') ≡ map Some p.message.args) g.is
    (ap (λ (r : List (Argument OwnedFd)). map (value_in (take (size_at raw) raw)) (take (length g.args) r)) filled.1
    ∙ ap (map (value_in (take (size_at raw) raw))) (take_at (records_of 8 g.args) (drop (length g.args) rs) (length g.args) (length_records 8 g.args))
    ∙ shown_all ts (take (size_at raw) raw) 8 xs g.args g.read)
