-- Laws of duplicating the descriptors of a message, one after another.
use Rattle.std.proofs.Common.{◌≡◌, ℕ, ◌+◌, ◌-◌, ◌<◌, true, false, List, [], ◌∷◌, length, get_or, drop, is_some, is_err, Some, None, Option, Result, sym, refl, ap, ◌∙◌, inl, inr, arith}
use Rattle.std.proofs.lemmas.List.{drop_more, drop_all}
use Rattle.std.proofs.lemmas.List.FromFn.{get_or-enumerate_from, length-enumerate_from}
use Rattle.std.specs.List.{filter_map, enumerate_from}
use Rattle.protocol.specs.declared.argument.Argument.TheVariants as arg
use Rattle.std.proofs.lemmas.Bool.{cases_Bool, cases_eq, cond-true, cond-false, eq-eqb, ne_eqb, true≢false}
use Rattle.std.specs.Option.{ok_or}
use Rattle.protocol.specs.declared.argument.Argument.{Argument}
use Rattle.protocol.specs.declared.refusal.Refusal.{Refusal}
use Rattle.protocol.specs.declared.refusal.Refusal.TheVariants.{NotOpen}
use Rattle.protocol.specs.declared.fd.RawFd.{RawFd}
use Rattle.book.specs.Files.{Files, file_of}
use Rattle.wire.specs.Records.{number_of, numbers_in}
use Rattle.wire.specs.Write.{dup_failure}

module _ (fs : Files) (free : ℕ) (n : RawFd) (ns : List RawFd) where
  pub dup_not_open : file_of fs n.0 ≡ None → dup_failure fs free (n ∷ ns) ≡ Some 9
  dup_not_open e = cond-false _ _ _ (ap is_some e)

  pub dup_full : is_some (file_of fs n.0) ≡ true → free ≡ 0 → dup_failure fs free (n ∷ ns) ≡ Some 24
  dup_full e z = cond-true _ _ _ e ∙ cond-true _ _ _ (eq-eqb _ _ z)

  pub dup_more : is_some (file_of fs n.0) ≡ true → (free ≡ 0 → ⊥) → dup_failure fs free (n ∷ ns) ≡ dup_failure fs (free - 1) ns
  dup_more e z = cond-true _ _ _ e ∙ cond-false _ _ _ (ne_eqb _ _ z)

  -- where all can be duplicated, the first can, and so can the others after it
  pub dup_split : dup_failure fs free (n ∷ ns) ≡ None → (is_some (file_of fs n.0) ≡ true) × (0 < free) × (dup_failure fs (free - 1) ns ≡ None)
  dup_split h = elim (cases_Bool (is_some (file_of fs n.0))) [
    | inl s ↦ elim (cases_eq free 0) [
      | inl z ↦ absurd (let e = sym (dup_full s z) ∙ h in let y : ◌≡◌ {A = ℕ} 0 1 = cc in omega arith)
      | inr z ↦ (s, omega arith, sym (dup_more s z) ∙ h)
    ]
    | inr s ↦ absurd (let e = sym (cond-false _ _ _ s) ∙ h in let y : ◌≡◌ {A = ℕ} 0 1 = cc in omega arith)
  ]

-- the numbers that the code goes over, one by one
pub numbers_are : {X : Type 0} (xs : List (Argument X)) → filter_map number_of xs ≡ numbers_in xs
numbers_are [] = refl
numbers_are (arg.Int z ∷ xs) = numbers_are xs
numbers_are (arg.Uint n ∷ xs) = numbers_are xs
numbers_are (arg.Fixed z ∷ xs) = numbers_are xs
numbers_are (arg.Str t ∷ xs) = numbers_are xs
numbers_are (arg.NullStr ∷ xs) = numbers_are xs
numbers_are (arg.Object n ∷ xs) = numbers_are xs
numbers_are (arg.NewId n ∷ xs) = numbers_are xs
numbers_are (arg.Array t ∷ xs) = numbers_are xs
numbers_are (arg.Fd x ∷ xs) = ap (λ ns. x ∷ ns) (numbers_are xs)

module _ {X : Type 0} (xs : List (Argument X)) (i : ℕ) where
  pub number_here : (x : X) (k : ℕ) → (i < length (filter_map number_of xs)) × (x ≡ get_or (filter_map number_of xs) i x) → k ≡ i + 1 → drop i (numbers_in xs) ≡ x ∷ drop k (numbers_in xs)
  number_here x k t e =
      ap (drop i) (sym (numbers_are xs))
      ∙ drop_more (filter_map number_of xs) i x t.0
      ∙ ap (λ n. n ∷ drop (i + 1) (filter_map number_of xs)) (sym t.1)
      ∙ ap (λ ns. x ∷ drop (i + 1) ns) (numbers_are xs)
      ∙ ap (λ n. x ∷ drop n (numbers_in xs)) (sym e)

  pub numbers_gone : i ≡ length (filter_map number_of xs) → (i ≡ length (numbers_in xs)) × (drop i (numbers_in xs) ≡ [])
  numbers_gone l =
      let n : i ≡ length (numbers_in xs) = l ∙ ap length (numbers_are xs) in
      (n, drop_all i (numbers_in xs) (omega arith))

  -- the same where each number comes with its place
  pub numbered_here : (at k : ℕ) (x : X) → (i < length (enumerate_from 0 (filter_map number_of xs))) × ((at, x) ≡ get_or (enumerate_from 0 (filter_map number_of xs)) i (at, x)) → k ≡ i + 1
      → (at ≡ i) × (drop i (numbers_in xs) ≡ x ∷ drop k (numbers_in xs))
  numbered_here at k x t e =
      let l : i < length (filter_map number_of xs) = omega (arith, t.0, length-enumerate_from 0 (filter_map number_of xs)) in
      let p = t.1 ∙ get_or-enumerate_from 0 (filter_map number_of xs) i (at, x) l in
      (ap (λ (q : ℕ × X). q.0) p ∙ omega arith, number_here x k (l, ap (λ (q : ℕ × X). q.1) p) e)

file_missing : (o : Option ℕ) (r : Result ℕ Refusal) → r ≡ ok_or o NotOpen → true ≡ is_err r → o ≡ None
file_missing None r e h = refl
file_missing (Some x) r e h = absurd (true≢false (h ∙ ap is_err e))

file_there : (o : Option ℕ) (r : Result ℕ Refusal) → r ≡ ok_or o NotOpen → false ≡ is_err r → is_some o ≡ true
file_there None r e h = absurd (true≢false (sym (h ∙ ap is_err e)))
file_there (Some x) r e h = refl

-- a turn of the check: the number in hand, by what the book answered
module _ (fs : Files) (left : ℕ) (n : RawFd) (ns : List RawFd) (r : Result ℕ Refusal) (e : r ≡ ok_or (file_of fs n.0) NotOpen) where
  pub check_missing : true ≡ is_err r → dup_failure fs left (n ∷ ns) ≡ Some 9
  check_missing h = dup_not_open fs left n ns (file_missing _ r e h)

  pub check_full : false ≡ is_err r → left ≡ 0 → dup_failure fs left (n ∷ ns) ≡ Some 24
  check_full h z = dup_full fs left n ns (file_there _ r e h) z

  pub check_more : false ≡ is_err r → 0 < left → dup_failure fs left (n ∷ ns) ≡ dup_failure fs (left - 1) ns
  check_more h l = dup_more fs left n ns (file_there _ r e h) (λ (z : left ≡ 0). omega arith)
