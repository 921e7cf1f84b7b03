-- What the first argument of another type says of all arguments, where there are as many as types.
use Rattle.std.proofs.Common.{◌≡◌, ℕ, ◌<◌, ◌≤◌, Bool, true, false, not, List, length, get_or, ltb, pos, Some, None, Option, inr, sym, ap, ◌∙◌, arith}
use Rattle.std.specs.List.{zip, position, position_or_len}
use Rattle.std.specs.Option.{MatchOption}
use Rattle.std.proofs.lemmas.Bool.{not-true, not-false, cond_both, ltb-true, ltb-false}
use Rattle.std.proofs.lemmas.List.Sums.{fails_before_first, passes_at_first}
use Rattle.std.proofs.lemmas.Slice.Zip.{get_or-zip, length-zip}
use Rattle.protocol.specs.Types.{same_type, type_of, fits_at, Matching, Mismatching}
use Rattle.protocol.specs.declared.argument.Argument.{Argument}
use Rattle.protocol.specs.declared.argument.Argument.TheVariants.{Int}
use Rattle.protocol.specs.declared.argument.ArgumentType.{ArgumentType}
use Rattle.protocol.specs.declared.argument.ArgumentType.TheVariants as type

abbrev pub differs : {F : Type 0} → Argument F × ArgumentType → Bool
differs p = not (same_type (type_of p.0) p.1)

-- r: what `position` answers of the pairs
module _ {F : Type 0} (ts : List ArgumentType) (xs : List (Argument F)) (same : length ts ≡ length xs) where
  abbrev pairs : List (Argument F × ArgumentType)
  pairs = zip xs ts

  abbrev blank : Argument F × ArgumentType
  blank = (Int (pos 0), type.Int)

  at_pair : (k : ℕ) → k < length ts → differs (get_or pairs k blank) ≡ not (fits_at ts xs k)
  at_pair k h = ap differs (get_or-zip xs ts k blank (omega arith) h)

  pub judged : (r : Option ℕ) → r ≡ position differs pairs → MatchOption r (Matching ts xs) (λ place. Mismatching ts xs place)
  judged r is =
      rw is
      (cond_both (ltb (position_or_len differs pairs) (length pairs)) (Some (position_or_len differs pairs)) None
      (λ o. MatchOption o (Matching ts xs) (λ place. Mismatching ts xs place))
      (λ here.
      let before : position_or_len differs pairs < length pairs = ltb-true _ _ here in
      let inside : position_or_len differs pairs < length ts = omega (arith, length-zip xs ts) in
      inr (same, inside, not-true _ (sym (at_pair _ inside) ∙ passes_at_first differs pairs blank before)))
      (λ none.
      let after : length pairs ≤ position_or_len differs pairs = ltb-false _ _ none in
      (same, λ k h. not-false _ (sym (at_pair k h) ∙ fails_before_first differs pairs k blank (omega (arith, length-zip xs ts))))))
