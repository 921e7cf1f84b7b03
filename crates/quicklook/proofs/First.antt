use Rattle.std.proofs.Common.{◌≡◌, ℕ, ◌+◌, ◌<◌, zero, suc, List, [], ◌∷◌, ◌++◌, length, slice_index_or, Option, Some, None, Bor, IsTrue, MatchOption, IsSomeAnd, IfSome, refl, subst, ap, sym, ◌∙◌, arith}
use Rattle.std.specs.Option.{option_map}
use Rattle.std.specs.Fn.{Called}
use Rattle.std.specs.Iterator.Runs.{SomeRun, EveryRun, ItemsMapTo, AllItemsGive, IsFirstToGive}
use denote.Param.Members.{Mut}
use Rattle.protocol.specs.declared.argument.Argument.{Argument}
use Rattle.protocol.specs.declared.argument.Argument.TheVariants.{NullStr}
use Rattle.protocol.specs.declared.fd.OwnedFd.{OwnedFd}
use Rattle.protocol.specs.declared.fd.RawFd.{RawFd}
use Rattle.wire.specs.Records.{numbers_in, carried_by}
use Rattle.quicklook.specs.Pictures.{first}

first_past : (l m : List OwnedFd) → first l ≡ None → first (l ++ m) ≡ first m
first_past [] m e = refl
first_past (fd ∷ l) m e = cc

first_in : (l m : List OwnedFd) (n : ℕ) → first l ≡ Some n → first (l ++ m) ≡ Some n
first_in [] m n e = cc
first_in (fd ∷ l) m n e = e

-- the number of the descriptor that a record carries
abbrev carries : Argument OwnedFd → Option ℕ
carries a = first (carried_by a)

first_at : (rs : List (Argument OwnedFd)) (i n : ℕ) → i < length rs → carries (slice_index_or rs i NullStr) ≡ Some n → ((k : ℕ) → k < i → carries (slice_index_or rs k NullStr) ≡ None) → first (numbers_in rs) ≡ Some n
first_at [] i n lt here before = absurd (omega arith)
first_at (a ∷ rs) zero n lt here before = first_in (carried_by a) (numbers_in rs) n here
first_at (a ∷ rs) (suc i) n lt here before =
    first_past (carried_by a) (numbers_in rs) (before 0 (omega arith)) ∙ first_at rs i n (omega arith) here (λ k k_lt. before (suc k) (omega arith))

none_at : (rs : List (Argument OwnedFd)) → ((k : ℕ) → k < length rs → carries (slice_index_or rs k NullStr) ≡ None) → first (numbers_in rs) ≡ None
none_at [] before = refl
none_at (a ∷ rs) before =
    first_past (carried_by a) (numbers_in rs) (before 0 (omega arith)) ∙ none_at rs (λ k lt. before (suc k) (omega arith))

if_some : {T : Type 0} (P : T → Type 0) (o : Option T) → IsSomeAnd o P → IfSome o P
if_some P None h = absurd h
if_some P (Some x) h = h

module _ {F : Type 0} (g : Mut F (Bor (Argument OwnedFd) × Unit {0}) (Option RawFd)) (f : F) where
  -- each call answers the descriptor of its record, if it carries one
  abbrev pub Finds : Type 0
  Finds = (x : Bor (Argument OwnedFd)) (r : Option RawFd) (q : F) → Called g f (x, tt) r q → (q ≡ f) × (option_map (λ fd. fd.0) r ≡ carries x.now)

  answer_at : Finds → (o : Option (Bor (Argument OwnedFd))) (a : Argument OwnedFd) (r : Option RawFd) → option_map (λ x. x.now) o ≡ Some a → IfSome o (λ x. Called g f (x, tt) r f) → carries a ≡ option_map (λ fd. fd.0) r
  answer_at finds None a r is called = cc
  answer_at finds (Some x) a r is called = let e : x.now ≡ a = cc in ap carries (sym e) ∙ sym (finds x r f called).1

  -- a search through the records ends at the first that carries a descriptor
  pub found : {S : Type 0} {steps : S → Option (Bor (Argument OwnedFd)) → S → Type 0} (rest : S → List (Argument OwnedFd)) (s : S) (rs : List (Argument OwnedFd)) (r : Option RawFd) → Finds → EveryRun steps (λ p. ItemsMapTo p (λ x. x.now) (rest p.from)) → rest s ≡ rs → SomeRun steps s (λ p. MatchOption r (IsTrue p.whole × AllItemsGive p g f None) (λ y. (i : ℕ) × (i < p.len) × (p.len ≡ i + 1) × IsFirstToGive p g f (Some y) None i)) → option_map (λ fd. fd.0) r ≡ first (numbers_in rs)
  found rest s rs None finds every is (p, from, (whole, calls)) =
      let items : ItemsMapTo p (λ x. x.now) rs = subst (λ l. ItemsMapTo p (λ x. x.now) l) (ap rest from ∙ is) (every p p.seen) in
      let kept = λ (a : Bor (Argument OwnedFd) × Unit {0}) (r : Option RawFd) (q : F) (h : Called g f a r q). (finds a.0 r q h).0 in
      sym (none_at rs (λ k lt. answer_at finds (p.at k) _ None (items.2 k NullStr (omega (arith, items.1 whole))) (calls kept k)))
  found rest s rs (Some y) finds every is (p, from, (i, lt, last, calls)) =
      let items : ItemsMapTo p (λ x. x.now) rs = subst (λ l. ItemsMapTo p (λ x. x.now) l) (ap rest from ∙ is) (every p p.seen) in
      let kept = λ (a : Bor (Argument OwnedFd) × Unit {0}) (r : Option RawFd) (q : F) (h : Called g f a r q). (finds a.0 r q h).0 in
      sym (first_at rs i y.0 (omega (arith, items.0)) (answer_at finds (p.at i) _ (Some y) (items.2 i NullStr lt) (if_some _ (p.at i) (calls kept).0)) (λ k k_lt. answer_at finds (p.at k) _ None (items.2 k NullStr (omega arith)) (if_some _ (p.at k) ((calls kept).1 k k_lt))))
