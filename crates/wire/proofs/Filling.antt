-- Filling records with the arguments that a reader has left, one after another.
use Rattle.std.proofs.Common.{◌≡◌, ℕ, ◌+◌, ◌-◌, ◌<◌, ◌≤◌, true, List, [], ◌∷◌, ◌++◌, length, take, drop, set, is_some, Some, None, Option, sym, refl, ap, ◌∙◌, subst, inl, inr, append-nil, append_assoc, length-append, arith, rules}
use Rattle.std.specs.Option.{IsSome}
use Rattle.std.proofs.lemmas.List.{take_all, take_more_set, nil_from_length}
use Rattle.std.proofs.lemmas.Bool.{true≢false}
use Rattle.protocol.specs.declared.argument.Argument.{Argument}
use Rattle.protocol.specs.declared.argument.ArgumentType.{ArgumentType}
use Rattle.protocol.specs.declared.fd.OwnedFd.{OwnedFd}
use Rattle.wire.specs.declared.reader.Reader.{Reader}
use Rattle.wire.specs.Values.{Value, carried, descriptors}
use Rattle.wire.specs.Read.{values}
use Rattle.wire.specs.Records.{records_of}
use Rattle.wire.specs.Reader.{Gives, Took, left}
use Rattle.wire.proofs.Walk.{before_got, length_records}

-- after i records: those that are filled, and then those of what is left, are the records of all
pub record Filling (r₀ r : Reader) (i : ℕ) (rs : List (Argument OwnedFd)) : Type 0 where
  pub all : List (Value OwnedFd)
  pub rest : List (Value OwnedFd)
  pub whole : left r₀ ≡ Some all
  pub here : left r ≡ Some rest
  pub kinds : i + length r.kinds.now ≡ length r₀.kinds.now
  pub records : take i rs ++ records_of r.at rest ≡ records_of r₀.at all
  pub fds : length r.fds.now + length (descriptors all) ≡ length (descriptors rest) + length r₀.fds.now
  pub few : length r.fds.now ≤ length r₀.fds.now

pub filling_none : (r : Reader) (rs : List (Argument OwnedFd)) → is_some (left r) ≡ true → Filling r r 0 rs
filling_none r rs h = from (left r) refl h
  where
    from : (o : Option (List (Value OwnedFd))) → left r ≡ o → is_some o ≡ true → Filling r r 0 rs
    from None e k = absurd (true≢false (sym k))
    from (Some vs) e k = record { all = vs; rest = vs; whole = e; here = e; kinds = omega arith; records = refl; fds = omega arith; few = omega arith }

module _ (r₀ r : Reader) (i : ℕ) (rs : List (Argument OwnedFd)) (w : Filling r₀ r i rs) where
  -- there is a next argument
  pub filling_goes : (r' : Reader) (o : Option (Argument OwnedFd)) → Took r o r' → i < length r₀.kinds.now → IsSome o
  filling_goes r' None t h = elim t [
    | inl e ↦ absurd (let k = ap length e in let n = w.kinds in omega arith)
    | inr e ↦ (let s = sym w.here ∙ e in cc)
  ]
  filling_goes r' (Some a) t h = search rules

  pub filling_more : (r' : Reader) (a : Argument OwnedFd) → Took r (Some a) r' → i < length rs → Filling r₀ r' (i + 1) (set rs i a)
  filling_more r' a t h =
      let b = t.2 in
      let g = before_got t.0 (left r') w.rest (sym b.rest ∙ w.here) in
      record {
        all = w.all;
        rest = g.0;
        whole = w.whole;
        here = g.1;
        kinds = omega (arith, b.kinds, w.kinds);
        records =
            ap (λ (x : List (Argument OwnedFd)). x ++ records_of r'.at g.0) (take_more_set rs i a h)
            ∙ append_assoc (take i rs) (a ∷ []) (records_of r'.at g.0)
            ∙ ap (λ (x : List (Argument OwnedFd)). take i rs ++ x) (let e = t.1 in let p = b.at in cc)
            ∙ ap (λ (x : List (Value OwnedFd)). take i rs ++ records_of r.at x) (sym g.2)
            ∙ w.records;
        fds = (let n = ap (λ (x : List (Value OwnedFd)). length (descriptors x)) g.2 ∙ length-append (carried t.0) (descriptors g.0) in omega (arith, b.fds, w.fds));
        few = omega (arith, b.fds, w.few);
      }

  pub filling_all : i ≡ length r₀.kinds.now → length rs ≡ i → (old : List (Argument OwnedFd)) → Gives (left r₀) r₀.at (length r₀.fds.now - length r.fds.now) old (rs ++ drop (length r₀.kinds.now) old)
  filling_all k l old =
      let none : length r.kinds.now ≡ 0 = omega (arith, w.kinds) in
      let last : values [] r.bytes.now r.fds.now ≡ Some w.rest = ap (λ (ks : List ArgumentType). values ks r.bytes.now r.fds.now) (sym (nil_from_length r.kinds.now none)) ∙ w.here in
      let empty : [] ≡ w.rest = cc in
      let is : rs ≡ records_of r₀.at w.all = sym (append-nil rs) ∙ ap (λ (x : List (Argument OwnedFd)). x ++ []) (sym (take_all i rs (omega arith))) ∙ ap (λ (x : List (Value OwnedFd)). take i rs ++ records_of r.at x) empty ∙ w.records in
      let size : length r₀.kinds.now ≡ length w.all = sym k ∙ sym l ∙ ap length is ∙ length_records r₀.at w.all in
      subst (λ (o : Option (List (Value OwnedFd))). Gives o r₀.at (length r₀.fds.now - length r.fds.now) old (rs ++ drop (length r₀.kinds.now) old)) (sym w.whole)
      ((let n = ap (λ (x : List (Value OwnedFd)). length (descriptors x)) empty in omega (arith, w.fds)), ap (λ (x : List (Argument OwnedFd)). x ++ drop (length r₀.kinds.now) old) is ∙ ap (λ (n : ℕ). records_of r₀.at w.all ++ drop n old) size)
