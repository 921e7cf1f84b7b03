use Rattle.std.proofs.Common.{eqb, refl, rules}
use Rattle.std.proofs.Math.Bool.{not}
use Rattle.std.proofs.lemmas.List.Recursion.{and_is}
use Rattle.wire.specs.Read.{no_zero}
use Rattle.wire.proofs.Outcomes.{unless}
use Rattle.wire.proofs.field.no_zero.Goals as goal

pub returns-then-bytes-lt-FEW : goal.returns-then-bytes-lt-FEW
returns-then-bytes-lt-FEW c = and_is no_zero (λ x. not (eqb x 0)) refl (λ x xs. unless (eqb x 0) (no_zero xs)) c.args.bytes.now 0 _ (search rules) (search rules)

pub returns : goal.returns
returns c = and_is no_zero (λ x. not (eqb x 0)) refl (λ x xs. unless (eqb x 0) (no_zero xs)) c.args.bytes.now 0 _ (search rules) (search rules)
