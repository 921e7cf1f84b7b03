use Rattle.std.proofs.Common.{◌≡◌, length}
use Rattle.signature.specs.Rows.{apart}
use Rattle.signature.proofs.rows.all_apart.Given as goal

-- each row before the rest is unlike those after it
abbrev pub invariant-loop-rest : goal.invariant-loop-rest
invariant-loop-rest l = apart l.rest ≡ apart l.rows

abbrev pub decreases-loop-rest : goal.decreases-loop-rest
decreases-loop-rest l = length l.rest
