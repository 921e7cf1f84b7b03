use Rattle.std.proofs.Common.{◌≡◌, length}
use Rattle.signature.specs.Letters.{past_digits}
use Rattle.signature.proofs.letters.past_digits.Given as goal

-- only digits stand before the rest
abbrev pub invariant-loop-rest : goal.invariant-loop-rest
invariant-loop-rest l = past_digits l.rest ≡ past_digits l.letters

abbrev pub decreases-loop-rest : goal.decreases-loop-rest
decreases-loop-rest l = length l.rest
