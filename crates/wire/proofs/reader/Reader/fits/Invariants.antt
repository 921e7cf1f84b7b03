use Rattle.std.proofs.Common.{◌≡◌, length, is_some}
use Rattle.wire.specs.Reader.{left}
use Rattle.wire.proofs.reader.Reader.fits.Given as goal

-- what is left decides
abbrev pub invariant-loop-self : goal.invariant-loop-self
invariant-loop-self l = is_some (left l.self) ≡ is_some (left l.initial.self)

abbrev pub decreases-loop-self : goal.decreases-loop-self
decreases-loop-self l = length l.self.kinds.now
