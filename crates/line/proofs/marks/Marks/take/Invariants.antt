use Rattle.std.proofs.Common.{length}
use Rattle.protocol.specs.Limits.{limits}
use Rattle.line.proofs.Marking.{Passing}
use Rattle.line.proofs.marks.Marks.take.Given as goal

abbrev pub invariant-loop-mark : goal.invariant-loop-mark
invariant-loop-mark l = Passing limits.descriptors l.asked l.fn.self l.self-inside.marks l.self-inside.tail l.share.bytes l.share.fds

abbrev pub decreases-loop-mark : goal.decreases-loop-mark
decreases-loop-mark l = length l.self-inside.marks
