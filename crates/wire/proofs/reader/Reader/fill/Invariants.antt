use Rattle.wire.proofs.Filling.{Filling}
use Rattle.wire.proofs.reader.Reader.fill.Given as goal

abbrev pub invariant-loop-record : goal.invariant-loop-record
invariant-loop-record l = Filling l.initial.self l.self l.record-index l.record-items
