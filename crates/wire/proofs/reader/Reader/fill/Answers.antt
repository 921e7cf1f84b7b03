use Rattle.std.proofs.Common.{arith}
use Rattle.std.proofs.lemmas.List.{length-take}
use Rattle.protocol.specs.declared.argument.Argument.{Argument}
use Rattle.protocol.specs.declared.fd.OwnedFd.{OwnedFd}
use Rattle.wire.proofs.Filling.{filling_more, filling_all}
use Rattle.wire.proofs.reader.Reader.fill.Goals as goal

pub loop-record-preserved : goal.loop-record-preserved
loop-record-preserved c = filling_more _ _ _ _ c.loop-record.invariant _ _ (rw c.unwrap.ensures at c.argument.ensures) (omega arith)

pub returns : goal.returns
returns c = record { gives = filling_all _ _ _ _ c.loop-record.invariant (omega (arith, length-take {A = Argument OwnedFd})) (omega (arith, length-take {A = Argument OwnedFd})) c.args.records.now; few = omega arith }
