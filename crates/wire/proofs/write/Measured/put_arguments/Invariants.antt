use Rattle.wire.proofs.Texts.{Laid}
use Rattle.wire.proofs.write.Measured.put_arguments.Given as goal

abbrev pub invariant-loop-argument : goal.invariant-loop-argument
invariant-loop-argument l = Laid l.self.msg.text.now l.argument-items l.initial.out l.argument-index l.at l.out
