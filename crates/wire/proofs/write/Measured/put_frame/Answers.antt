use Rattle.std.proofs.Common.{refl, arith}
use Rattle.wire.specs.Write.{message_of}
use Rattle.wire.proofs.Writing.{frame_laid}
use Rattle.wire.proofs.write.Measured.put_frame.Goals as goal

pub returns-clause-laid : goal.returns-clause-laid
returns-clause-laid c = frame_laid (message_of c.args.self.now.msg) _ _ _ c.args.payload.now c.put_word.new.out c.put_word-2.new.out c.put_arguments.new.out (omega arith) (omega (arith, c.from.ensures)) c.put_word.ensures refl c.put_word-2.ensures refl c.put_arguments.ensures.laid
