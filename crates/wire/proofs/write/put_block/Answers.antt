use Rattle.std.proofs.Common.{arith}
use Rattle.std.proofs.lemmas.List.{length-append}
use Rattle.wire.proofs.Laying.{block_laid}
use Rattle.wire.proofs.write.put_block.Goals as goal

pub returns : goal.returns
returns c =
    let l = length-append c.args.bytes.now c.args.end.now in
    rw (c.copy_from_slice.ensures.after, c.copy_from_slice-2.ensures.after)
    (block_laid c.args.bytes.now c.args.end.now c.args.out.now c.put_word.new.out _ _ (omega (arith, c.requires.room)) (omega arith) (omega arith) c.put_word.ensures)
