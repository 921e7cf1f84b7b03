use Rattle.std.proofs.Common.{◌+◌, ◌≤◌, length, get_or, pos, refl, arith, rules}
use Rattle.std.proofs.lemmas.List.{length-take, length-drop}
use Rattle.protocol.specs.declared.argument.Argument.TheVariants.{Int}
use Rattle.wire.specs.Records.{field_length}
use Rattle.wire.proofs.Laying.{part_laid}
use Rattle.wire.proofs.Texts.{good_lengths, laid_here, laid_more, laid_all}
use Rattle.wire.proofs.write.Measured.put_arguments.Goals as goal
use Rattle.wire.proofs.write.Measured.put_arguments.Goals.{In-loop-argument}

-- the field in hand lies in the bytes, and is not too large
fits : (c : In-loop-argument) → (c.loop-argument.at + field_length (get_or c.args.self.now.msg.args.now c.loop-argument.argument-index (Int (pos 0))) ≤ length c.loop-argument.out)
    × (c.loop-argument.at + field_length (get_or c.args.self.now.msg.args.now c.loop-argument.argument-index (Int (pos 0))) ≤ 65524)
fits c =
    let n = good_lengths c.args.self.now.msg.text.now c.args.self.now.msg.args.now c.args.self.now.good in
    let h = (laid_here _ _ _ _ _ _ c.loop-argument.invariant (Int (pos 0)) (omega arith)).1 in
    (omega arith, omega arith)

pub slice_bounds-put_argument-count : goal.slice_bounds-put_argument-count
slice_bounds-put_argument-count c = let f = fits (goal.at.slice_bounds-put_argument-count c).In-loop-argument in omega (arith, f.0)

pub slice_bounds-put_argument-start : goal.slice_bounds-put_argument-start
slice_bounds-put_argument-start c = let f = fits (goal.at.slice_bounds-put_argument-start c).In-loop-argument in search rules

pub put_argument-requires : goal.put_argument-requires
put_argument-requires c =
    let f = fits (goal.at.put_argument-requires c).In-loop-argument in
    record {
      good = (laid_here _ _ _ _ _ _ c.loop-argument.invariant (Int (pos 0)) (omega arith)).0;
      small = omega (arith, f.1);
      room = simp (length-take, length-drop) (omega (arith, f.0));
    }

pub overflow_add-at : goal.overflow_add-at
overflow_add-at c = let f = fits (goal.at.overflow_add-at c).In-loop-argument in omega (arith, f.1, c.field_len-at.ensures)

pub loop-argument-preserved : goal.loop-argument-preserved
loop-argument-preserved c =
    let f = fits (goal.at.loop-argument-preserved c).In-loop-argument in
    laid_more _ _ _ _ _ _ c.loop-argument.invariant (Int (pos 0)) _ _ (omega arith) (omega (arith, f.1, c.field_len-at.ensures))
    (part_laid c.loop-argument.at _ _ c.loop-argument.out c.put_argument.new.out (omega (arith, f.0)) refl c.put_argument.ensures.laid) c.put_argument.ensures.carries

pub returns : goal.returns
returns c = let l = laid_all _ _ _ _ _ _ c.loop-argument.invariant (omega arith) in record { laid = l.0; carries = l.1 }
