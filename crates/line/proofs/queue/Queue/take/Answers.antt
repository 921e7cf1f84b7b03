use Rattle.std.proofs.Common.{List, length, take, sym, refl, ap, ◌∙◌, arith}
use Rattle.std.proofs.lemmas.List.{length-append, length-drop}
use Rattle.line.proofs.Queues.{copied}
use Rattle.line.proofs.queue.Queue.take.Goals as goal

pub returns-clause-taken : goal.returns-clause-taken
returns-clause-taken g c =
    let n = length c.args.out.now in
    let same = ap length c.parts.ensures in
    copied n c.min-first.result c.parts.result.0.now c.parts.result.1.now c.args.out.now c.copy_from_slice.new.self c.copy_from_slice-2.new.self _
    refl c.min-first.ensures (omega arith) c.copy_from_slice.ensures.after c.copy_from_slice-2.ensures.after (simp (length-drop, length-append) (omega arith))
    ∙ ap (λ (s : List g.row.T.Denot). take n s) (sym c.parts.ensures)
