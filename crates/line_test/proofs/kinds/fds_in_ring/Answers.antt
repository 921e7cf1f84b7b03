use Rattle.std.proofs.Common.{rules, sym, ap, ◌∙◌, arith}
use Rattle.line_test.proofs.Duplicates.{on, fds_next}
use Rattle.line_test.proofs.kinds.fds_in_ring.Goals as goal
use Rattle.line_test.proofs.kinds.fds_in_ring.Goals.{in-Some, in_default}

pub loop-place-preserved : goal.loop-place-preserved
loop-place-preserved c =
    let next = fds_next c.args.ring.now.store c.loop-place.place in
    elim c.match-cell.branch [
      | in-Some w ↦ (search rules, search rules, omega (arith, next, ap on (sym c.cell.ensures ∙ w.in-Some.is), w.fds-is, c.loop-place.invariant.2))
      | in_default w ↦ (search rules, search rules, omega (arith, next, ap on (sym c.cell.ensures ∙ w.in_default.is), w.fds-is, c.loop-place.invariant.2))
    ]
