use Rattle.std.proofs.Common.{ℕ, List, get_or, rules, sym, ap, ◌∙◌, subst, arith}
use Rattle.std.specs.Iterator.{AlwaysYields}
use Rattle.line.specs.Marks.{counts}
use Rattle.line.specs.declared.marks.Mark.{Mark}
use Rattle.line.proofs.Marking.{at_gap, at_mark, at_rest, at_tail}
use Rattle.line.proofs.Queues.{yielded_some, yielded_none}
use Rattle.line.proofs.marks.Marks.fds_at.Given as given
use Rattle.line.proofs.marks.Marks.fds_at.Goals as goal

pub loop-mark-init : goal.loop-mark-init
loop-mark-init c = (
  search rules,
  search rules,
  (
    c.self.inside.marks,
    c.self.inside.tail,
    subst (λ i. AlwaysYields (given.iterator-loop-mark).next_gives (λ x. x.now) i c.self.inside.marks) (sym c.into_iter-mark-iterator.ensures.into_iter_gives) c.iter-mark-items.ensures.runs,
    ap (λ (y : List ℕ). get_or y c.args.place 0) (sym c.self.view_is),
  ),
)

pub returns-then-left-mark : goal.returns-then-left-mark
returns-then-left-mark c =
    let n = yielded_some (given.iterator-loop-mark).next_gives (λ x. x.now) _ _ c.in-Some.mark c.loop-mark.invariant.2.0 c.loop-mark.invariant.2.2 c.in-Some.ensures.steps in
    sym (c.loop-mark.invariant.2.3 ∙ ap (λ (y : List Mark). get_or (counts y c.loop-mark.invariant.2.1) c.loop-mark.left 0) n.1 ∙ sym (at_gap c.in-Some.mark.now n.0 c.loop-mark.invariant.2.1 c.loop-mark.left c.if-left-mark.true))

pub returns-then-left-mark-2 : goal.returns-then-left-mark-2
returns-then-left-mark-2 c =
    let n = yielded_some (given.iterator-loop-mark).next_gives (λ x. x.now) _ _ c.in-Some.mark c.loop-mark.invariant.2.0 c.loop-mark.invariant.2.2 c.in-Some.ensures.steps in
    sym (c.loop-mark.invariant.2.3 ∙ ap (λ (y : List Mark). get_or (counts y c.loop-mark.invariant.2.1) c.loop-mark.left 0) n.1 ∙ sym (at_mark c.in-Some.mark.now n.0 c.loop-mark.invariant.2.1 c.loop-mark.left c.if-left-mark-2.true))

pub loop-mark-preserved : goal.loop-mark-preserved
loop-mark-preserved c =
    let n = yielded_some (given.iterator-loop-mark).next_gives (λ x. x.now) _ _ c.in-Some.mark c.loop-mark.invariant.2.0 c.loop-mark.invariant.2.2 c.in-Some.ensures.steps in (
      search rules,
      search rules,
      (
        n.0,
        c.loop-mark.invariant.2.1,
        n.2,
        c.loop-mark.invariant.2.3 ∙ ap (λ (y : List Mark). get_or (counts y c.loop-mark.invariant.2.1) c.loop-mark.left 0) n.1
            ∙ at_rest c.in-Some.mark.now n.0 c.loop-mark.invariant.2.1 c.loop-mark.left (omega (arith, c.if-left-mark.false, c.if-left-mark-2.false)),
      ),
    )

pub returns : goal.returns
returns c =
    let none = yielded_none (given.iterator-loop-mark).next_gives (λ x. x.now) _ _ c.loop-mark.invariant.2.0 c.loop-mark.invariant.2.2 c.in-None.ensures.steps in
    at_tail c.loop-mark.invariant.2.1 c.loop-mark.left ∙ sym (c.loop-mark.invariant.2.3 ∙ ap (λ (y : List Mark). get_or (counts y c.loop-mark.invariant.2.1) c.loop-mark.left 0) none)
