use Rattle.std.proofs.Common.{sym, ◌∙◌, inl, inr, arith}
use Rattle.protocol.specs.Limits.{limits}
use Rattle.line.proofs.Marking.{not_passed, passed, still_carrying, stopped, ended}
use Rattle.line.proofs.marks.Marks.take.Goals as goal
use Rattle.line.proofs.marks.Marks.take.Goals.{then-wanted-mark-via-then-wanted-mark, then-wanted-mark-via-else-wanted-mark+then-share-mark}

pub loop-mark-init : goal.loop-mark-init
loop-mark-init c = not_passed limits.descriptors c.args.asked c.self.inside.marks c.self.inside.tail c.args.self.now c.self.invariant c.self.view_is

pub invariant_of-self : goal.invariant_of-self
invariant_of-self c =
    still_carrying limits.descriptors c.args.asked c.args.self.now c.loop-mark.self-inside.marks c.loop-mark.self-inside.tail c.loop-mark.share.bytes c.loop-mark.share.fds c.loop-mark.invariant
    c.in-Some.mark (sym c.get.ensures ∙ c.in-Some.is) c.min-plain.result c.set_first.new.self c.set_first.ensures

pub returns-then-wanted-mark : goal.returns-then-wanted-mark
returns-then-wanted-mark c =
    stopped limits.descriptors c.args.asked c.args.self.now c.loop-mark.self-inside.marks c.loop-mark.self-inside.tail c.loop-mark.share.bytes c.loop-mark.share.fds c.loop-mark.invariant
    c.in-Some.mark (sym c.get.ensures ∙ c.in-Some.is) c.min-plain.result c.set_first.new.self c.set_first.ensures c.min-plain.ensures
    (elim c.then-wanted-mark.branch [ then-wanted-mark-via-then-wanted-mark w ↦ inl w.if-wanted-mark.true | then-wanted-mark-via-else-wanted-mark+then-share-mark w ↦ inr w.if-share-mark.true ])

pub loop-mark-preserved : goal.loop-mark-preserved
loop-mark-preserved c =
    passed limits.descriptors c.args.asked c.args.self.now c.loop-mark.self-inside.marks c.loop-mark.self-inside.tail c.loop-mark.share.bytes c.loop-mark.share.fds c.loop-mark.invariant
    c.in-Some.mark (sym c.get.ensures ∙ c.in-Some.is) c.remove_first.new.self c.remove_first.ensures.left (omega (arith, c.if-wanted-mark.false)) (omega (arith, c.if-share-mark.false))

pub returns : goal.returns
returns c =
    ended limits.descriptors c.args.asked c.args.self.now c.loop-mark.self-inside.marks c.loop-mark.self-inside.tail c.loop-mark.share.bytes c.loop-mark.share.fds c.loop-mark.invariant
    (λ m e. c.in_default.not-Some m (c.get.ensures ∙ e)) c.min-plain-2.result c.min-plain-2.ensures
