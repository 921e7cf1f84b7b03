use Rattle.std.proofs.Common.{length}
use Rattle.line.proofs.Bounding.{ring_bound}
use Rattle.protocol.specs.Limits.{limits}
use Rattle.line.proofs.Rings.{give_counts, give_sum, gone, gives_most}
use Rattle.line.proofs.cells.CellsStore.give.Goals as goal

pub invariant_of-self : goal.invariant_of-self
invariant_of-self c =
    let q = c.self.inside in (
      give_counts q.bytes q.marks q.fds c.self.invariant.0 c.self.invariant.1 limits c.args.self.now c.self.view_is c.args.bytes.now c.args.fds.now c.requires
          c.take-share.result c.take-share.new.self c.take-share.ensures c.take.new.self c.take-2.new.self c.take.ensures.left c.take-2.ensures.left,
      give_sum q.bytes q.marks q.fds c.self.invariant.0 c.self.invariant.1 limits c.args.self.now c.self.view_is c.args.bytes.now c.args.fds.now c.requires
          c.take-share.result c.take-share.new.self c.take-share.ensures c.take.new.self c.take-2.new.self c.take.ensures.left c.take-2.ensures.left,
    )

pub returns : goal.returns
returns c =
    let q = c.self.inside in
    let all =
    gone q.bytes q.marks q.fds c.self.invariant.0 c.self.invariant.1 limits c.args.self.now c.self.view_is c.args.bytes.now c.args.fds.now c.requires
    c.take-share.result c.take-share.new.self c.take-share.ensures c.take.new.self c.take-2.new.self c.take.ensures.left c.take-2.ensures.left
    c.take.new.out c.take-2.new.out c.take.ensures.taken c.take-2.ensures.taken in
    record { gone = all; most = gives_most limits c.args.self.now (length c.args.bytes.now) c.take-share.result.bytes all.chosen; bound = ring_bound c.take.new.self c.take-share.new.self c.take-2.new.self (invariant_of-self c).0 (invariant_of-self c).1 c.take.ensures.within c.take-2.ensures.within }
