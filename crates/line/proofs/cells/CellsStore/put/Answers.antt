use Rattle.std.proofs.Common.{length, arith}
use Rattle.line.proofs.Bounding.{ring_bound}
use Rattle.std.proofs.lemmas.Grind.{common_steps}
use Rattle.line.proofs.Rings.{bytes_room}
use Rattle.line.proofs.cells.CellsStore.put.Goals as goal

pub note-requires-clause-bytes_room : goal.note-requires-clause-bytes_room
note-requires-clause-bytes_room c =
    let q = c.self.inside in
    omega (arith, bytes_room q.bytes q.marks q.fds c.self.invariant.0 c.self.invariant.1 c.args.self.now c.self.view_is (length c.args.bytes.now) c.requires.some c.requires.room, c.self.invariant.0)

pub put-requires : goal.put-requires
put-requires c =
    let q = c.self.inside in
    (omega arith, bytes_room q.bytes q.marks q.fds c.self.invariant.0 c.self.invariant.1 c.args.self.now c.self.view_is (length c.args.bytes.now) c.requires.some c.requires.room)

pub returns-clause-bound : goal.returns-clause-bound
returns-clause-bound c = ring_bound c.put.new.self c.note.new.self c.put-2.new.self (grind (arith, common_steps)) (grind (arith, common_steps)) c.put.ensures.within c.put-2.ensures.within
