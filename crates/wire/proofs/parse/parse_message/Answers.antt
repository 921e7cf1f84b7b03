use Rattle.std.proofs.Common.{length, drop}
use Rattle.wire.proofs.Giving.{gives_frames}
use Rattle.wire.proofs.Reading.{reads_frames}
use Rattle.wire.proofs.Showing.{shows}
use Rattle.wire.proofs.parse.parse_message.Goals as goal

pub returns-in_err-frame-clause-reads : goal.returns-in_err-frame-clause-reads
returns-in_err-frame-clause-reads c = reads_frames _ _ _ _

pub returns-clause-shows : goal.returns-clause-shows
returns-clause-shows c =
    let p = rw c.fds_left-fds.ensures at c.in_ok-frame.ensures.ok in
    shows (length c.args.records.now) c.args.signature.now c.args.raw.now (drop c.args.cursor.now c.args.fds.now) c.args.cursor.now _ c.args.records.now _ (rw p.args at c.take_message.ensures.filled)

pub returns-clause-reads : goal.returns-clause-reads
returns-clause-reads c = reads_frames _ _ _ _

pub returns-clause-gives : goal.returns-clause-gives
returns-clause-gives c = gives_frames _ _ _ _ (λ k. (c.type_inv.raw k).fits)
