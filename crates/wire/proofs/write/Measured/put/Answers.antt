use Rattle.std.proofs.Common.{◌≡◌, ◌-◌, ◌≤◌, List, length, None, sym, subst}
use Rattle.protocol.specs.declared.fd.RawFd.{RawFd}
use Rattle.book.specs.Files.{numbers, opened}
use Rattle.book.specs.View.{files}
use Rattle.book.proofs.Lengths.{files_length}
use Rattle.wire.specs.Write.{Placed, dup_failure, good_texts, message_of}
use Rattle.wire.proofs.Regaining.{matching_typed, read_back}
use Rattle.wire.proofs.Texts.{descriptors_are}
use Rattle.wire.proofs.Writing.{Admitted, admitted}
use Rattle.wire.proofs.write.Measured.put.Goals as goal
use Rattle.wire.proofs.write.Measured.put.Goals.{Start}

checks : (c : Start) → Admitted (good_texts c.args.self.now.msg.text.now c.args.self.now.msg.args.now) (message_of c.args.self.now.msg) (length c.args.payload.now) (length c.args.places.now) (files c.args.book.now) c.args.self.now.size
checks c = admitted (good_texts c.args.self.now.msg.text.now c.args.self.now.msg.args.now) (message_of c.args.self.now.msg) (length c.args.payload.now) (length c.args.places.now) (files c.args.book.now) c.args.self.now.size c.requires

pub put_duplicates-requires : goal.put_duplicates-requires
put_duplicates-requires c =
    let a = checks (goal.at.put_duplicates-requires c).Start in
    let e = descriptors_are c.args.self.now.msg.text.now c.args.self.now.msg.args.now in
    record {
      can = subst (λ (ns : List RawFd). dup_failure (files c.args.book.now) (numbers - opened (files c.args.book.now)) ns ≡ None) e a.can;
      room = subst (λ (ns : List RawFd). length ns ≤ length c.args.places.now) e a.fds;
    }

pub returns : goal.returns
returns c =
    let a = checks (goal.at.returns c).Start in
    let placed = subst (λ (ns : List RawFd). Placed ns c.args.places.now (files c.args.book.now) c.put_duplicates.new.places (files c.put_duplicates.new.book)) (sym (descriptors_are c.args.self.now.msg.text.now c.args.self.now.msg.args.now)) c.put_duplicates.ensures in
    record {
      stored = record { bytes = c.put_frame.ensures.laid; fds = placed };
      readback = λ ts room rest more h r.
          read_back ts room (message_of c.args.self.now.msg) c.args.self.now.size c.args.payload.now c.put_frame.new.payload c.args.places.now c.put_duplicates.new.places rest more (files c.args.book.now) (files c.put_duplicates.new.book)
          a.size c.put_frame.ensures.laid (matching_typed c.args.self.now.msg.text.now ts c.args.self.now.msg.args.now h c.put_frame.ensures.args)
          c.put_frame.ensures.sender c.put_frame.ensures.opcode a.small a.bytes (files_length c.args.book.now) placed r;
    }
