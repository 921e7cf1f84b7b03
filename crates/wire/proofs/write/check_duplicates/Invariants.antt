use Rattle.std.proofs.Common.{◌≡◌, ◌+◌, length, drop}
use Rattle.book.specs.View.{files}
use Rattle.wire.specs.Records.{numbers_in}
use Rattle.wire.specs.Write.{dup_failure}
use Rattle.wire.proofs.write.check_duplicates.Given as goal

-- those so far can be duplicated, and what is left decides
abbrev pub invariant-loop-fd : goal.invariant-loop-fd
invariant-loop-fd l = record {
  next : (goal.iterator-loop-fd).can_next l.fd-iterator;
  ends : (goal.iterator-loop-fd).is_finite l.fd-iterator;
  decides : dup_failure (files l.book) l.left (drop (length l.yielded) (numbers_in l.args)) ≡ dup_failure (files l.book) l.free (numbers_in l.args);
  counted : l.left + length l.yielded ≡ l.free;
}
