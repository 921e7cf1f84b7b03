use Rattle.std.proofs.Common.{length, drop}
use Rattle.book.specs.View.{files}
use Rattle.wire.specs.Records.{numbers_in}
use Rattle.wire.proofs.Placing.{Placing}
use Rattle.wire.proofs.write.put_duplicates.Given as goal

abbrev pub invariant-loop-at : goal.invariant-loop-at
invariant-loop-at l = record {
  next : (goal.iterator-loop-at).can_next l.at-iterator;
  ends : (goal.iterator-loop-at).is_finite l.at-iterator;
  placing : Placing (numbers_in l.args) (files l.initial.book) l.initial.places (drop (length l.yielded) (numbers_in l.args)) (files l.book) (length l.yielded) l.places;
}
