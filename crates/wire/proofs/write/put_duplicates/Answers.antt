use Rattle.std.proofs.Common.{◌≡◌, ℕ, [], ◌∷◌, ◌++◌, length, drop, Some, ap, ◌∙◌, arith, rules}
use borrow.Author.Tests.{tests}
use Rattle.std.proofs.lemmas.List.{length_push}
use Rattle.std.proofs.lemmas.List.FromFn.{length-enumerate_from}
use Rattle.std.specs.List.{filter_map}
use Rattle.std.proofs.lemmas.Iterator.{YieldsList-from_slice}
use Rattle.std.proofs.lemmas.Iterator.Consumers.{YieldsList-at, YieldsList-from_filter_map, YieldsList-from_enumerate, YieldsList-turn, YieldsList-end}
use Rattle.protocol.specs.declared.fd.RawFd.{RawFd}
use Rattle.book.specs.View.{files}
use Rattle.book.proofs.Lengths.{files_length}
use Rattle.wire.specs.Records.{number_of, numbers_in}
use Rattle.wire.proofs.Copies.{numbered_here, numbers_gone}
use Rattle.wire.proofs.Placing.{placing_same, placing_more, placing_goes, placing_all}
use Rattle.wire.proofs.write.put_duplicates.Goals as goal
use Rattle.wire.proofs.write.put_duplicates.Goals.{After-next}

-- the place and the number in hand are the next ones
here : (c : After-next) (at : ℕ) (fd : RawFd) → c.next.result ≡ Some (at, fd)
    → (at ≡ length c.loop-at.yielded) × (drop (length c.loop-at.yielded) (numbers_in c.args.args.now) ≡ fd ∷ drop (length (c.loop-at.yielded ++ (at, fd) ∷ [])) (numbers_in c.args.args.now))
here c at fd is =
    numbered_here c.args.args.now (length c.loop-at.yielded) at _ fd
    (YieldsList-turn (YieldsList-at c.into_iter-at-iterator.ensures.into_iter_gives (YieldsList-from_enumerate (YieldsList-at c.enumerate-at-items.ensures.source (YieldsList-from_filter_map _ (number_of {X = RawFd}) (YieldsList-at c.filter_map.ensures.source (YieldsList-from_slice c.args.args.now cc)) c.filter_map.ensures.closure (λ x r q k. search (rules, tests)))) c.enumerate-at-items.ensures.count))
    c.loop-at.yielded _ c.loop-at.yielded_by _ _ (at, fd) is c.next.ensures.steps) (length_push c.loop-at.yielded (at, fd))

pub unwrap-requires : goal.unwrap-requires
unwrap-requires c =
    let h = here (goal.at.unwrap-requires c).After-next c.in-Some.at c.in-Some.fd c.in-Some.is in
    placing_goes _ _ _ c.in-Some.fd _ _ _ _ (placing_same _ _ _ _ _ _ _ _ h.1 c.loop-at.invariant.placing) _ _ c.duplicate.ensures.duplicates

pub bounds-places-at : goal.bounds-places-at
bounds-places-at c =
    let h = here (goal.at.bounds-places-at c).After-next c.in-Some.at c.in-Some.fd c.in-Some.is in
    let m = ap length h.1 in
    omega (arith, h.0, c.loop-at.invariant.placing.rest, c.requires.room)

pub loop-at-preserved : goal.loop-at-preserved
loop-at-preserved c =
    let h = here (goal.at.loop-at-preserved c).After-next c.in-Some.at c.in-Some.fd c.in-Some.is in
    let m = ap length h.1 in
    let n = length_push c.loop-at.yielded (c.in-Some.at, c.in-Some.fd) in
    record {
      next = search rules;
      ends = search rules;
      placing =
          placing_more _ _ _ c.in-Some.fd _ _ _ _ (placing_same _ _ _ _ _ _ _ _ h.1 c.loop-at.invariant.placing) (files c.duplicate.new.self) c.unwrap.result c.in-Some.at _
          (rw c.unwrap.ensures at c.duplicate.ensures.duplicates) (files_length c.loop-at.book) (omega (arith, c.loop-at.invariant.placing.rest, c.requires.room)) h.0 n;
    }

pub returns : goal.returns
returns c =
    let t = YieldsList-end (YieldsList-at c.into_iter-at-iterator.ensures.into_iter_gives (YieldsList-from_enumerate (YieldsList-at c.enumerate-at-items.ensures.source (YieldsList-from_filter_map _ (number_of {X = RawFd}) (YieldsList-at c.filter_map.ensures.source (YieldsList-from_slice c.args.args.now cc)) c.filter_map.ensures.closure (λ x r q k. search (rules, tests)))) c.enumerate-at-items.ensures.count))
    c.loop-at.yielded _ c.loop-at.yielded_by _ _ c.in-None.is c.next.ensures.steps in
    let g = numbers_gone c.args.args.now (length c.loop-at.yielded) (t.1 ∙ length-enumerate_from 0 (filter_map number_of c.args.args.now)) in
    placing_all _ _ _ _ _ _ (placing_same _ _ _ _ _ _ _ _ g.1 c.loop-at.invariant.placing)
