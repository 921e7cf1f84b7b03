use Rattle.std.proofs.Common.{◌≡◌, ℕ, ◌+◌, ◌-◌, List, [], ◌∷◌, ◌++◌, length, drop, Some, None, Ok, Option, Result, sym, refl, ap, ◌∙◌, arith, rules}
use borrow.Author.Tests.{tests}
use Rattle.std.proofs.lemmas.List.{length_push}
use Rattle.std.proofs.lemmas.Iterator.{YieldsList-from_slice}
use Rattle.std.proofs.lemmas.Iterator.Consumers.{YieldsList-at, YieldsList-from_filter_map, YieldsList-turn, YieldsList-end}
use Rattle.protocol.specs.declared.fd.RawFd.{RawFd}
use Rattle.protocol.specs.declared.refusal.Refusal.{Refusal}
use Rattle.book.specs.Files.{Files, numbers, opened}
use Rattle.book.specs.View.{files}
use Rattle.wire.specs.Records.{number_of, numbers_in}
use Rattle.wire.specs.Write.{dup_failure, unless_failed}
use Rattle.wire.proofs.Copies.{number_here, numbers_gone, check_missing, check_full, check_more}
use Rattle.wire.proofs.write.check_duplicates.Goals as goal
use Rattle.wire.proofs.write.check_duplicates.Goals.{After-file}

-- the answer, from what is left and what the loop knows of it
answered : (f g : Option ℕ) (free all : ℕ) (fs : Files) (ns : List RawFd) (r : Result ℕ Refusal) → free + opened fs ≡ numbers → f ≡ dup_failure fs free ns → g ≡ f → r ≡ unless_failed g (Ok all)
    → r ≡ unless_failed (dup_failure fs (numbers - opened fs) ns) (Ok all)
answered f g free all fs ns r b e d h = h ∙ ap (λ (o : Option ℕ). unless_failed o (Ok all)) (d ∙ e ∙ ap (λ (k : ℕ). dup_failure fs k ns) (omega arith))

-- the number in hand is the next one
here : (c : After-file) → drop (length c.loop-fd.yielded) (numbers_in c.args.args.now) ≡ c.in-Some.fd ∷ drop (length (c.loop-fd.yielded ++ c.in-Some.fd ∷ [])) (numbers_in c.args.args.now)
here c =
    number_here c.args.args.now (length c.loop-fd.yielded) c.in-Some.fd _
    (YieldsList-turn (YieldsList-at c.into_iter-fd-iterator.ensures.into_iter_gives (YieldsList-from_filter_map _ (number_of {X = RawFd}) (YieldsList-at c.filter_map-fd-items.ensures.source (YieldsList-from_slice c.args.args.now cc)) c.filter_map-fd-items.ensures.closure (λ x r q k. search (rules, tests))))
    c.loop-fd.yielded _ c.loop-fd.yielded_by _ _ c.in-Some.fd c.in-Some.is c.next.ensures.steps) (length_push c.loop-fd.yielded c.in-Some.fd)

pub returns-then-is_err : goal.returns-then-is_err
returns-then-is_err c =
    answered _ (Some 9) c.free_numbers-free.result _ (files c.args.book.now) (numbers_in c.args.args.now) _ c.free_numbers-free.ensures c.loop-fd.invariant.decides
    (sym (ap (dup_failure (files c.args.book.now) c.loop-fd.left) (here (goal.at.returns-then-is_err c).After-file)
    ∙ check_missing (files c.args.book.now) c.loop-fd.left c.in-Some.fd _ c.file.result c.file.ensures c.if-is_err.ensures.value))
    refl

pub returns-then-left-eq0 : goal.returns-then-left-eq0
returns-then-left-eq0 c =
    answered _ (Some 24) c.free_numbers-free.result _ (files c.args.book.now) (numbers_in c.args.args.now) _ c.free_numbers-free.ensures c.loop-fd.invariant.decides
    (sym (ap (dup_failure (files c.args.book.now) c.loop-fd.left) (here (goal.at.returns-then-left-eq0 c).After-file)
    ∙ check_full (files c.args.book.now) c.loop-fd.left c.in-Some.fd _ c.file.result c.file.ensures c.if-is_err.ensures.value c.if-left-eq0.true))
    refl

pub loop-fd-preserved : goal.loop-fd-preserved
loop-fd-preserved c = record {
  next = search rules;
  ends = search rules;
  decides =
      sym (ap (dup_failure (files c.args.book.now) c.loop-fd.left) (here (goal.at.loop-fd-preserved c).After-file)
      ∙ check_more (files c.args.book.now) c.loop-fd.left c.in-Some.fd _ c.file.result c.file.ensures c.if-is_err.ensures.value (omega arith))
      ∙ c.loop-fd.invariant.decides;
  counted = simp length_push (omega (arith, c.loop-fd.invariant.counted));
}

pub returns : goal.returns
returns c =
    let t = YieldsList-end (YieldsList-at c.into_iter-fd-iterator.ensures.into_iter_gives (YieldsList-from_filter_map _ (number_of {X = RawFd}) (YieldsList-at c.filter_map-fd-items.ensures.source (YieldsList-from_slice c.args.args.now cc)) c.filter_map-fd-items.ensures.closure (λ x r q k. search (rules, tests))))
    c.loop-fd.yielded _ c.loop-fd.yielded_by _ _ c.in-None.is c.next.ensures.steps in
    let g = numbers_gone c.args.args.now (length c.loop-fd.yielded) t.1 in
    answered _ None c.free_numbers-free.result _ (files c.args.book.now) (numbers_in c.args.args.now) _ c.free_numbers-free.ensures c.loop-fd.invariant.decides
    (sym (ap (dup_failure (files c.args.book.now) c.loop-fd.left) g.1))
    (ap Ok (omega (arith, c.loop-fd.invariant.counted, g.0)))
