use Rattle.std.proofs.Common.{◌≡◌, ℕ, ◌<◌, true, is_some, None, arith, subst, List, sym, ◌∷◌, [], ◌++◌, ◌∙◌, ap, length, length-append}
use Rattle.std.proofs.lemmas.List.{map-set, length-set, length-map}
use Rattle.book.specs.Files.{Files, numbers, file_of, opened}
use Rattle.book.specs.Table.{stands_for, Unused, Distinct}
use Rattle.book.specs.View.{files}
use Rattle.book.proofs.Changes.{set_others}
use Rattle.book.proofs.Counts.{opened_leave, open_below}
use Rattle.book.proofs.Stack.{unused_push, distinct_push}
use Rattle.book.proofs.table.Book.release.Goals as goal

pub push-requires : goal.push-requires
push-requires c = (omega arith, omega (arith, opened_leave (files c.args.self.now) c.args.fd.0 c.requires, c.args.self.now.counted))

pub invariant_of-self : goal.invariant_of-self
invariant_of-self c =
    let b = c.args.self.now in
    let fs = files b in
    let n = c.args.fd.0 in
    let ns = b.free.items in
    let p = map-set stands_for b.entries n (record { file = None }) in
    let inside = open_below fs n c.requires in
    let below : n < numbers = omega (arith, inside, length-map b.entries stands_for, b.sized) in
    record {
      sized = length-set b.entries n (record { file = None }) ∙ b.sized;
      counted = omega (arith, ap opened p, opened_leave fs n c.requires, b.counted, c.push.ensures.len);
      unused = rw p (rw c.push.ensures.items (unused_push fs ns n b.unused below inside));
      distinct = rw c.push.ensures.items (distinct_push fs ns n b.unused c.requires b.distinct);
    }

pub returns : goal.returns
returns c =
    let b = c.args.self.now in
    let p = map-set stands_for b.entries c.args.fd.0 (record { file = None }) in
    record { after = p; others = set_others (files b) _ c.args.fd.0 None p }
