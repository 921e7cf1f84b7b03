use Rattle.std.proofs.Common.{◌≡◌, ℕ, ◌+◌, ◌<◌, List, [], ◌∷◌, ◌++◌, length, Some, None, ap, ◌∙◌, sym, subst, arith, length-append, map, set}
use Rattle.std.specs.Option.{option_to_list}
use Rattle.std.proofs.lemmas.List.{map-set, length-set, length-map}
use Rattle.book.specs.declared.table.Book.{Book}
use Rattle.book.specs.declared.table.Entry.{Entry}
use Rattle.book.specs.Files.{Files, numbers, file_of, opened}
use Rattle.book.specs.Table.{stands_for, Unused, Distinct}
use Rattle.book.specs.View.{files}
use Rattle.book.proofs.Changes.{set_others}
use Rattle.book.proofs.Counts.{opened_enter}
use Rattle.book.proofs.Stack.{unused_top, unused_pop, distinct_pop}
use Rattle.book.proofs.table.Book.open.Goals as goal

abbrev entered : ℕ → Entry
entered file = record { file = Some file }

-- n is on top of the stack, and ns is what lies below it
module _ (b : Book) (ns : List ℕ) (n : ℕ) (stack : b.free.items ≡ ns ++ n ∷ []) where
  unused : Unused (files b) (ns ++ n ∷ [])
  unused = subst (λ (l : List ℕ). Unused (files b) l) stack b.unused

  distinct : Distinct (ns ++ n ∷ [])
  distinct = subst (λ (l : List ℕ). Distinct l) stack b.distinct

  top : (n < numbers) × (file_of (files b) n ≡ None)
  top = unused_top ns n (files b) unused

  counted : (file : ℕ) → length ns + opened (map stands_for (set b.entries n (entered file))) ≡ numbers
  counted file =
      omega (
        arith,
        ap opened (map-set stands_for b.entries n (entered file)),
        opened_enter (files b) n file top.1 (omega (arith, top.0, length-map b.entries stands_for, b.sized)),
        b.counted,
        ap length stack,
        length-append ns (n ∷ []),
      )

pub invariant_of-self-2 : goal.invariant_of-self-2
invariant_of-self-2 c =
    let b = c.args.self.now in
    let n = c.from.result in
    let ns = c.pop.new.self.items in
    let stack : b.free.items ≡ ns ++ n ∷ [] = c.pop.ensures.items ∙ ap (λ o. ns ++ option_to_list o) c.in_ok-number.ensures.ok_part ∙ ap (λ m. ns ++ m ∷ []) (sym c.from.ensures) in
    record {
      sized = length-set b.entries n (entered c.args.file) ∙ b.sized;
      counted = counted b ns n stack c.args.file;
      unused = rw map-set (unused_pop ns n (files b) (Some c.args.file) (unused b ns n stack) (distinct b ns n stack));
      distinct = distinct_pop ns n (distinct b ns n stack);
    }

pub returns : goal.returns
returns c =
    let b = c.args.self.now in
    let n = c.in_ok-number.number in
    let ns = c.pop.new.self.items in
    let stack : b.free.items ≡ ns ++ n ∷ [] = c.pop.ensures.items ∙ ap (λ o. ns ++ option_to_list o) c.in_ok-number.ensures.ok_part in
    let p = map-set stands_for b.entries n (entered c.args.file) in
    rw (c.from-2.ensures, c.from.ensures) record {
      opens = record { below = (top b ns n stack).0; unused = (top b ns n stack).1; after = p };
      others = set_others (files b) _ n (Some c.args.file) p;
    }
