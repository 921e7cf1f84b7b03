use Rattle.std.proofs.Common.{rules, tests, ◌≡◌, ℕ, ◌+◌, ◌<◌, get_or, ap, ◌∙◌, arith}
use Rattle.book.specs.Files.{numbers}
use Rattle.book.proofs.Stack.{file_of_new}
use Rattle.book.proofs.table.ops.all_numbers.Goals as goal

-- the numbers go down as the stack goes up
down : (c : goal.After-from) (k d : ℕ) → k < numbers → get_or c.from.result.items k d + k ≡ 1023
down c k d h =
    let called = (c.from_fn.ensures.items.at k d h).2 in
    let here : get_or c.from_fn.result k d + k ≡ 1023 = search (rules, tests) in
    ap (λ l. get_or l k d + k) c.from.ensures.0 ∙ here

pub returns-clause-unused : goal.returns-clause-unused
returns-clause-unused c k d h = (omega (arith, down c k d (omega (arith, c.from.ensures.1))), file_of_new numbers (get_or c.from.result.items k d))

pub returns-clause-distinct : goal.returns-clause-distinct
returns-clause-distinct c i j d l h e = omega (arith, down c i d (omega (arith, c.from.ensures.1)), down c j d (omega (arith, c.from.ensures.1)))
