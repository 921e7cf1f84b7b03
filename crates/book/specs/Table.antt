-- What the code's table keeps true: the numbers that are not open stand on a stack, each once.
use Rattle.std.specs.Prelude.{◌≡◌, ℕ, ◌<◌, List, None, Option, ◌≢◌}
use Rattle.std.specs.List.{All, AllPairs}
use Rattle.book.specs.declared.table.Entry.{Entry}
use Rattle.book.specs.Files.{Files, numbers, file_of}

-- what an entry of the table stands for
abbrev pub stands_for : Entry → Option ℕ
stands_for e = e.file

-- each number on the stack is one of the table's that is not open
abbrev pub Unused : Files → List ℕ → Type 0
Unused fs stack = All (λ n. (n < numbers) × (file_of fs n ≡ None)) stack

-- no number stands on the stack twice
abbrev pub Distinct : List ℕ → Type 0
Distinct stack = AllPairs (λ m n. m ≢ n) stack
