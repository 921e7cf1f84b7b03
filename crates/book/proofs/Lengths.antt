-- Every book has 1,024 numbers.
use Rattle.std.proofs.Common.{◌≡◌, length, ◌∙◌}
use Rattle.std.proofs.lemmas.List.{length-map}
use Rattle.book.specs.declared.table.Book.{Book}
use Rattle.book.specs.Files.{numbers}
use Rattle.book.specs.Table.{stands_for}
use Rattle.book.specs.View.{files}

pub files_length : (b : Book) → length (files b) ≡ numbers
files_length b = length-map b.entries stands_for ∙ b.sized
