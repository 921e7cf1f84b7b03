-- What a book holds: the file of each number, from its entries.
use Rattle.std.specs.Prelude.{map}
use Rattle.book.specs.Files.{Files}
use Rattle.book.specs.Table.{stands_for}
use Rattle.book.specs.declared.table.Book.{Book}

abbrev pub files : Book → Files
files b = map stands_for b.entries
