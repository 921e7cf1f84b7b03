-- Each refusal has a number, a value (the place or the code that it carries, else 0) and a name.
use Rattle.std.specs.Prelude.{ℕ, List, codes}
use Rattle.protocol.specs.declared.refusal.Refusal.{Refusal}
use Rattle.protocol.specs.declared.refusal.Refusal.TheVariants.{Mismatch, BadText, Oversize, DupFailed, Short, Broken, TooBig, Again, Full, Pipe, MissingData, Malformed, MissingFd, Small, Limit, NotOpen, BookFull, BadRow}

abbrev pub number_of : Refusal → ℕ
number_of (Mismatch place) = 1
number_of BadText = 2
number_of Oversize = 3
number_of (DupFailed code) = 4
number_of Short = 5
number_of (Broken code) = 6
number_of TooBig = 7
number_of Again = 8
number_of Full = 9
number_of Pipe = 10
number_of MissingData = 11
number_of Malformed = 12
number_of MissingFd = 13
number_of Small = 14
number_of Limit = 15
number_of NotOpen = 16
number_of BookFull = 17
number_of BadRow = 18

abbrev pub value_of : Refusal → ℕ
value_of (Mismatch place) = place
value_of BadText = 0
value_of Oversize = 0
value_of (DupFailed code) = code
value_of Short = 0
value_of (Broken code) = code
value_of TooBig = 0
value_of Again = 0
value_of Full = 0
value_of Pipe = 0
value_of MissingData = 0
value_of Malformed = 0
value_of MissingFd = 0
value_of Small = 0
value_of Limit = 0
value_of NotOpen = 0
value_of BookFull = 0
value_of BadRow = 0

abbrev pub name_of : Refusal → List ℕ
name_of (Mismatch place) = codes "MISMATCH"
name_of BadText = codes "BADTEXT"
name_of Oversize = codes "OVERSIZE"
name_of (DupFailed code) = codes "DUPFAILED"
name_of Short = codes "SHORT"
name_of (Broken code) = codes "BROKEN"
name_of TooBig = codes "TOOBIG"
name_of Again = codes "AGAIN"
name_of Full = codes "FULL"
name_of Pipe = codes "PIPE"
name_of MissingData = codes "MISSINGDATA"
name_of Malformed = codes "MALFORMED"
name_of MissingFd = codes "MISSINGFD"
name_of Small = codes "SMALL"
name_of Limit = codes "LIMIT"
name_of NotOpen = codes "NOTOPEN"
name_of BookFull = codes "BOOKFULL"
name_of BadRow = codes "BADROW"
