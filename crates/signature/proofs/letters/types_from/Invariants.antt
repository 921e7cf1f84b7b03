use Rattle.std.proofs.Common.{◌≡◌, false, drop}
use Rattle.signature.specs.Letters.{types_from, after}
use Rattle.signature.specs.View.{types_in}
use Rattle.signature.proofs.letters.types_from.Given as goal

-- the types so far and those of the letters that are left are all the types
abbrev pub invariant-loop-letter : goal.invariant-loop-letter
invariant-loop-letter l = after (types_in l.read) (types_from l.marked (drop l.letter-index l.letters)) ≡ types_from false l.letters
