-- What each caption of a field covers: the word in front, the bytes, a string's final 0, the padding.
use Rattle.std.specs.Prelude.{ℕ, ◌+◌}
use Rattle.protocol.specs.declared.argument.Argument.{Argument}
use Rattle.protocol.specs.declared.argument.Argument.TheVariants as arg
use Rattle.wire.specs.Frame.{padding}
use Rattle.quicklook.specs.declared.captions.Parts.{Parts}

abbrev pub word_parts : ℕ → Parts
word_parts n = record { word = n; bytes = 0; end = 0; padding = 0 }

abbrev pub block_parts : ℕ → ℕ → Parts
block_parts n zeros = record { word = 4; bytes = n; end = zeros; padding = padding (n + zeros) }

abbrev pub parts_of : {X : Type 0} → Argument X → Parts
parts_of (arg.Int z) = word_parts 4
parts_of (arg.Uint n) = word_parts 4
parts_of (arg.Fixed z) = word_parts 4
parts_of (arg.Str t) = block_parts t.len 1
parts_of arg.NullStr = word_parts 4
parts_of (arg.Object n) = word_parts 4
parts_of (arg.NewId n) = word_parts 4
parts_of (arg.Array t) = block_parts t.len 0
parts_of (arg.Fd x) = word_parts 0

-- the bytes that all captions cover
abbrev pub covered : Parts → ℕ
covered p = p.word + (p.bytes + p.end + p.padding)
