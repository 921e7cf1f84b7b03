-- The types that a signature holds: the first `len`.
use Rattle.std.specs.Prelude.{List, take}
use Rattle.protocol.specs.declared.argument.ArgumentType.{ArgumentType}
use Rattle.signature.specs.declared.types.Signature.{Signature}

abbrev pub types_in : Signature → List ArgumentType
types_in s = take s.len s.types
