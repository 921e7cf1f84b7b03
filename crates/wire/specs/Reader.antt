-- What a reader has left to read, and what it gives; and what the checks of a frame leave to be read.
use Rattle.std.specs.Prelude.{◌≡◌, ℕ, ◌+◌, ◌≤◌, ◌⊎◌, List, [], ◌++◌, length, take, drop, Some, None, Option, Result}
use Rattle.protocol.specs.declared.argument.Argument.{Argument}
use Rattle.protocol.specs.declared.argument.ArgumentType.{ArgumentType}
use Rattle.protocol.specs.declared.fd.OwnedFd.{OwnedFd}
use Rattle.protocol.specs.declared.header.Header.{Header}
use Rattle.protocol.specs.declared.refusal.Refusal.{Refusal}
use Rattle.wire.specs.declared.reader.Reader.{Reader}
use Rattle.wire.specs.Values.{Value, carried, descriptors}
use Rattle.wire.specs.Frame.{field}
use Rattle.wire.specs.Answers.{header_at}
use Rattle.wire.specs.Read.{Parsed, before, parsed, size_at, values}
use Rattle.wire.specs.Records.{record_of, records_of}

-- the arguments that are left
abbrev pub left : Reader → Option (List (Value OwnedFd))
left r = values r.kinds.now r.bytes.now r.fds.now

-- a reader that has moved on behind a value
pub record Behind (v : Value OwnedFd) (r r' : Reader) : Type 0 where
  pub kinds : length r.kinds.now ≡ length r'.kinds.now + 1
  pub at : r'.at ≡ r.at + length (field v)
  pub fds : length r.fds.now ≡ length (carried v) + length r'.fds.now
  pub rest : left r ≡ before v (left r')

-- the record of the next value; none where there is no next type, or no value of it
abbrev pub Took : Reader → Option (Argument OwnedFd) → Reader → Type 0
Took r None r' = (r.kinds.now ≡ []) ⊎ (left r ≡ None)
Took r (Some a) r' = (v : Value OwnedFd) × (a ≡ record_of r.at v) × Behind v r r'

-- the first records are those of the values, and so many descriptors were taken
abbrev pub Gives : Option (List (Value OwnedFd)) → ℕ → ℕ → List (Argument OwnedFd) → List (Argument OwnedFd) → Type 0
Gives None at n records records' = ⊥
Gives (Some vs) at n records records' = (n ≡ length (descriptors vs)) × (records' ≡ records_of at vs ++ drop (length vs) records)

-- every check was passed: what is left to read is the frame's arguments, and they decide the answer
pub record Passed (p : Result (Parsed OwnedFd) Refusal) (room : ℕ) (ts : List ArgumentType) (raw : List ℕ) (xs : List OwnedFd) (header : Header) (reader : Reader) (tail : List ℕ) : Type 0 where
  pub is : header ≡ header_at raw
  pub behind : tail ≡ drop (size_at raw) raw
  pub args : left reader ≡ values ts (drop 8 (take (size_at raw) raw)) xs
  pub answer : p ≡ parsed raw xs (left reader)
  pub room_enough : length reader.kinds.now ≤ room
  pub fds : reader.fds.now ≡ xs
