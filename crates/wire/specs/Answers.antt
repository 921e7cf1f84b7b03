-- What `parse_message` answers, and what the cursor of the descriptors and the caller's records hold after it.
use Rattle.std.specs.Prelude.{◌≡◌, ℕ, ◌+◌, List, ◌++◌, map, length, take, drop, Some, None, Ok, Err, Option, Result}
use Rattle.std.specs.Borrow.{Bor}
use Rattle.protocol.specs.declared.argument.Argument.{Argument}
use Rattle.protocol.specs.declared.fd.OwnedFd.{OwnedFd}
use Rattle.protocol.specs.declared.header.Header.{Header}
use Rattle.protocol.specs.declared.refusal.Refusal.{Refusal}
use Rattle.wire.specs.Values.{Value, descriptors}
use Rattle.wire.specs.Read.{Parsed, word_at, opcode_at, size_at}
use Rattle.wire.specs.Records.{records_of, value_in}

abbrev pub header_at : List ℕ → Header
header_at raw = record { sender = word_at raw; opcode = opcode_at raw; size = size_at raw }

-- the first records are those of the values, and the cursor is past their descriptors
abbrev pub Filled : Option (List (Value OwnedFd)) → ℕ → List (Argument OwnedFd) → ℕ → List (Argument OwnedFd) → Type 0
Filled None cursor records cursor' records' = ⊥
Filled (Some vs) cursor records cursor' records' = (cursor' ≡ cursor + length (descriptors vs)) × (records' ≡ records_of 8 vs ++ drop (length vs) records)

-- a message that was read: the header, the unused tail, the records and the cursor
pub record Reading (p : Result (Parsed OwnedFd) Refusal) (cursor : ℕ) (records : List (Argument OwnedFd)) (r : Header × Bor (List ℕ)) (cursor' : ℕ) (records' : List (Argument OwnedFd)) : Type 0 where
  pub found : Parsed OwnedFd
  pub is : p ≡ Ok found
  pub header : r.0 ≡ record { sender = found.message.sender; opcode = found.message.opcode; size = found.size }
  pub tail : r.1.now ≡ found.rest
  pub filled : Filled (Some found.message.args) cursor records cursor' records'

-- what `parse` says; a refusal changes neither the cursor nor the records
abbrev pub Answers : Result (Parsed OwnedFd) Refusal → ℕ → List (Argument OwnedFd) → Result (Header × Bor (List ℕ)) Refusal → ℕ → List (Argument OwnedFd) → Type 0
Answers p cursor records (Err why) cursor' records' = (p ≡ Err why) × (cursor' ≡ cursor) × (records' ≡ records)
Answers p cursor records (Ok r) cursor' records' = Reading p cursor records r cursor' records'

-- each record that was filled shows its value in the frame
abbrev pub Shows : Result (Parsed OwnedFd) Refusal → List ℕ → List (Argument OwnedFd) → Type 0
Shows p raw records' = (found : Parsed OwnedFd) → p ≡ Ok found → map (value_in (take found.size raw)) (take (length found.message.args) records') ≡ map Some found.message.args
