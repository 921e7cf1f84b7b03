-- What was written is read back, each duplicate standing for the file of the number that was written.
use Rattle.std.specs.Prelude.{◌≡◌, ℕ, ◌≤◌, List, ◌++◌, length, take, Ok, Err, Option, Result}
use Rattle.protocol.specs.declared.argument.Argument.{Argument}
use Rattle.protocol.specs.declared.argument.ArgumentType.{ArgumentType}
use Rattle.protocol.specs.declared.fd.OwnedFd.{OwnedFd}
use Rattle.protocol.specs.declared.fd.RawFd.{RawFd}
use Rattle.protocol.specs.declared.refusal.Refusal.{Refusal}
use Rattle.protocol.specs.Types.{Matching}
use Rattle.book.specs.Files.{Files, file_of}
use Rattle.wire.specs.Values.{Message, descriptors, renamed_message}
use Rattle.wire.specs.Read.{parse}

-- a message by the files of its descriptors
abbrev pub by_raw : Files → Message RawFd → Message (Option ℕ)
by_raw fs m = renamed_message (λ fd. file_of fs fd.0) m

abbrev pub by_owned : Files → Message OwnedFd → Message (Option ℕ)
by_owned fs m = renamed_message (λ fd. file_of fs fd.0) m

-- reading gives a message of so many bytes, the rest, and the descriptors behind its own; by the files it is the message that was written
pub record Regained (ts : List ArgumentType) (room : ℕ) (raw : List ℕ) (xs : List OwnedFd) (m : Message RawFd) (n : ℕ) (rest : List ℕ) (more : List OwnedFd) (fs fs' : Files) : Type 0 where
  pub message : Message OwnedFd
  pub answer : parse room ts raw xs ≡ Ok (record { message = message; size = n; rest = rest; left = more })
  pub same : by_owned fs' message ≡ by_raw fs m

-- for every signature that the arguments match, whatever follows the frame and its duplicates
abbrev pub ReadBack : Result ℕ Refusal → List (Argument RawFd) → Message RawFd → List ℕ → List OwnedFd → Files → Files → Type 0
ReadBack (Err why) xs m payload' places' fs fs' = Unit {0}
ReadBack (Ok n) xs m payload' places' fs fs' =
    (ts : List ArgumentType) (room : ℕ) (rest : List ℕ) (more : List OwnedFd) → Matching ts xs → length ts ≤ room
    → Regained ts room (take n payload' ++ rest) (take (length (descriptors m.args)) places' ++ more) m n rest more fs fs'
