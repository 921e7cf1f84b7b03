-- What `write_to_buffers` answers, and what the payload, the descriptor places and the book hold after it.
use Rattle.std.specs.Prelude.{◌≡◌, ℕ, ◌-◌, Bool, true, cond, ◌&&◌, ◌||◌, List, [], ◌∷◌, ◌++◌, map, length, drop, is_some, Some, None, Ok, Err, Option, Result, ◌==◌, nat_lt, slice_set}
use Rattle.protocol.specs.declared.argument.Argument.{Argument}
use Rattle.protocol.specs.declared.argument.Argument.TheVariants as arg
use Rattle.protocol.specs.declared.fd.OwnedFd.{OwnedFd}
use Rattle.protocol.specs.declared.fd.RawFd.{RawFd}
use Rattle.protocol.specs.declared.header as source
use Rattle.protocol.specs.declared.refusal.Refusal.{Refusal}
use Rattle.protocol.specs.declared.refusal.Refusal.TheVariants.{BadText, Oversize, DupFailed, Short}
use Rattle.book.specs.Files.{Files, Enters, file_of, numbers, opened}
use Rattle.wire.specs.Values.{Message, descriptors}
use Rattle.wire.specs.Frame.{frame, overlay, size_of}
use Rattle.wire.specs.Read.{no_zero}
use Rattle.wire.specs.Records.{bytes_of, inside, value_of}

-- the largest frame: the size is a multiple of 4 below 2 ^ 16
abbrev pub largest : ℕ
largest = 65532

-- a string or an array lies in the text, and a string has no byte 0
abbrev pub good_text : {X : Type 0} → List ℕ → Argument X → Bool
good_text bs (arg.Int z) = true
good_text bs (arg.Uint n) = true
good_text bs (arg.Fixed z) = true
good_text bs (arg.Str t) = inside (length bs) t && no_zero (bytes_of bs t)
good_text bs arg.NullStr = true
good_text bs (arg.Object n) = true
good_text bs (arg.NewId n) = true
good_text bs (arg.Array t) = inside (length bs) t
good_text bs (arg.Fd x) = true

abbrev pub good_texts : {X : Type 0} → List ℕ → List (Argument X) → Bool
good_texts bs [] = true
good_texts bs (a ∷ xs) = good_text bs a && good_texts bs xs

-- why numbers cannot be duplicated one after another, where so many numbers are free: 9 for one that is not open, 24 where none is free
abbrev pub dup_failure : Files → ℕ → List RawFd → Option ℕ
dup_failure fs free [] = None
dup_failure fs free (n ∷ ns) = cond (is_some (file_of fs n.0)) (cond (free == 0) (Some 24) (dup_failure fs (free - 1) ns)) (Some 9)

abbrev pub unless_failed : Option ℕ → Result ℕ Refusal → Result ℕ Refusal
unless_failed None r = r
unless_failed (Some code) r = Err (DupFailed code)

-- the answer: the size of the frame, or the first refusal; `payload` and `places` are how many bytes and descriptors there is room for
abbrev pub write_answer : Bool → Message RawFd → ℕ → ℕ → Files → Result ℕ Refusal
write_answer good m payload places fs =
    cond good
    (cond (nat_lt largest (size_of m)) (Err Oversize)
    (unless_failed (dup_failure fs (numbers - opened fs) (descriptors m.args))
    (cond (nat_lt payload (size_of m) || nat_lt places (length (descriptors m.args))) (Err Short)
    (Ok (size_of m)))))
    (Err BadText)

-- the duplicates of numbers, one after another: each stands for the file that its number stands for in the book `named`, and was not open before
abbrev pub Copied : Files → List RawFd → Files → List OwnedFd → Files → Type 0
Copied named [] fs [] fs' = fs' ≡ fs
Copied named [] fs (m ∷ ms) fs' = ⊥
Copied named (n ∷ ns) fs [] fs' = ⊥
Copied named (n ∷ ns) fs (m ∷ ms) fs' =
    (file : ℕ) × (file_of named n.0 ≡ Some file) × Enters file m.0 fs (slice_set fs m.0 (Some file)) × Copied named ns (slice_set fs m.0 (Some file)) ms fs'

-- the duplicates stand first among the descriptor places; a number names the file that it stands for as the call begins
pub record Placed (ns : List RawFd) (places : List OwnedFd) (fs : Files) (places' : List OwnedFd) (fs' : Files) : Type 0 where
  pub duplicates : List OwnedFd
  pub copied : Copied fs ns fs duplicates fs'
  pub placed : places' ≡ duplicates ++ drop (length duplicates) places

-- the frame stands first in the payload
pub record Stored (m : Message RawFd) (payload : List ℕ) (places : List OwnedFd) (fs : Files) (payload' : List ℕ) (places' : List OwnedFd) (fs' : Files) : Type 0 where
  pub bytes : payload' ≡ overlay (frame m) payload
  pub fds : Placed (descriptors m.args) places fs places' fs'

-- a refusal changes nothing
abbrev pub After : Result ℕ Refusal → Message RawFd → List ℕ → List OwnedFd → Files → List ℕ → List OwnedFd → Files → Type 0
After (Ok n) m payload places fs payload' places' fs' = Stored m payload places fs payload' places' fs'
After (Err why) m payload places fs payload' places' fs' = (payload' ≡ payload) × (places' ≡ places) × (fs' ≡ fs)

-- what a message of the code says
abbrev pub message_of : {X : Type 0} → source.Message.Message X → Message X
message_of m = record { sender = m.sender; opcode = m.opcode; args = map (value_of m.text.now) m.args.now }
