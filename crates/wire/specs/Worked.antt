-- Frames worked out by hand from the wire format, as facts about the definitions.
use Rattle.std.specs.Prelude.{◌≡◌, ℕ, true, List, [], ◌∷◌, ◌++◌, length, take, Ok, Err, codes}
use Rattle.protocol.specs.declared.argument.AllowNull.TheVariants.{No}
use Rattle.protocol.specs.declared.argument.ArgumentType.TheVariants.{Str, Uint}
use Rattle.protocol.specs.declared.fd.OwnedFd.{OwnedFd}
use Rattle.protocol.specs.declared.fd.RawFd.{RawFd}
use Rattle.protocol.specs.declared.refusal.Refusal.TheVariants.{MissingData, Malformed, Oversize}
use Rattle.book.specs.Files.{Files}
use Rattle.wire.specs.Values.{Message, Value, string, null, new_id, array}
use Rattle.wire.specs.Frame.{field, frame, known, size_of}
use Rattle.wire.specs.Read.{parse}
use Rattle.wire.specs.Write.{write_answer}

-- sender 1, opcode 1, one argument
abbrev pub alone : Value RawFd → Message RawFd
alone v = record { sender = 1; opcode = 1; args = v ∷ [] }

-- the header of such a frame of a size below 256
abbrev pub header : ℕ → List ℕ
header size = 1 ∷ 0 ∷ 0 ∷ 0 ∷ 1 ∷ 0 ∷ size ∷ 0 ∷ []

pub record WorkedFrames : Type 0 where
  -- new id 2, byte by byte
  pub new_id_2 : frame (alone (new_id 2)) ≡ known (1 ∷ 0 ∷ 0 ∷ 0 ∷ 1 ∷ 0 ∷ 12 ∷ 0 ∷ 2 ∷ 0 ∷ 0 ∷ 0 ∷ [])
  -- the empty string has length 1, the null string length 0
  pub empty_length : take 4 (field {X = RawFd} (string [])) ≡ known (1 ∷ 0 ∷ 0 ∷ 0 ∷ [])
  pub empty_size : size_of (alone (string [])) ≡ 16
  pub null_length : field {X = RawFd} null ≡ known (0 ∷ 0 ∷ 0 ∷ 0 ∷ [])
  pub null_size : size_of (alone null) ≡ 12
  pub hey_size : size_of (alone (string (codes "hey"))) ≡ 16
  pub abcd_size : size_of (alone (string (codes "abcd"))) ≡ 20
  pub five_bytes : (bs : List ℕ) → length bs ≡ 5 → size_of (alone (array bs)) ≡ 20
  -- a size below 8, a size of 8, and a frame that is not there whole
  pub size_7 : parse {X = OwnedFd} 20 [] (header 7) [] ≡ Err Malformed
  pub size_8 : parse {X = OwnedFd} 20 [] (header 8) [] ≡ Ok (record { message = record { sender = 1; opcode = 1; args = [] }; size = 8; rest = []; left = [] })
  pub size_12_of_11 : parse {X = OwnedFd} 20 (Uint ∷ []) (header 12 ++ (0 ∷ 0 ∷ 0 ∷ [])) [] ≡ Err MissingData
  -- strings that do not end in their only 0: 'a' 0 0, and 'a' 'b'
  pub two_zeros : parse {X = OwnedFd} 20 (Str No ∷ []) (header 16 ++ (3 ∷ 0 ∷ 0 ∷ 0 ∷ 97 ∷ 0 ∷ 0 ∷ 0 ∷ [])) [] ≡ Err Malformed
  pub zero_missing : parse {X = OwnedFd} 20 (Str No ∷ []) (header 16 ++ (2 ∷ 0 ∷ 0 ∷ 0 ∷ 97 ∷ 98 ∷ 0 ∷ 0 ∷ [])) [] ≡ Err Malformed
  -- the largest array alone, and one byte more
  pub largest_array : (bs : List ℕ) → length bs ≡ 65520 → size_of (alone (array bs)) ≡ 65532
  pub oversize_array : (bs : List ℕ) (payload places : ℕ) (fs : Files) → length bs ≡ 65521 → write_answer true (alone (array bs)) payload places fs ≡ Err Oversize
