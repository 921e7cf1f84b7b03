-- How bytes are read back into a message, from the same format. Padding, and what follows the last argument, is ignored.
use Rattle.std.specs.Prelude.{ℕ, ◌+◌, ◌-◌, ◌*◌, ◌/◌, ◌%◌, Bool, true, false, cond, ◌&&◌, List, [], ◌∷◌, length, take, drop, Some, None, Ok, Err, Option, Result, ◌==◌, nat_le, nat_lt, slice_index, slice_index_or}
use Rattle.std.specs.Int.{w32}
use Rattle.std.proofs.Common.{to_z}
use Rattle.protocol.specs.declared.argument.ArgumentType.{ArgumentType}
use Rattle.protocol.specs.declared.argument.ArgumentType.TheVariants as type
use Rattle.protocol.specs.declared.refusal.Refusal.{Refusal}
use Rattle.protocol.specs.declared.refusal.Refusal.TheVariants.{MissingData, Malformed, MissingFd, Small}
use Rattle.wire.specs.Values.{Value, Message, int, uint, fixed, string, null, object, new_id, array, descriptor, carried, descriptors}
use Rattle.wire.specs.Frame.{field, padding}

-- the number that the first four bytes are
abbrev pub word_at : List ℕ → ℕ
word_at bs = slice_index bs 0 + slice_index bs 1 * 256 + slice_index bs 2 * 65536 + slice_index bs 3 * 16777216

abbrev pub no_zero : List ℕ → Bool
no_zero [] = true
no_zero (b ∷ bs) = cond (b == 0) false (no_zero bs)

abbrev pub number : {X : Type 0} → (ℕ → Value X) → List ℕ → Option (Value X)
number f bs = cond (nat_le 4 (length bs)) (Some (f (word_at bs))) None

-- whether a length, that many bytes and their padding are there
abbrev pub whole : List ℕ → Bool
whole bs = nat_le 4 (length bs) && nat_le (4 + (word_at bs + padding (word_at bs))) (length bs)

-- the bytes behind a length
abbrev pub inner : List ℕ → List ℕ
inner bs = take (word_at bs) (drop 4 bs)

-- the bytes end in their only 0
abbrev pub ended : List ℕ → Bool
ended bs = slice_index_or bs (length bs - 1) 1 == 0 && no_zero (take (length bs - 1) bs)

-- no bytes are the null string; else the bytes before the final 0
abbrev pub text : {X : Type 0} → List ℕ → Option (Value X)
text bs = cond (length bs == 0) (Some null) (cond (ended bs) (Some (string (take (length bs - 1) bs))) None)

abbrev pub first : {X : Type 0} → List X → Option (Value X)
first [] = None
first (x ∷ xs) = Some (descriptor x)

-- the first argument in bs, of a type; xs has the descriptors that are to come
abbrev pub one : {X : Type 0} → ArgumentType → List ℕ → List X → Option (Value X)
one type.Int bs xs = number (λ n. int (to_z w32 n)) bs
one type.Uint bs xs = number uint bs
one type.Fixed bs xs = number (λ n. fixed (to_z w32 n)) bs
one (type.Str maybe) bs xs = cond (whole bs) (text (inner bs)) None
one (type.Object maybe) bs xs = number object bs
one type.NewId bs xs = number new_id bs
one type.Array bs xs = cond (whole bs) (Some (array (inner bs))) None
one type.Fd bs xs = first xs

abbrev pub then : {X : Type 0} → Option (Value X) → (Value X → Option (List (Value X))) → Option (List (Value X))
then None next = None
then (Some v) next = next v

abbrev pub before : {X : Type 0} → Value X → Option (List (Value X)) → Option (List (Value X))
before v None = None
before v (Some vs) = Some (v ∷ vs)

-- the arguments in bs, one for each type
abbrev pub values : {X : Type 0} → List ArgumentType → List ℕ → List X → Option (List (Value X))
values [] bs xs = Some []
values (t ∷ ts) bs xs = then (one t bs xs) (λ v. before v (values ts (drop (length (field v)) bs) (drop (length (carried v)) xs)))

abbrev pub fd_of : ArgumentType → ℕ
fd_of type.Int = 0
fd_of type.Uint = 0
fd_of type.Fixed = 0
fd_of (type.Str maybe) = 0
fd_of (type.Object maybe) = 0
fd_of type.NewId = 0
fd_of type.Array = 0
fd_of type.Fd = 1

-- how many descriptors a signature has
abbrev pub fd_count : List ArgumentType → ℕ
fd_count [] = 0
fd_count (t ∷ ts) = fd_of t + fd_count ts

abbrev pub size_at : List ℕ → ℕ
size_at raw = word_at (drop 4 raw) / 65536

abbrev pub opcode_at : List ℕ → ℕ
opcode_at raw = word_at (drop 4 raw) % 65536

-- a message that was read, the size that its frame gives, what is left of the bytes, and the descriptors that are left
pub record Parsed (X : Type 0) : Type 0 where
  pub message : Message X
  pub size : ℕ
  pub rest : List ℕ
  pub left : List X

abbrev pub parsed : {X : Type 0} → List ℕ → List X → Option (List (Value X)) → Result (Parsed X) Refusal
parsed raw xs None = Err Malformed
parsed raw xs (Some vs) = Ok (record { message = record { sender = word_at raw; opcode = opcode_at raw; args = vs }; size = size_at raw; rest = drop (size_at raw) raw; left = drop (length (descriptors vs)) xs })

-- the message at the front of raw, where a caller has room for so many arguments
abbrev pub parse : {X : Type 0} → ℕ → List ArgumentType → List ℕ → List X → Result (Parsed X) Refusal
parse room ts raw xs =
    cond (nat_lt (length raw) 8) (Err MissingData)
    (cond (nat_lt (size_at raw) 8) (Err Malformed)
    (cond (nat_lt (length raw) (size_at raw)) (Err MissingData)
    (cond (nat_lt (length xs) (fd_count ts)) (Err MissingFd)
    (cond (nat_lt room (length ts)) (Err Small)
    (parsed raw xs (values ts (drop 8 (take (size_at raw) raw)) xs))))))
