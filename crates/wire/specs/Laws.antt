-- The two laws between frames and reading, for any kind of descriptor.
use Rattle.std.specs.Prelude.{◌≡◌, ℕ, ◌+◌, ◌^◌, ◌<◌, ◌≤◌, true, List, [], ◌∷◌, ◌++◌, length, Ok, FitsSigned}
use Rattle.std.specs.Int.{w32}
use Rattle.protocol.specs.declared.argument.AllowNull.TheVariants.{Yes}
use Rattle.protocol.specs.declared.argument.ArgumentType.{ArgumentType}
use Rattle.protocol.specs.declared.argument.ArgumentType.TheVariants as type
use Rattle.protocol.specs.Types.{kind}
use Rattle.wire.specs.Values.{Value, Message, int, uint, fixed, string, null, object, new_id, array, descriptor, descriptors}
use Rattle.wire.specs.Frame.{Fits, frame, frame_sized, size_of}
use Rattle.wire.specs.Read.{Parsed, no_zero, parse}

abbrev pub type_of_value : {X : Type 0} → Value X → ArgumentType
type_of_value (int z) = type.Int
type_of_value (uint n) = type.Uint
type_of_value (fixed z) = type.Fixed
type_of_value (string bs) = type.Str Yes
type_of_value null = type.Str Yes
type_of_value (object n) = type.Object Yes
type_of_value (new_id n) = type.NewId
type_of_value (array bs) = type.Array
type_of_value (descriptor x) = type.Fd

-- a value that the format can carry: numbers of 32 bits, strings without a byte 0
abbrev pub Carries : {X : Type 0} → Value X → Type 0
Carries (int z) = FitsSigned w32 z
Carries (uint n) = n < 2 ^ 32
Carries (fixed z) = FitsSigned w32 z
Carries (string bs) = no_zero bs ≡ true
Carries null = Unit {0}
Carries (object n) = n < 2 ^ 32
Carries (new_id n) = n < 2 ^ 32
Carries (array bs) = Unit {0}
Carries (descriptor x) = Unit {0}

abbrev pub AllCarry : {X : Type 0} → List (Value X) → Type 0
AllCarry [] = Unit {0}
AllCarry (v ∷ vs) = Carries v × AllCarry vs

-- as many values as types, each of its type, whatever the type says of null
abbrev pub Typed : {X : Type 0} → List ArgumentType → List (Value X) → Type 0
Typed [] [] = Unit {0}
Typed [] (v ∷ vs) = ⊥
Typed (t ∷ ts) [] = ⊥
Typed (t ∷ ts) (v ∷ vs) = (kind t ≡ kind (type_of_value v)) × Carries v × Typed ts vs

-- a message that a frame can hold, of the types of a signature
pub record WellTyped {X : Type 0} (ts : List ArgumentType) (m : Message X) : Type 0 where
  pub sender : m.sender < 2 ^ 32
  pub opcode : m.opcode < 2 ^ 16
  pub size : size_of m < 2 ^ 16
  pub args : Typed ts m.args

-- any bytes that fit the frame of a well-typed message, followed by anything, are read as that message and the rest
abbrev pub ReadsFrames : {X : Type 0} → ℕ → List ArgumentType → List ℕ → List X → Type 0
ReadsFrames {X} room ts raw xs =
    (m : Message X) (front rest : List ℕ) (more : List X)
    → WellTyped ts m → Fits (frame m) front → raw ≡ front ++ rest → xs ≡ descriptors m.args ++ more → length ts ≤ room
    → parse room ts raw xs ≡ Ok (record { message = m; size = size_of m; rest = rest; left = more })

-- the bytes of a message that was read: a frame of it, with the size that they give, then bytes that are ignored, then the rest
pub record Framed {X : Type 0} (ts : List ArgumentType) (raw : List ℕ) (xs : List X) (p : Parsed X) : Type 0 where
  pub front : List ℕ
  pub ignored : List ℕ
  pub bytes : raw ≡ front ++ (ignored ++ p.rest)
  pub fits : Fits (frame_sized p.size p.message) front
  pub size : p.size ≡ length front + length ignored
  pub typed : Typed ts p.message.args
  pub descriptors_are : xs ≡ descriptors p.message.args ++ p.left

-- whatever is read fits the frame of what it gave, up to padding and ignored bytes
abbrev pub GivesFrames : {X : Type 0} → ℕ → List ArgumentType → List ℕ → List X → Type 0
GivesFrames {X} room ts raw xs = (p : Parsed X) → parse room ts raw xs ≡ Ok p → Framed ts raw xs p
