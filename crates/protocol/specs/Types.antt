-- The types of arguments, and when arguments have the types of a signature.
use Rattle.std.specs.Prelude.{◌≡◌, ℕ, ◌<◌, Bool, true, false, ◌⊎◌, List, length, pos, Ok, Err, Result, ◌==◌, ◌≢◌, slice_index_or}
use Rattle.protocol.specs.declared.argument.AllowNull.TheVariants.{Yes}
use Rattle.protocol.specs.declared.argument.ArgumentType.{ArgumentType}
use Rattle.protocol.specs.declared.argument.ArgumentType.TheVariants as type
use Rattle.protocol.specs.declared.argument.Argument.{Argument}
use Rattle.protocol.specs.declared.argument.Argument.TheVariants as arg
use Rattle.protocol.specs.declared.refusal.Refusal.{Refusal}
use Rattle.protocol.specs.declared.refusal.Refusal.TheVariants.{Mismatch}

-- a number for each type, whatever it says of null
abbrev pub kind : ArgumentType → ℕ
kind type.Int = 0
kind type.Uint = 1
kind type.Fixed = 2
kind (type.Str null) = 3
kind (type.Object null) = 4
kind type.NewId = 5
kind type.Array = 6
kind type.Fd = 7

abbrev pub same_type : ArgumentType → ArgumentType → Bool
same_type s t = kind s == kind t

abbrev pub type_of : {F : Type 0} → Argument F → ArgumentType
type_of (arg.Int n) = type.Int
type_of (arg.Uint n) = type.Uint
type_of (arg.Fixed n) = type.Fixed
type_of (arg.Str t) = type.Str Yes
type_of arg.NullStr = type.Str Yes
type_of (arg.Object n) = type.Object Yes
type_of (arg.NewId n) = type.NewId
type_of (arg.Array t) = type.Array
type_of (arg.Fd f) = type.Fd

-- whether the argument at a place has the type at that place
abbrev pub fits_at : {F : Type 0} → List ArgumentType → List (Argument F) → ℕ → Bool
fits_at ts xs k = same_type (type_of (slice_index_or xs k (arg.Int (pos 0)))) (slice_index_or ts k type.Int)

-- as many arguments as types, each of its type
abbrev pub Matching : {F : Type 0} → List ArgumentType → List (Argument F) → Type 0
Matching ts xs = (length ts ≡ length xs) × ((k : ℕ) → k < length ts → fits_at ts xs k ≡ true)

-- a place that a mismatch may give: 255 where the numbers differ, else that of any argument of another type
abbrev pub Mismatching : {F : Type 0} → List ArgumentType → List (Argument F) → ℕ → Type 0
Mismatching ts xs place =
    ((length ts ≢ length xs) × (place ≡ 255))
    ⊎ ((length ts ≡ length xs) × (place < length ts) × (fits_at ts xs place ≡ false))

-- what `check_for_signature` answers
abbrev pub Checked : {F : Type 0} → List ArgumentType → List (Argument F) → Result Unit Refusal → Type 0
Checked ts xs (Ok u) = Matching ts xs
Checked ts xs (Err why) = (place : ℕ) × (why ≡ Mismatch place) × Mismatching ts xs place
