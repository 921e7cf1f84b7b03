-- Argument records: a string or an array is a place and a length in the bytes that go with the record.
use Rattle.std.specs.Prelude.{ℕ, ◌+◌, Bool, true, cond, List, [], ◌∷◌, ◌++◌, length, take, drop, Some, None, Option, nat_le, slice_get}
use Rattle.protocol.specs.declared.argument.Text.{Text}
use Rattle.protocol.specs.declared.argument.Argument.{Argument}
use Rattle.protocol.specs.declared.argument.Argument.TheVariants as arg
use Rattle.wire.specs.Values.{Value, int, uint, fixed, string, null, object, new_id, array, descriptor}
use Rattle.wire.specs.Frame.{field, padding}

abbrev pub text_at : ℕ → ℕ → Text
text_at at n = record { place = at; len = n }

-- the bytes of a string or an array
abbrev pub bytes_of : List ℕ → Text → List ℕ
bytes_of bs t = take t.len (drop t.place bs)

-- whether they lie in so many bytes
abbrev pub inside : ℕ → Text → Bool
inside n t = nat_le (t.place + t.len) n

abbrev pub part_of : List ℕ → Text → Option (List ℕ)
part_of bs t = cond (inside (length bs) t) (Some (bytes_of bs t)) None

-- what a record says of its bytes
abbrev pub value_of : {X : Type 0} → List ℕ → Argument X → Value X
value_of bs (arg.Int z) = int z
value_of bs (arg.Uint n) = uint n
value_of bs (arg.Fixed z) = fixed z
value_of bs (arg.Str t) = string (bytes_of bs t)
value_of bs arg.NullStr = null
value_of bs (arg.Object n) = object n
value_of bs (arg.NewId n) = new_id n
value_of bs (arg.Array t) = array (bytes_of bs t)
value_of bs (arg.Fd x) = descriptor x

-- the record of a value whose field begins at a place of the frame
abbrev pub record_of : {X : Type 0} → ℕ → Value X → Argument X
record_of at (int z) = arg.Int z
record_of at (uint n) = arg.Uint n
record_of at (fixed z) = arg.Fixed z
record_of at (string bs) = arg.Str (text_at (at + 4) (length bs))
record_of at null = arg.NullStr
record_of at (object n) = arg.Object n
record_of at (new_id n) = arg.NewId n
record_of at (array bs) = arg.Array (text_at (at + 4) (length bs))
record_of at (descriptor x) = arg.Fd x

-- the records of values whose fields stand one after another
abbrev pub records_of : {X : Type 0} → ℕ → List (Value X) → List (Argument X)
records_of at [] = []
records_of at (v ∷ vs) = record_of at v ∷ records_of (at + length (field v)) vs

-- the bytes that a length and so many bytes take, with padding
abbrev pub block_length : ℕ → ℕ
block_length n = 4 + (n + padding n)

-- the bytes that a record takes in a frame
abbrev pub field_length : {X : Type 0} → Argument X → ℕ
field_length (arg.Int z) = 4
field_length (arg.Uint n) = 4
field_length (arg.Fixed z) = 4
field_length (arg.Str t) = block_length (t.len + 1)
field_length arg.NullStr = 4
field_length (arg.Object n) = 4
field_length (arg.NewId n) = 4
field_length (arg.Array t) = block_length t.len
field_length (arg.Fd x) = 0

-- whether a record's place and length lie in so many bytes
abbrev pub within : {X : Type 0} → ℕ → Argument X → Bool
within n (arg.Int z) = true
within n (arg.Uint k) = true
within n (arg.Fixed z) = true
within n (arg.Str t) = inside n t
within n arg.NullStr = true
within n (arg.Object k) = true
within n (arg.NewId k) = true
within n (arg.Array t) = inside n t
within n (arg.Fd x) = true

abbrev pub value_in : {X : Type 0} → List ℕ → Argument X → Option (Value X)
value_in bs a = cond (within (length bs) a) (Some (value_of bs a)) None

-- the descriptor of a record, if it is one
abbrev pub carried_by : {X : Type 0} → Argument X → List X
carried_by (arg.Int z) = []
carried_by (arg.Uint n) = []
carried_by (arg.Fixed z) = []
carried_by (arg.Str t) = []
carried_by arg.NullStr = []
carried_by (arg.Object n) = []
carried_by (arg.NewId n) = []
carried_by (arg.Array t) = []
carried_by (arg.Fd x) = x ∷ []

-- the same as an option
abbrev pub number_of : {X : Type 0} → Argument X → Option X
number_of a = slice_get (carried_by a) 0

-- the descriptors of a list of records, in order
abbrev pub numbers_in : {X : Type 0} → List (Argument X) → List X
numbers_in [] = []
numbers_in (a ∷ xs) = carried_by a ++ numbers_in xs

abbrev pub fields_length : {X : Type 0} → List (Argument X) → ℕ
fields_length [] = 0
fields_length (a ∷ xs) = field_length a + fields_length xs
