-- What a message says: its sender, its opcode and the values of its arguments.
-- X is what stands for a descriptor: a number of the book, or the file that such a number stands for.
use Rattle.std.specs.Prelude.{ℕ, List, [], ◌∷◌, ◌++◌, map, ℤ}

pub data Value (X : Type 0) : Type 0 where
  int : ℤ → Value X
  uint : ℕ → Value X
  fixed : ℤ → Value X
  -- without the final byte 0
  string : List ℕ → Value X
  null : Value X
  object : ℕ → Value X
  new_id : ℕ → Value X
  array : List ℕ → Value X
  descriptor : X → Value X

pub record Message (X : Type 0) : Type 0 where
  pub sender : ℕ
  pub opcode : ℕ
  pub args : List (Value X)

-- the descriptor of a value, if it is one
abbrev pub carried : {X : Type 0} → Value X → List X
carried (int z) = []
carried (uint n) = []
carried (fixed z) = []
carried (string bs) = []
carried null = []
carried (object n) = []
carried (new_id n) = []
carried (array bs) = []
carried (descriptor x) = x ∷ []

-- the descriptors of a list of values, in order
abbrev pub descriptors : {X : Type 0} → List (Value X) → List X
descriptors [] = []
descriptors (v ∷ vs) = carried v ++ descriptors vs

-- a value with f of its descriptor in the place of the descriptor
abbrev pub renamed : {X Y : Type 0} → (X → Y) → Value X → Value Y
renamed f (int z) = int z
renamed f (uint n) = uint n
renamed f (fixed z) = fixed z
renamed f (string bs) = string bs
renamed f null = null
renamed f (object n) = object n
renamed f (new_id n) = new_id n
renamed f (array bs) = array bs
renamed f (descriptor x) = descriptor (f x)

abbrev pub renamed_message : {X Y : Type 0} → (X → Y) → Message X → Message Y
renamed_message f m = record { sender = m.sender; opcode = m.opcode; args = map (renamed f) m.args }
