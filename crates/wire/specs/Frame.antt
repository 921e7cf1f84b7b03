-- The frame of a message, from the wire format of the Wayland protocol, with little-endian words: the sender; the size in
-- bytes, header included, in the upper 16 bits of a word and the opcode in the lower; then the arguments.
-- Int, uint, fixed, object and new id are one word. A string is its length with the final 0, its bytes, that 0, and padding to a
-- multiple of 4; a null string is the length 0 alone. An array is its length, its bytes, padding. A descriptor takes no bytes.
-- A byte of padding is None: the format leaves its value undefined.
use Rattle.std.specs.Prelude.{◌≡◌, ℕ, ◌+◌, ◌-◌, ◌*◌, ◌/◌, ◌%◌, List, [], ◌∷◌, ◌++◌, length, replicate, Some, None, Option}
use Rattle.std.specs.Int.{w32}
use Rattle.std.proofs.Common.{of_z}
use Rattle.wire.specs.Values.{Value, Message, int, uint, fixed, string, null, object, new_id, array, descriptor}

-- the four bytes of a number below 2 ^ 32
abbrev pub word : ℕ → List ℕ
word n = n % 256 ∷ n / 256 % 256 ∷ n / 65536 % 256 ∷ n / 16777216 % 256 ∷ []

abbrev pub known : List ℕ → List (Option ℕ)
known [] = []
known (b ∷ bs) = Some b ∷ known bs

-- how many bytes are missing from n to a multiple of 4
abbrev pub padding : ℕ → ℕ
padding n = (4 - n % 4) % 4

-- a length, the bytes, and padding
abbrev pub block : List ℕ → List (Option ℕ)
block bs = known (word (length bs)) ++ (known bs ++ replicate (padding (length bs)) None)

-- a signed number is the word of its two's complement
abbrev pub field : {X : Type 0} → Value X → List (Option ℕ)
field (int z) = known (word (of_z w32 z))
field (uint n) = known (word n)
field (fixed z) = known (word (of_z w32 z))
field (string bs) = block (bs ++ 0 ∷ [])
field null = known (word 0)
field (object n) = known (word n)
field (new_id n) = known (word n)
field (array bs) = block bs
field (descriptor x) = []

abbrev pub fields : {X : Type 0} → List (Value X) → List (Option ℕ)
fields [] = []
fields (v ∷ vs) = field v ++ fields vs

-- the frame with any number in the place of its size
abbrev pub frame_sized : {X : Type 0} → ℕ → Message X → List (Option ℕ)
frame_sized size m = known (word m.sender) ++ (known (word (size * 65536 + m.opcode)) ++ fields m.args)

abbrev pub size_of : {X : Type 0} → Message X → ℕ
size_of m = 8 + length (fields m.args)

abbrev pub frame : {X : Type 0} → Message X → List (Option ℕ)
frame m = frame_sized (size_of m) m

-- a frame written over bytes: those where the frame has none, and those past it, stay
abbrev pub overlay : List (Option ℕ) → List ℕ → List ℕ
overlay [] bs = bs
overlay (x ∷ f) [] = []
overlay (Some b ∷ f) (c ∷ bs) = b ∷ overlay f bs
overlay (None ∷ f) (c ∷ bs) = c ∷ overlay f bs

-- the bytes are the frame's, whatever its padding is
abbrev pub Fits : List (Option ℕ) → List ℕ → Type 0
Fits [] [] = Unit {0}
Fits [] (c ∷ bs) = ⊥
Fits (x ∷ f) [] = ⊥
Fits (Some b ∷ f) (c ∷ bs) = (c ≡ b) × Fits f bs
Fits (None ∷ f) (c ∷ bs) = Fits f bs
