-- libwayland's letters: digits, which are skipped, and then a letter for each type; a question mark right before s or o allows null.
use Rattle.std.specs.Prelude.{ℕ, Bool, true, false, cond, ◌&&◌, List, [], ◌∷◌, ◌++◌, Some, None, Option, ◌==◌, nat_le}
use Rattle.protocol.specs.declared.argument.AllowNull.TheVariants.{Yes, No}
use Rattle.protocol.specs.declared.argument.ArgumentType.{ArgumentType}
use Rattle.protocol.specs.declared.argument.ArgumentType.TheVariants.{Int, Uint, Fixed, Str, Object, NewId, Array, Fd}
use Rattle.signature.specs.declared.letters.Step.{Step}
use Rattle.signature.specs.declared.letters.Step.TheVariants.{Mark, Put}

-- what a letter does, if it may stand there: after a question mark only s and o are types, and they allow null
abbrev pub step_of : Bool → ℕ → Option Step
step_of true c =
    cond (c == 115) (Some (Put (Str Yes)))  -- s
    (cond (c == 111) (Some (Put (Object Yes)))  -- o
    None)
step_of false c =
    cond (c == 63) (Some Mark)  -- ?
    (cond (c == 105) (Some (Put Int))  -- i
    (cond (c == 117) (Some (Put Uint))  -- u
    (cond (c == 102) (Some (Put Fixed))  -- f
    (cond (c == 115) (Some (Put (Str No)))  -- s
    (cond (c == 111) (Some (Put (Object No)))  -- o
    (cond (c == 110) (Some (Put NewId))  -- n
    (cond (c == 97) (Some (Put Array))  -- a
    (cond (c == 104) (Some (Put Fd))  -- h
    None))))))))

-- what was read so far, before what is to come
abbrev pub after : {X : Type 0} → List X → Option (List X) → Option (List X)
after xs None = None
after xs (Some ys) = Some (xs ++ ys)

-- what a step makes of the rest, read after a question mark or without one
abbrev pub next : Option Step → Option (List ArgumentType) → Option (List ArgumentType) → Option (List ArgumentType)
next None m n = None
next (Some Mark) m n = m
next (Some (Put t)) m n = after (t ∷ []) n

-- the types of letters; the first argument says that a question mark was just read
abbrev pub types_from : Bool → List ℕ → Option (List ArgumentType)
types_from q [] = cond q None (Some [])
types_from q (c ∷ cs) = next (step_of q c) (types_from true cs) (types_from false cs)

abbrev pub is_digit : ℕ → Bool
is_digit c = nat_le 48 c && nat_le c 57

abbrev pub past_digits : List ℕ → List ℕ
past_digits [] = []
past_digits (c ∷ cs) = cond (is_digit c) (past_digits cs) (c ∷ cs)

-- digits first, then the types
abbrev pub letters_mean : List ℕ → Option (List ArgumentType)
letters_mean cs = types_from false (past_digits cs)
