-- Lists of at most n elements: a message has at most `limits.arguments` types.
use Rattle.std.specs.Prelude.{ℕ, ◌≤◌, cond, List, length, Some, None, Option, nat_le}

-- the list, if it has at most n elements
abbrev pub at_most : {X : Type 0} → ℕ → Option (List X) → Option (List X)
at_most n None = None
at_most n (Some xs) = cond (nat_le (length xs) n) (Some xs) None

-- the list, where there is one, has at most n elements
abbrev pub Few : {X : Type 0} → ℕ → Option (List X) → Type 0
Few n None = Unit {0}
Few n (Some xs) = length xs ≤ n
