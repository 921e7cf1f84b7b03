-- A row names a sender, an opcode and a part of a body. What a source of rows answers, and when its rows are allowed.
-- `meaning` says what a part of the body means: a list of types, or nothing.
use Rattle.std.specs.Prelude.{◌≡◌, ℕ, ◌+◌, Bool, true, false, cond, not, ◌&&◌, List, [], ◌∷◌, length, take, drop, is_some, Some, None, Ok, Err, Option, Result, ◌==◌, nat_le}
use Rattle.std.specs.List.{find, list_all}
use Rattle.protocol.specs.Limits.{limits}
use Rattle.protocol.specs.declared.argument.ArgumentType.{ArgumentType}
use Rattle.protocol.specs.declared.refusal.Refusal.{Refusal}
use Rattle.protocol.specs.declared.refusal.Refusal.TheVariants.{BadRow}
use Rattle.signature.specs.declared.rows.Row.{Row}
use Rattle.signature.specs.declared.rows.RowSource.{RowSource}
use Rattle.signature.specs.Few.{at_most}

-- the first row with this sender and opcode
abbrev pub row_for : List Row → ℕ → ℕ → Option Row
row_for rows sender opcode = find (λ row. row.sender == sender && row.opcode == opcode) rows

-- the part of the body that a row names
abbrev pub part_of : {X : Type 0} → List X → Row → List X
part_of body row = take row.len (drop row.place body)

-- the types of a row: what its part means, if the row is inside the body and these are at most as many as a message may have
abbrev pub row_types : {X : Type 0} → (List X → Option (List ArgumentType)) → List X → Row → Option (List ArgumentType)
row_types meaning body row = cond (nat_le (row.place + row.len) (length body)) (at_most limits.arguments (meaning (part_of body row))) None

-- what the row that was found gives
abbrev pub from_row : {Y : Type 0} → (Row → Option Y) → Option Row → Option Y
from_row f None = None
from_row f (Some row) = f row

-- what a source answers
abbrev pub answer : {X : Type 0} → (List X → Option (List ArgumentType)) → List Row → List X → ℕ → ℕ → Option (List ArgumentType)
answer meaning rows body sender opcode = from_row (row_types meaning body) (row_for rows sender opcode)

-- each row is inside the body and means few enough types
abbrev pub each_reads : {X : Type 0} → (List X → Option (List ArgumentType)) → List X → List Row → Bool
each_reads meaning body rows = list_all (λ row. is_some (row_types meaning body row)) rows

-- no two rows are alike in sender and opcode
abbrev pub apart : List Row → Bool
apart [] = true
apart (row ∷ rows) = not (is_some (row_for rows row.sender row.opcode)) && apart rows

-- the most rows that a source may have
abbrev pub most_rows : ℕ
most_rows = 256

-- the rules for the rows of a source: not too many, each inside the body with a meaning of few enough types, and no two alike
abbrev pub allowed : {X : Type 0} → (List X → Option (List ArgumentType)) → List Row → List X → Bool
allowed meaning rows body = nat_le (length rows) most_rows && (each_reads meaning body rows && apart rows)

-- what is answered is what the part of the row found means, with no row or type left out
abbrev pub Plain : {X : Type 0} → (List X → Option (List ArgumentType)) → List Row → List X → Type 0
Plain meaning rows body = (sender opcode : ℕ) → answer meaning rows body sender opcode ≡ from_row (λ row. meaning (part_of body row)) (row_for rows sender opcode)

-- a source over these rows and this body, which are allowed; so it answers what the part of the row found means
pub record Over {X : Type 0} (meaning : List X → Option (List ArgumentType)) (rows : List Row) (body : List X) (source : RowSource X) : Type 0 where
  pub kept : allowed meaning rows body ≡ true
  pub same_rows : source.rows.now ≡ rows
  pub same_body : source.body.now ≡ body
  pub plain : Plain meaning rows body

-- what making a source answers: one over these rows and this body where they are allowed, else BADROW
abbrev pub Made : {X : Type 0} → (List X → Option (List ArgumentType)) → List Row → List X → Result (RowSource X) Refusal → Type 0
Made meaning rows body (Ok source) = Over meaning rows body source
Made meaning rows body (Err why) = (allowed meaning rows body ≡ false) × (why ≡ BadRow)
