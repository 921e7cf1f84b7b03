-- Rows that all have types are answered by what their parts mean.
use Rattle.std.proofs.Common.{◌≡◌, ℕ, ◌+◌, true, ◌&&◌, ◌==◌, leb, List, [], ◌∷◌, length, is_some, Some, None, Option, refl}
use Rattle.std.proofs.lemmas.Bool.{and_parts, cond_both, false≢true}
use Rattle.protocol.specs.Limits.{limits}
use Rattle.protocol.specs.declared.argument.ArgumentType.{ArgumentType}
use Rattle.signature.specs.declared.rows.Row.{Row}
use Rattle.signature.specs.Few.{at_most}
use Rattle.signature.specs.Rows.{row_for, part_of, row_types, from_row, answer, each_reads}

at_most_some : {X : Type 0} (n : ℕ) (o : Option (List X)) → is_some (at_most n o) ≡ true → at_most n o ≡ o
at_most_some n None = λ _. refl
at_most_some n (Some xs) =
    cond_both (leb (length xs) n) (Some xs) None (λ o. is_some o ≡ true → o ≡ Some xs) (λ _ _. refl) (λ _ e. absurd (false≢true e))

module _ {X : Type 0} (meaning : List X → Option (List ArgumentType)) (body : List X) where
  plain_row : (row : Row) → is_some (row_types meaning body row) ≡ true → row_types meaning body row ≡ meaning (part_of body row)
  plain_row row =
      cond_both (leb (row.place + row.len) (length body)) (at_most limits.arguments (meaning (part_of body row))) None
      (λ o. is_some o ≡ true → o ≡ meaning (part_of body row))
      (λ _. at_most_some limits.arguments (meaning (part_of body row)))
      (λ _ e. absurd (false≢true e))

  pub plain_reads : (rows : List Row) → each_reads meaning body rows ≡ true → (sender opcode : ℕ) → answer meaning rows body sender opcode ≡ from_row (λ row. meaning (part_of body row)) (row_for rows sender opcode)
  plain_reads [] e sender opcode = refl
  plain_reads (row ∷ rows) e sender opcode =
      let both = and_parts (is_some (row_types meaning body row)) (each_reads meaning body rows) e in
      cond_both (row.sender == sender && row.opcode == opcode) (Some row) (row_for rows sender opcode)
      (λ found. from_row (row_types meaning body) found ≡ from_row (λ r. meaning (part_of body r)) found)
      (λ _. plain_row row both.0)
      (λ _. plain_reads rows both.1 sender opcode)
