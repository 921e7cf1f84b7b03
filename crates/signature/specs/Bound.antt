-- Whatever its rows, a source answers at most as many types as a message may have: the proof that the source gives with its answers.
use Rattle.std.specs.Prelude.{ℕ, ◌+◌, List, length, Some, None, Option, nat_le}
use Rattle.std.proofs.lemmas.Bool.{leb-true, cond_both}
use Rattle.protocol.specs.Limits.{limits}
use Rattle.protocol.specs.declared.argument.ArgumentType.{ArgumentType}
use Rattle.signature.specs.declared.rows.Row.{Row}
use Rattle.signature.specs.Few.{at_most, Few}
use Rattle.signature.specs.Rows.{row_for, part_of, row_types, from_row, answer}

few_at_most : {X : Type 0} (n : ℕ) (o : Option (List X)) → Few n (at_most n o)
few_at_most n None = tt
few_at_most n (Some xs) = cond_both (nat_le (length xs) n) (Some xs) None (Few n) (leb-true (length xs) n) (λ _. tt)

few_row : {X : Type 0} (meaning : List X → Option (List ArgumentType)) (body : List X) (found : Option Row) → Few limits.arguments (from_row (row_types meaning body) found)
few_row meaning body None = tt
few_row meaning body (Some row) =
    cond_both (nat_le (row.place + row.len) (length body)) (at_most limits.arguments (meaning (part_of body row))) None (Few limits.arguments)
    (λ _. few_at_most limits.arguments (meaning (part_of body row)))
    (λ _. tt)

pub few_answer : {X : Type 0} (meaning : List X → Option (List ArgumentType)) (rows : List Row) (body : List X) (sender opcode : ℕ) → Few limits.arguments (answer meaning rows body sender opcode)
few_answer meaning rows body sender opcode = few_row meaning body (row_for rows sender opcode)
