use Rattle.std.proofs.Common.{true, ◌≡◌, sym, ◌∙◌}
use Rattle.std.proofs.lemmas.Bool.{false≢true, lt-leb}
use Rattle.signature.specs.Rows.{each_reads}
use Rattle.signature.proofs.Lookups.{plain_reads}
use Rattle.signature.proofs.rows.RowSource.keeps_rules.Goals as goal
use Rattle.signature.proofs.rows.RowSource.keeps_rules.Goals.{then-self-le-MOST_ROWS, else-self-le-MOST_ROWS}

pub returns-then-all_read-clause-plain : goal.returns-then-all_read-clause-plain
returns-then-all_read-clause-plain g c =
    let all : each_reads g.E.Notation.meaning c.args.self.now.body.now c.args.self.now.rows.now ≡ true =
    elim c.if-self-le-MOST_ROWS.branch [
      | then-self-le-MOST_ROWS w ↦ sym w.all_read.ensures ∙ sym w.value-is ∙ c.if-all_read.true
      | else-self-le-MOST_ROWS w ↦ absurd (false≢true (sym (lt-leb _ _ w.if-self-le-MOST_ROWS.false) ∙ sym w.value-is ∙ c.if-all_read.true))
    ] in
    λ _. plain_reads g.E.Notation.meaning c.args.self.now.body.now c.args.self.now.rows.now all
