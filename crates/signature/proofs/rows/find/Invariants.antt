use Rattle.std.proofs.Common.{◌≡◌, drop}
use Rattle.signature.specs.Rows.{row_for}
use Rattle.signature.proofs.rows.find.Given as goal

-- the row has yet to come
abbrev pub invariant-loop-row : goal.invariant-loop-row
invariant-loop-row l = row_for (drop l.row-index l.rows) l.sender l.opcode ≡ row_for l.rows l.sender l.opcode
