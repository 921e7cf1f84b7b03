-- The duplicates on the cells of a line, cell by cell.
use Rattle.std.proofs.Common.{◌≡◌, ℕ, zero, suc, ◌+◌, List, [], ◌∷◌, length, drop, Some, None, Option, arith, length-append}
use Rattle.std.proofs.lemmas.Grind.{common_steps}
use Rattle.line.specs.Line.{Cell, fds_of}
use Rattle.line.specs.Seen.{seen_at}
use Rattle.line.specs.declared.view.CellView.{CellView}

-- how many are seen on a cell: none where there is no cell
abbrev pub on : Option CellView → ℕ
on None = 0
on (Some cell) = cell.fds

next : (cells : List Cell) (place : ℕ) → on (seen_at cells place) + length (fds_of (drop (suc place) cells)) ≡ length (fds_of (drop place cells))
next [] place = grind (arith, common_steps)
next (c ∷ cells) zero = omega (arith, length-append c.fds (fds_of cells))
next (c ∷ cells) (suc place) = next cells place

pub fds_next : (cells : List Cell) (place : ℕ) → on (seen_at cells place) + length (fds_of (drop (place + 1) cells)) ≡ length (fds_of (drop place cells))
fds_next cells place = let n : place + 1 ≡ suc place = omega arith in rw n (next cells place)
