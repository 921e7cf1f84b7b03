use Rattle.std.proofs.Common.{◌≡◌, ℕ, List, get_or}
use Rattle.std.specs.Iterator.{AlwaysYields}
use Rattle.line.specs.Marks.{counts}
use Rattle.line.specs.declared.marks.Mark.{Mark}
use Rattle.line.proofs.marks.Marks.fds_at.Given as goal

-- what is left of the marks decides
abbrev pub invariant-loop-mark : goal.invariant-loop-mark
invariant-loop-mark l =
    (goal.iterator-loop-mark).can_next l.mark-iterator ×
    (goal.iterator-loop-mark).is_finite l.mark-iterator ×
    ((marks : List Mark) × (tail : ℕ) × AlwaysYields (goal.iterator-loop-mark).next_gives (λ x. x.now) l.mark-iterator marks
    × (get_or l.self l.place 0 ≡ get_or (counts marks tail) l.left 0))
