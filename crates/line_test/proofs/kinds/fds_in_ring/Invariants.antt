use Rattle.std.proofs.Common.{◌≡◌, ◌+◌, ◌≤◌, length, drop}
use Rattle.line.specs.Line.{fds_of}
use Rattle.line_test.proofs.kinds.fds_in_ring.Given as goal

-- what was counted, and what is on the cells that come
abbrev pub invariant-loop-place : goal.invariant-loop-place
invariant-loop-place l =
    (l.place ≤ l.place-end) × (l.place-end ≡ length l.ring.store) ×
    (l.fds + length (fds_of (drop l.place l.ring.store)) ≡ length (fds_of l.ring.store))
