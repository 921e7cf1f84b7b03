-- A ring holds 8,192 bytes and 512 duplicates, and gives as much as it may.
use Rattle.std.specs.Prelude.{ℕ, ◌-◌, ◌≤◌, cond, List, length, Ok, Err, Result, nat_lt}
use Rattle.protocol.specs.declared.limits.Limits.{Limits}
use Rattle.protocol.specs.declared.refusal.Refusal.{Refusal}
use Rattle.line.specs.Choices.{Choices}
use Rattle.line.specs.Line.{Cell, fds_of, MayGive}
use Rattle.line.specs.Sizes.{ring_bytes, ring_fds}
use Rattle.line.specs.Counted.{fd_counts, most}

-- its free bytes, or 0 with too few free places for the duplicates of a send
abbrev pub ring_window : Limits → List Cell → ℕ
ring_window lim cells = cond (nat_lt (ring_fds - length (fds_of cells)) lim.descriptors) 0 (ring_bytes - length cells)

abbrev pub ring_gives : Limits → ℕ → List Cell → ℕ
ring_gives lim asked cells = most lim.descriptors asked (fd_counts cells)

abbrev pub ring_choices : Limits → Choices
ring_choices lim = record { window = ring_window lim; gives = ring_gives lim }

-- no larger number of cells could have been given
abbrev pub GivesMost : Limits → List Cell → ℕ → Result (ℕ × ℕ) Refusal → Type 0
GivesMost lim cells asked (Ok p) = (n : ℕ) → MayGive lim cells asked n → n ≤ p.0
GivesMost lim cells asked (Err why) = Unit {0}

-- what holds of the cells of any ring: no more than it has places for, and so their duplicates
abbrev pub RingBound : List Cell → Type 0
RingBound cells = (length cells ≤ ring_bytes) × (length (fds_of cells) ≤ ring_fds)
