-- A parcel line holds one accepted send until all of it has been received.
use Rattle.std.specs.Prelude.{ℕ, ◌≤◌, List, [], ◌∷◌, length, drop}
use Rattle.protocol.specs.declared.limits.Limits.{Limits}
use Rattle.line.specs.Choices.{Choices}
use Rattle.line.specs.Line.{Cell, EachFew}

-- the bytes of a send when it is empty, else 0
abbrev pub parcel_window : Limits → List Cell → ℕ
parcel_window lim [] = lim.bytes
parcel_window lim (c ∷ cs) = 0

-- it gives one cell a call
abbrev pub parcel_choices : Limits → Choices
parcel_choices lim = record { window = parcel_window lim; gives = λ asked cells. 1 }

-- what holds of the cells of any parcel line: no more than the bytes of a send, and no duplicates but on the first
abbrev pub ParcelBound : Limits → List Cell → Type 0
ParcelBound lim cells = (length cells ≤ lim.bytes) × EachFew 0 (drop 1 cells)
