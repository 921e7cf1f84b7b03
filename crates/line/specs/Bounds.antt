-- What holds of the cells of any line, or of any line of a kind, has at most one proof, so that a line may keep one.
use Rattle.std.specs.Prelude.{ℕ, List, [], ◌∷◌, drop}
use Rattle.std.specs.Coded.{×_prop, Unit-prop, le_prop}
use Rattle.protocol.specs.declared.limits.Limits.{Limits}
use Rattle.line.specs.Line.{Cell, EachFew}
use Rattle.line.specs.Parcel.{ParcelBound}
use Rattle.line.specs.Ring.{RingBound}

-- no cell has more duplicates than a send may carry
pub EachFew-prop : (d : ℕ) (cells : List Cell) → IsProp (EachFew d cells)
EachFew-prop d [] = Unit-prop
EachFew-prop d (c ∷ cells) = ×_prop le_prop (EachFew-prop d cells)

pub RingBound-prop : (cells : List Cell) → IsProp (RingBound cells)
RingBound-prop cells = ×_prop le_prop le_prop

pub ParcelBound-prop : (lim : Limits) (cells : List Cell) → IsProp (ParcelBound lim cells)
ParcelBound-prop lim cells = ×_prop le_prop (EachFew-prop 0 (drop 1 cells))
