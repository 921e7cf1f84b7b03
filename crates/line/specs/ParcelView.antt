-- What a parcel line means.
use Rattle.std.specs.Prelude.{List}
use Rattle.protocol.specs.Limits.{limits}
use Rattle.line.specs.Choices.{state_by}
use Rattle.line.specs.Line.{Cell, State}
use Rattle.line.specs.Parcel.{parcel_choices}
use Rattle.line.specs.declared.store.Store.{Ghosts}
use Rattle.line.specs.declared.stored.Stored.{Stored}

-- the cells of its store, with the window that a parcel line chooses
abbrev pub parcel_state : {store : Ghosts (List Cell)} → Stored (List Cell) store → State
parcel_state parcel = state_by (parcel_choices limits) parcel.store parcel.shut
