-- What a ring means.
use Rattle.std.specs.Prelude.{List}
use Rattle.protocol.specs.Limits.{limits}
use Rattle.line.specs.Choices.{state_by}
use Rattle.line.specs.Line.{Cell, State}
use Rattle.line.specs.Ring.{ring_choices}
use Rattle.line.specs.declared.store.Store.{Ghosts}
use Rattle.line.specs.declared.stored.Stored.{Stored}

-- the cells of its store, with the window that a ring chooses
abbrev pub ring_state : {store : Ghosts (List Cell)} → Stored (List Cell) store → State
ring_state ring = state_by (ring_choices limits) ring.store ring.shut
