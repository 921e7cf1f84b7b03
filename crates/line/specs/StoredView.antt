-- What a line over a store means.
use Rattle.protocol.specs.Limits.{limits}
use Rattle.line.specs.Choices.{state_by}
use Rattle.line.specs.Line.{State, EachFew}
use Rattle.line.specs.declared.store.Store.{Ghosts}
use Rattle.line.specs.declared.stored.Stored.{Stored}

-- the cells of the store, with the window that its kind chooses
abbrev pub stored_state : {S : Type 0} {store : Ghosts S} → Stored S store → State
stored_state {store = store} line = state_by store.choices (store.cells line.store) line.shut

pub stored_few : {S : Type 0} {store : Ghosts S} → (line : Stored S store) → EachFew limits.descriptors (stored_state line).cells
stored_few line = line.few

-- what the kind promises of the cells that wait, whatever came before: `RingBound` of a ring, `ParcelBound` of a parcel line
pub stored_bound : {S : Type 0} {store : Ghosts S} → (line : Stored S store) → store.bound (stored_state line).cells
stored_bound line = line.bounded
