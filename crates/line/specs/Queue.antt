-- A queue in a circle of slots: its items lie from the slot `head` on, and the last slot is followed by the first.
use Rattle.std.specs.Prelude.{ℕ, ◌+◌, ◌-◌, min, cond, List, ◌++◌, length, take, drop, nat_lt}
use borrow.Rule.Slice.PartMut.{put_mid}

-- the slots in the order of the queue
abbrev pub turned : {X : Type 0} → ℕ → List X → List X
turned head slots = drop head slots ++ take head slots

-- the items: the first len of these
abbrev pub held : {X : Type 0} → List X → ℕ → ℕ → List X
held slots head len = take len (turned head slots)

-- the slot of the place i of a queue, in a circle of n slots
abbrev pub slot_of : ℕ → ℕ → ℕ → ℕ
slot_of n head i = cond (nat_lt i (n - head)) (head + i) (i - (n - head))

-- how many of the new items fit from a slot on
abbrev pub fitting : {X : Type 0} → ℕ → List X → List X → ℕ
fitting at slots new = min (length new) (length slots - at)

-- the slots with new items from one on, those that pass the last slot from the first on
abbrev pub around : {X : Type 0} → ℕ → List X → List X → List X
around at slots new = put_mid 0 (length new - fitting at slots new) (put_mid at (fitting at slots new) slots (take (fitting at slots new) new)) (drop (fitting at slots new) new)
