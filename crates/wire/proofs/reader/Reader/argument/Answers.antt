use Rattle.std.proofs.Common.{◌≤◌, length, refl, ap, sym, arith, rules}
use Rattle.std.proofs.lemmas.List.{length-take, length-drop, take_rest}
use Rattle.wire.specs.Records.{carried_by}
use Rattle.wire.proofs.Moving.{moved, none_carried}
use Rattle.wire.proofs.Walk.{Stepped, stepped}
use Rattle.wire.proofs.reader.Reader.argument.Goals as goal
use Rattle.wire.proofs.reader.Reader.argument.Goals.{After-field_len-len}

-- the argument that was read, and that its bytes are there
step : (c : After-field_len-len) → Stepped c.in_ok-kind.kind.now c.args.self.now.at c.args.self.now.bytes.now c.args.self.now.fds.now c.in_ok-argument.argument
step c = stepped c.in_ok-kind.kind.now c.args.self.now.at c.args.self.now.bytes.now c.args.self.now.fds.now _ c.in_ok-argument.ensures

there : (c : After-field_len-len) → c.field_len-len.result ≤ length c.args.self.now.bytes.now
there c = let s = step c in omega (arith, s.size, s.inside, c.field_len-len.ensures)

pub overflow_add-self : goal.overflow_add-self
overflow_add-self c = let t = there (goal.at.overflow_add-self c).After-field_len-len in omega (arith, c.args.self.now.inside)

pub slice_bounds-self-count : goal.slice_bounds-self-count
slice_bounds-self-count c = there (goal.at.slice_bounds-self-count c).After-field_len-len

pub slice_bounds-self-start : goal.slice_bounds-self-start
slice_bounds-self-start c = let t = there (goal.at.slice_bounds-self-start c).After-field_len-len in search rules

pub invariant_of-self-in_default : goal.invariant_of-self-in_default
invariant_of-self-in_default c = let t = there (goal.at.invariant_of-self-in_default c).After-field_len-len in record { inside = simp (length-take, length-drop) (omega (arith, c.args.self.now.inside)) }

pub returns-in-Fd : goal.returns-in-Fd
returns-in-Fd c =
    moved c.args.self.now _ c.in_ok-kind.kind.now _ c.field_len-len.result 1 (step (goal.at.returns-in-Fd c).After-field_len-len) (omega arith) c.field_len-len.ensures (sym (ap (λ a. length (carried_by a)) c.in-Fd.is))
    c.in_ok-kind.ensures.cases.0 refl (take_rest c.args.self.now.bytes.now c.field_len-len.result) (take_rest c.args.self.now.fds.now 1)

pub returns-in_default : goal.returns-in_default
returns-in_default c =
    moved c.args.self.now _ c.in_ok-kind.kind.now _ c.field_len-len.result 0 (step (goal.at.returns-in_default c).After-field_len-len) (omega arith) c.field_len-len.ensures (sym (ap length (none_carried _ c.in_default.not-Fd)))
    c.in_ok-kind.ensures.cases.0 refl (take_rest c.args.self.now.bytes.now c.field_len-len.result) refl
