use Rattle.std.proofs.Common.{◌≡◌, ◌-◌, ◌^◌, ◌<◌, ◌⊎◌, length, min, Ok, sym, ap, ◌∙◌, inl, inr, arith}
use Rattle.std.proofs.lemmas.Bool.{cond-true, lt-ltb}
use Rattle.std.proofs.lemmas.Result.{err_from_is_err_and}
use Rattle.book.specs.Files.{numbers, opened}
use Rattle.book.specs.View.{files}
use Rattle.wire.specs.Frame.{size_of}
use Rattle.wire.specs.Records.{numbers_in}
use Rattle.wire.specs.Write.{dup_failure, good_texts, largest, message_of}
use Rattle.wire.proofs.Texts.{descriptors_are, good_lengths}
use Rattle.wire.proofs.Writing.{duplicable, answer_failed, answer_short, answer_done}
use Rattle.wire.proofs.write.check_message.Goals as goal
use Rattle.wire.proofs.write.check_message.Goals.{After-saturating_add-size}

-- what was added up is the size of the frame, where it is a number of 64 bits
size : (c : After-saturating_add-size) → c.saturating_add-size.result ≡ min (size_of (message_of c.args.msg.now)) (2 ^ 64 - 1)
size c =
    let n = good_lengths c.args.msg.now.text.now c.args.msg.now.args.now (sym c.if-not-good_texts.ensures) in
    omega (arith, c.fields_len.ensures, c.saturating_add-size.ensures)

pub returns-then-size-gt-LARGEST-clause-size : goal.returns-then-size-gt-LARGEST-clause-size
returns-then-size-gt-LARGEST-clause-size c =
    let n = size (goal.at.returns-then-size-gt-LARGEST-clause-size c).After-saturating_add-size in
    let s : largest < size_of (message_of c.args.msg.now) = omega arith in
    sym (cond-true _ _ _ (sym c.if-not-good_texts.ensures) ∙ cond-true _ _ _ (lt-ltb _ _ s))

pub returns-in_err-count-clause-size : goal.returns-in_err-count-clause-size
returns-in_err-count-clause-size c =
    let p = err_from_is_err_and c.from_residual.result c.from_residual.ensures.1 in
    let n = size (goal.at.returns-in_err-count-clause-size c).After-saturating_add-size in
    rw (p.1, p.2)
    (sym (answer_failed (good_texts c.args.msg.now.text.now c.args.msg.now.args.now) (message_of c.args.msg.now) c.args.payload_len c.args.places_len (files c.args.book.now)
    (numbers_in c.args.msg.now.args.now) (descriptors_are c.args.msg.now.text.now c.args.msg.now.args.now) (sym c.if-not-good_texts.ensures) (omega arith) _ c.in_err-count.field-0.0 c.in_err-count.ensures))

pub returns-then-payload_len-size-clause-size : goal.returns-then-payload_len-size-clause-size
returns-then-payload_len-size-clause-size c =
    let n = size (goal.at.returns-then-payload_len-size-clause-size c).After-saturating_add-size in
    let d = duplicable (dup_failure (files c.args.book.now) (numbers - opened (files c.args.book.now)) (numbers_in c.args.msg.now.args.now)) (length (numbers_in c.args.msg.now.args.now)) c.in_ok-count.count c.in_ok-count.ensures in
    let count = d.1 in
    let short : (c.args.payload_len < size_of (message_of c.args.msg.now)) ⊎ (c.args.places_len < length (numbers_in c.args.msg.now.args.now)) =
    elim c.then-payload_len-size.either [ inl h ↦ inl (omega arith) | inr h ↦ inr (omega arith) ] in
    sym (answer_short (good_texts c.args.msg.now.text.now c.args.msg.now.args.now) (message_of c.args.msg.now) c.args.payload_len c.args.places_len (files c.args.book.now)
    (numbers_in c.args.msg.now.args.now) (descriptors_are c.args.msg.now.text.now c.args.msg.now.args.now) (sym c.if-not-good_texts.ensures) (omega arith) d.0 short)

pub returns-clause-size : goal.returns-clause-size
returns-clause-size c =
    let n = size (goal.at.returns-clause-size c).After-saturating_add-size in
    let d = duplicable (dup_failure (files c.args.book.now) (numbers - opened (files c.args.book.now)) (numbers_in c.args.msg.now.args.now)) (length (numbers_in c.args.msg.now.args.now)) c.in_ok-count.count c.in_ok-count.ensures in
    let count = d.1 in
    let is : c.saturating_add-size.result ≡ size_of (message_of c.args.msg.now) = omega arith in
    ap Ok is
    ∙ sym (answer_done (good_texts c.args.msg.now.text.now c.args.msg.now.args.now) (message_of c.args.msg.now) c.args.payload_len c.args.places_len (files c.args.book.now)
    (numbers_in c.args.msg.now.args.now) (descriptors_are c.args.msg.now.text.now c.args.msg.now.args.now) (sym c.if-not-good_texts.ensures) (omega arith) d.0 (omega arith) (omega arith))

pub invariant_of-result : goal.invariant_of-result
invariant_of-result c =
    let n = size (goal.at.invariant_of-result c).After-saturating_add-size in
    record { good = sym c.if-not-good_texts.ensures; sized = omega arith; small = omega arith }
