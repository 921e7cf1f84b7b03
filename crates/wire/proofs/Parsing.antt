-- What `parse` is where every check is passed, and what a message that it gives says of the checks.
use Rattle.std.proofs.Common.{◌≡◌, ℕ, ◌≤◌, ltb, List, length, take, drop, Some, None, Ok, Option, refl, ◌∙◌}
use Rattle.std.proofs.lemmas.Bool.{cond-false, le-ltb, ltb-false}
use Rattle.protocol.specs.declared.argument.ArgumentType.{ArgumentType}
use Rattle.protocol.specs.declared.refusal.Refusal.TheVariants.{MissingData, Malformed, MissingFd, Small}
use Rattle.wire.specs.Values.{Value, descriptors}
use Rattle.wire.specs.Read.{Parsed, parse, parsed, values, word_at, opcode_at, size_at, fd_count}
use Rattle.wire.proofs.Outcomes.{past}

pub after_checks : {X : Type 0} (room : ℕ) (ts : List ArgumentType) (raw : List ℕ) (xs : List X) → (8 ≤ length raw) × (8 ≤ size_at raw) × (size_at raw ≤ length raw) → fd_count ts ≤ length xs → length ts ≤ room
    → parse room ts raw xs ≡ parsed raw xs (values ts (drop 8 (take (size_at raw) raw)) xs)
after_checks room ts raw xs w f h =
    cond-false _ _ _ (le-ltb _ _ w.0) ∙ cond-false _ _ _ (le-ltb _ _ w.1) ∙ cond-false _ _ _ (le-ltb _ _ w.2)
    ∙ cond-false _ _ _ (le-ltb _ _ f) ∙ cond-false _ _ _ (le-ltb _ _ h)

abbrev pub given_as : {X : Type 0} → List ℕ → List X → List (Value X) → Parsed X
given_as raw xs vs = record { message = record { sender = word_at raw; opcode = opcode_at raw; args = vs }; size = size_at raw; rest = drop (size_at raw) raw; left = drop (length (descriptors vs)) xs }

-- a message that was read: its frame is there whole, and its arguments are those of the frame
pub record Got {X : Type 0} (ts : List ArgumentType) (raw : List ℕ) (xs : List X) (p : Parsed X) : Type 0 where
  pub args : List (Value X)
  pub header : 8 ≤ length raw
  pub small : 8 ≤ size_at raw
  pub whole : size_at raw ≤ length raw
  pub read : values ts (drop 8 (take (size_at raw) raw)) xs ≡ Some args
  pub is : given_as raw xs args ≡ p

parsed_got : {X : Type 0} (raw : List ℕ) (xs : List X) (o : Option (List (Value X))) (p : Parsed X) → parsed raw xs o ≡ Ok p → (vs : List (Value X)) × (o ≡ Some vs) × (given_as raw xs vs ≡ p)
parsed_got raw xs None p e = cc
parsed_got raw xs (Some vs) p e = (vs, refl, cc)

pub parse_got : {X : Type 0} (room : ℕ) (ts : List ArgumentType) (raw : List ℕ) (xs : List X) (p : Parsed X) → parse room ts raw xs ≡ Ok p → Got ts raw xs p
parse_got room ts raw xs p e =
    let a = past (ltb (length raw) 8) MissingData _ p e in
    let b = past (ltb (size_at raw) 8) Malformed _ p a.1 in
    let c = past (ltb (length raw) (size_at raw)) MissingData _ p b.1 in
    let d = past (ltb (length xs) (fd_count ts)) MissingFd _ p c.1 in
    let f = past (ltb room (length ts)) Small _ p d.1 in
    let v = parsed_got raw xs (values ts (drop 8 (take (size_at raw) raw)) xs) p f.1 in
    record { args = v.0; header = ltb-false _ _ a.0; small = ltb-false _ _ b.0; whole = ltb-false _ _ c.0; read = v.1; is = v.2 }
