-- A reader that moves on behind an argument.
use Rattle.std.proofs.Common.{◌≡◌, ℕ, ◌+◌, ◌-◌, ◌^◌, ◌<◌, min, [], ◌∷◌, length, drop, Some, refl, ap, ◌∙◌, arith}
use Rattle.std.proofs.lemmas.List.{length-drop}
use Rattle.protocol.specs.declared.argument.Argument.{Argument}
use Rattle.protocol.specs.declared.argument.Argument.TheVariants as arg
use Rattle.protocol.specs.declared.argument.ArgumentType.{ArgumentType}
use Rattle.protocol.specs.declared.fd.OwnedFd.{OwnedFd}
use Rattle.wire.specs.declared.reader.Reader.{Reader}
use Rattle.wire.specs.Values.{carried}
use Rattle.wire.specs.Frame.{field}
use Rattle.wire.specs.Read.{then, before, values}
use Rattle.wire.specs.Reader.{Took}
use Rattle.wire.specs.Records.{field_length, carried_by}
use Rattle.wire.proofs.Walk.{Stepped}

-- the descriptors of a record that is none
pub none_carried : {X : Type 0} (a : Argument X) → ((x : X) → a ≡ arg.Fd x → ⊥) → carried_by a ≡ []
none_carried (arg.Int z) h = refl
none_carried (arg.Uint n) h = refl
none_carried (arg.Fixed z) h = refl
none_carried (arg.Str t) h = refl
none_carried arg.NullStr h = refl
none_carried (arg.Object n) h = refl
none_carried (arg.NewId n) h = refl
none_carried (arg.Array t) h = refl
none_carried (arg.Fd x) h = absurd (h x refl)

-- n and k are what the code takes for the bytes and the descriptors of the argument
pub moved : (r r' : Reader) (t : ArgumentType) (a : Argument OwnedFd) (n k : ℕ) → Stepped t r.at r.bytes.now r.fds.now a → length r.bytes.now < 2 ^ 64 → n ≡ min (field_length a) (2 ^ 64 - 1) → k ≡ length (carried_by a)
    → r.kinds.now ≡ t ∷ r'.kinds.now → r'.at ≡ r.at + n → r'.bytes.now ≡ drop n r.bytes.now → r'.fds.now ≡ drop k r.fds.now → Took r (Some a) r'
moved r r' t a n k s l en ek kinds at bytes fds =
    let z = s.size in
    let w = s.inside in
    let size : n ≡ length (field s.value) = omega arith in
    let taken : k ≡ length (carried s.value) = ek ∙ s.carries in
    let few = s.there in
    let rest : values (t ∷ r'.kinds.now) r.bytes.now r.fds.now ≡ before s.value (values r'.kinds.now (drop (length (field s.value)) r.bytes.now) (drop (length (carried s.value)) r.fds.now)) =
    ap (λ o. then o (λ v. before v (values r'.kinds.now (drop (length (field v)) r.bytes.now) (drop (length (carried v)) r.fds.now)))) s.read in (
      s.value,
      s.is,
      record {
        kinds = ap length kinds ∙ omega arith;
        at = at ∙ ap (λ (m : ℕ). r.at + m) size;
        fds = (let d = ap length fds ∙ length-drop k r.fds.now in omega arith);
        rest = cc;
      },
    )
