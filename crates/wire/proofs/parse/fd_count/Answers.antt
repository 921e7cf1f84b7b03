use Rattle.std.proofs.Common.{◌≡◌, ℕ, ◌+◌, Bool, true, false, cond, refl, rules, arith}
use Rattle.std.proofs.lemmas.List.Recursion.{is_count_by}
use Rattle.protocol.specs.declared.argument.ArgumentType.{ArgumentType}
use Rattle.protocol.specs.declared.argument.ArgumentType.TheVariants as type
use Rattle.wire.specs.Read.{fd_of, fd_count}
use Rattle.wire.proofs.parse.fd_count.Goals as goal

abbrev is_fd : ArgumentType → Bool
is_fd type.Int = false
is_fd type.Uint = false
is_fd type.Fixed = false
is_fd (type.Str maybe) = false
is_fd (type.Object maybe) = false
is_fd type.NewId = false
is_fd type.Array = false
is_fd type.Fd = true

counted : (t : ArgumentType) (n : ℕ) → fd_of t + n ≡ cond (is_fd t) (1 + n) n
counted type.Int n = omega arith
counted type.Uint n = omega arith
counted type.Fixed n = omega arith
counted (type.Str maybe) n = omega arith
counted (type.Object maybe) n = omega arith
counted type.NewId n = omega arith
counted type.Array n = omega arith
counted type.Fd n = refl

pub returns : goal.returns
returns c = search (rules, is_count_by fd_count is_fd refl (λ t ts. counted t (fd_count ts)))
