-- What the checks of both kinds of line answer: the first refusal, or that there is none, with what the checks have shown then.
use Rattle.std.specs.Prelude.{◌≡◌, ℕ, ◌<◌, ◌≤◌, Some, None, Ok, Err, Option, Result}
use Rattle.protocol.specs.declared.limits.Limits.{Limits}
use Rattle.protocol.specs.declared.refusal.Refusal.{Refusal}

abbrev pub Passed : Option Refusal → Type 0 → Result Unit Refusal → Type 0
Passed first Shown (Ok u) = (first ≡ None) × Shown
Passed first Shown (Err why) = first ≡ Some why

abbrev pub Sendable : Limits → ℕ → ℕ → ℕ → ℕ → Type 0
Sendable lim window shut bytes fds = (0 < bytes) × (bytes ≤ lim.bytes) × (fds ≤ lim.descriptors) × (shut ≡ 0) × (0 < window)

abbrev pub Receivable : Limits → ℕ → ℕ → ℕ → Type 0
Receivable lim waiting bytes fds = (0 < bytes) × (lim.descriptors ≤ fds) × (0 < waiting)
