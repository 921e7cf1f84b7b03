-- How many numbers are open after one is entered or closed, and how that compares to how many there are.
use Rattle.std.proofs.Common.{◌≡◌, ℕ, zero, suc, ◌+◌, ◌<◌, ◌≤◌, true, [], ◌∷◌, length, set, is_some, Some, None, Option, refl, ap, ⊎_elim, arith}
use Rattle.std.proofs.lemmas.List.{get_or_past}
use Rattle.std.proofs.lemmas.Bool.{cases_lt, both_ways}
use Rattle.book.specs.Files.{Files, file_of, one, opened}

-- the count loses what stood at the place, and gains what stands there now
pub opened_set : (fs : Files) (n : ℕ) (x : Option ℕ) → n < length fs → opened (set fs n x) + one (file_of fs n) ≡ opened fs + one x
opened_set [] n x h = absurd (omega arith)
opened_set (y ∷ ys) zero x h = omega arith
opened_set (y ∷ ys) (suc n) x h = omega (arith, opened_set ys n x (omega arith))

pub one_some : (o : Option ℕ) → is_some o ≡ true → one o ≡ 1
one_some None e = absurd (both_ways (is_some {T = ℕ} None) refl e)
one_some (Some file) e = refl

one_le : (o : Option ℕ) → one o ≤ 1
one_le None = omega arith
one_le (Some file) = omega arith

-- an open number is one of the list's
pub open_below : (fs : Files) (n : ℕ) → is_some (file_of fs n) ≡ true → n < length fs
open_below fs n e =
    ⊎_elim
    (λ h. h)
    (λ (h : length fs ≤ n). absurd (both_ways (is_some (file_of fs n)) (ap is_some (get_or_past fs n None h)) e))
    (cases_lt n (length fs))

pub opened_enter : (fs : Files) (n file : ℕ) → file_of fs n ≡ None → n < length fs → opened (set fs n (Some file)) ≡ opened fs + 1
opened_enter fs n file e h = omega (arith, opened_set fs n (Some file) h, ap one e)

pub opened_leave : (fs : Files) (n : ℕ) → is_some (file_of fs n) ≡ true → opened (set fs n None) + 1 ≡ opened fs
opened_leave fs n e = omega (arith, opened_set fs n None (open_below fs n e), one_some (file_of fs n) e)

pub opened_le : (fs : Files) → opened fs ≤ length fs
opened_le [] = omega arith
opened_le (x ∷ xs) = omega (arith, one_le x, opened_le xs)

pub opened_lt : (fs : Files) (n : ℕ) → file_of fs n ≡ None → n < length fs → opened fs < length fs
opened_lt [] n e h = absurd (omega arith)
opened_lt (x ∷ xs) zero e h = omega (arith, ap one e, opened_le xs)
opened_lt (x ∷ xs) (suc n) e h = omega (arith, one_le x, opened_lt xs n e (omega arith))
