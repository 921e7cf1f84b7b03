-- What follows of a number that was entered or closed, for those who call the book.
use Rattle.std.proofs.Common.{◌≡◌, ℕ, ◌+◌, true, ◌≢◌, length, set, is_some, Some, None, Option, sym, ap, ◌∙◌, arith}
use Rattle.std.proofs.lemmas.List.{get_or-set_same, get_or-set_other, length-set}
use Rattle.book.specs.Files.{Files, numbers, file_of, opened, Others, Enters}
use Rattle.book.proofs.Counts.{opened_enter, opened_leave, open_below}

pub set_others : (fs fs' : Files) (n : ℕ) (x : Option ℕ) → fs' ≡ set fs n x → Others n fs fs'
set_others fs fs' n x e k ne = ap (λ gs. file_of gs k) e ∙ get_or-set_other fs n k x None ne

pub enters_length : (file n : ℕ) (fs fs' : Files) → Enters file n fs fs' → length fs' ≡ length fs
enters_length file n fs fs' e = ap length e.after ∙ length-set fs n (Some file)

pub enters_opened : (file n : ℕ) (fs fs' : Files) → length fs ≡ numbers → Enters file n fs fs' → opened fs' ≡ opened fs + 1
enters_opened file n fs fs' l e = ap opened e.after ∙ opened_enter fs n file e.unused (omega (arith, e.below))

pub enters_at : (file n : ℕ) (fs fs' : Files) → length fs ≡ numbers → Enters file n fs fs' → file_of fs' n ≡ Some file
enters_at file n fs fs' l e = ap (λ gs. file_of gs n) e.after ∙ get_or-set_same fs n (Some file) None (omega (arith, e.below))

-- an open number is not the one that is given
pub enters_new : (file n : ℕ) (fs fs' : Files) → Enters file n fs fs' → (k x : ℕ) → file_of fs k ≡ Some x → k ≢ n
enters_new file n fs fs' e k x was same =
    let never : Some x ≡ None = sym was ∙ ap (λ m. file_of fs m) same ∙ e.unused in
    let z : ◌≡◌ {A = ℕ} 0 1 = cc in
    omega arith

-- an open number stands for what it stood for
pub enters_kept : (file n : ℕ) (fs fs' : Files) → Enters file n fs fs' → (k x : ℕ) → file_of fs k ≡ Some x → file_of fs' k ≡ Some x
enters_kept file n fs fs' e k x was = set_others fs fs' n (Some file) e.after k (enters_new file n fs fs' e k x was) ∙ was

pub closed_opened : (n : ℕ) (fs fs' : Files) → is_some (file_of fs n) ≡ true → fs' ≡ set fs n None → opened fs' + 1 ≡ opened fs
closed_opened n fs fs' o e = omega (arith, ap opened e, opened_leave fs n o)

pub closed_at : (n : ℕ) (fs fs' : Files) → is_some (file_of fs n) ≡ true → fs' ≡ set fs n None → file_of fs' n ≡ None
closed_at n fs fs' o e = ap (λ gs. file_of gs n) e ∙ get_or-set_same fs n None None (open_below fs n o)
