-- What the descriptor book holds, and what each call answers and leaves. The numbers are 0 to 1,023.
-- Place n of a list has the file that number n stands for, and None where n is not open.
-- A number past the list is not open.
use Rattle.std.specs.Prelude.{◌≡◌, ℕ, ◌+◌, ◌<◌, true, ◌⊎◌, List, [], ◌∷◌, is_some, Some, None, Ok, Err, Option, Result, ◌≢◌, slice_index_or, slice_set}
use Rattle.protocol.specs.declared.fd.RawFd.{RawFd}
use Rattle.protocol.specs.declared.fd.OwnedFd.{OwnedFd}
use Rattle.protocol.specs.declared.refusal.Refusal.{Refusal}
use Rattle.protocol.specs.declared.refusal.Refusal.TheVariants.{NotOpen, BookFull}

-- how many numbers there are
abbrev pub numbers : ℕ
numbers = 1024

abbrev pub Files : Type 0
Files = List (Option ℕ)

-- the file that a number stands for
abbrev pub file_of : Files → ℕ → Option ℕ
file_of fs n = slice_index_or fs n None

-- 1 for an open number, else 0
abbrev pub one : Option ℕ → ℕ
one None = 0
one (Some file) = 1

-- how many numbers are open
abbrev pub opened : Files → ℕ
opened [] = 0
opened (x ∷ xs) = one x + opened xs

-- every number but n stands for what it stood for
abbrev pub Others : ℕ → Files → Files → Type 0
Others n fs fs' = (k : ℕ) → (k ≢ n) → file_of fs' k ≡ file_of fs k

-- n, which was not open, stands for the file now; it may be any such number
pub record Enters (file n : ℕ) (fs fs' : Files) : Type 0 where
  pub below : n < numbers
  pub unused : file_of fs n ≡ None
  pub after : fs' ≡ slice_set fs n (Some file)

-- `open`
abbrev pub Opens : ℕ → Files → Result RawFd Refusal → Files → Type 0
Opens file fs (Ok fd) fs' = Enters file fd.0 fs fs'
Opens file fs (Err why) fs' = (why ≡ BookFull) × (opened fs ≡ numbers) × (fs' ≡ fs)

-- why a duplicate is refused; that the number is not open comes first
abbrev pub NoDuplicate : ℕ → Files → Refusal → Type 0
NoDuplicate number fs why =
    ((why ≡ NotOpen) × (file_of fs number ≡ None))
    ⊎ ((why ≡ BookFull) × (is_some (file_of fs number) ≡ true) × (opened fs ≡ numbers))

-- `duplicate`: the new number stands for the same file
abbrev pub Duplicates : ℕ → Files → Result OwnedFd Refusal → Files → Type 0
Duplicates number fs (Ok new) fs' = (file : ℕ) × (file_of fs number ≡ Some file) × Enters file new.0 fs fs'
Duplicates number fs (Err why) fs' = NoDuplicate number fs why × (fs' ≡ fs)

-- `close`
abbrev pub Closes : ℕ → Files → Result Unit Refusal → Files → Type 0
Closes number fs (Ok u) fs' = (is_some (file_of fs number) ≡ true) × (fs' ≡ slice_set fs number None)
Closes number fs (Err why) fs' = (why ≡ NotOpen) × (file_of fs number ≡ None) × (fs' ≡ fs)
