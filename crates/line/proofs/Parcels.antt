-- The turns of a parcel line: its bytes, and the duplicates on the first of them.
use Rattle.std.proofs.Common.{◌≡◌, ℕ, ◌<◌, ◌≤◌, List, [], ◌∷◌, ◌++◌, length, refl, ap, ◌∙◌, arith}
use Rattle.protocol.specs.declared.fd.OwnedFd.{OwnedFd}
use Rattle.protocol.specs.declared.limits.Limits.{Limits}
use Rattle.line.specs.Line.{cells_of}
use Rattle.line.specs.Parcel.{parcel_window}

pub busy : (lim : Limits) (bs : List ℕ) (fds : List OwnedFd) → 0 < length bs → 0 ≡ parcel_window lim (cells_of bs fds)
busy lim [] fds h = absurd (omega arith)
busy lim (b ∷ bs) fds h = refl

-- a window that takes n bytes is that of an empty line
pub empty_open : (lim : Limits) (bs : List ℕ) (fds : List OwnedFd) (n : ℕ) → 0 < n → n ≤ parcel_window lim (cells_of bs fds) → (length bs ≡ 0) × (n ≤ lim.bytes)
empty_open lim [] fds n h l = (refl, l)
empty_open lim (b ∷ bs) fds n h l = absurd (omega arith)

-- a send is put where nothing waits
pub put_held : (bs new bs' : List ℕ) (fs nf fs' : List OwnedFd) → length bs ≡ 0 → length fs ≡ 0 → bs' ≡ bs ++ new → fs' ≡ fs ++ nf → cells_of bs' fs' ≡ cells_of bs fs ++ cells_of new nf
put_held [] new bs' [] nf fs' l k eb ef = ap (λ y. cells_of y fs') eb ∙ ap (cells_of new) ef
put_held [] new bs' (f ∷ fs) nf fs' l k eb ef = absurd (omega (arith, k))
put_held (b ∷ bs) new bs' fs nf fs' l k eb ef = absurd (omega (arith, l))
