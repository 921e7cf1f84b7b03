-- Laws of cells that are made of a row of bytes, a row of counts and a row of duplicates.
use Rattle.std.proofs.Common.{◌≡◌, ℕ, zero, suc, ◌-◌, ◌<◌, ◌≤◌, List, [], ◌∷◌, ◌++◌, length, get_or, take, drop, replicate, Some, sum, sym, refl, ap, ◌∙◌, arith, take-add}
use Rattle.std.proofs.lemmas.List.{take_all, take-append-le, drop-append-le, drop-drop, length-take-le, length-drop}
use Rattle.std.proofs.lemmas.Grind.{common_steps}
use Rattle.std.proofs.lemmas.Option.{none-some}
use Rattle.std.specs.List.{slice_get}
use Rattle.protocol.specs.declared.fd.OwnedFd.{OwnedFd}
use Rattle.line.specs.Line.{cells_of, bytes_of, fds_of}
use Rattle.line.specs.Counted.{fd_counts, cells_from}
use Rattle.line.specs.Seen.{seen_at}
use Rattle.line.proofs.Seeing.{view}
use Rattle.line.proofs.Most.{sum_cons}

pub length_from : (bs ks : List ℕ) (fs : List OwnedFd) → length (cells_from bs ks fs) ≡ length bs
length_from [] ks fs = refl
length_from (b ∷ bs) [] fs = ap suc (length_from bs [] fs)
length_from (b ∷ bs) (k ∷ ks) fs = ap suc (length_from bs ks (drop k fs))

pub bytes_take : (n : ℕ) (bs ks : List ℕ) (fs : List OwnedFd) → bytes_of (take n (cells_from bs ks fs)) ≡ take n bs
bytes_take zero bs ks fs = refl
bytes_take (suc n) [] ks fs = refl
bytes_take (suc n) (b ∷ bs) [] fs = ap (λ y. b ∷ y) (bytes_take n bs [] fs)
bytes_take (suc n) (b ∷ bs) (k ∷ ks) fs = ap (λ y. b ∷ y) (bytes_take n bs ks (drop k fs))

pub fds_take : (n : ℕ) (bs ks : List ℕ) (fs : List OwnedFd) → length ks ≡ length bs → fds_of (take n (cells_from bs ks fs)) ≡ take (sum (take n ks)) fs
fds_take zero bs ks fs l = refl
fds_take (suc n) [] ks fs l = grind (arith, common_steps)
fds_take (suc n) (b ∷ bs) [] fs l = grind (arith, common_steps)
fds_take (suc n) (b ∷ bs) (k ∷ ks) fs l = grind (arith, common_steps, fds_take n bs ks (drop k fs), sum_cons k (take n ks), take-add k (sum (take n ks)) fs)

pub drop_from : (n : ℕ) (bs ks : List ℕ) (fs : List OwnedFd) → length ks ≡ length bs → drop n (cells_from bs ks fs) ≡ cells_from (drop n bs) (drop n ks) (drop (sum (take n ks)) fs)
drop_from zero bs ks fs l = refl
drop_from (suc n) [] ks fs l = grind (arith, common_steps)
drop_from (suc n) (b ∷ bs) [] fs l = grind (arith, common_steps)
drop_from (suc n) (b ∷ bs) (k ∷ ks) fs l = grind (arith, common_steps, drop_from n bs ks (drop k fs), sum_cons k (take n ks), drop-drop (sum (take n ks)) k fs)

pub append_from : (bs bs' ks ks' : List ℕ) (fs fs' : List OwnedFd) → length ks ≡ length bs → sum ks ≡ length fs → cells_from (bs ++ bs') (ks ++ ks') (fs ++ fs') ≡ cells_from bs ks fs ++ cells_from bs' ks' fs'
append_from [] bs' ks ks' fs fs' l t = grind (arith, common_steps)
append_from (b ∷ bs) bs' [] ks' fs fs' l t = grind (arith, common_steps)
append_from (b ∷ bs) bs' (k ∷ ks) ks' fs fs' l t = grind (arith, common_steps, sum_cons k ks, length-drop k fs, append_from bs bs' ks ks' (drop k fs) fs', take-append-le k fs fs', drop-append-le k fs fs')

pub counts_from : (bs ks : List ℕ) (fs : List OwnedFd) → length ks ≡ length bs → sum ks ≤ length fs → fd_counts (cells_from bs ks fs) ≡ ks
counts_from [] ks fs l t = grind (arith, common_steps)
counts_from (b ∷ bs) [] fs l t = grind (arith, common_steps)
counts_from (b ∷ bs) (k ∷ ks) fs l t = grind (arith, common_steps, sum_cons k ks, length-drop k fs, length-take-le k fs, counts_from bs ks (drop k fs))

from_plain : (bs : List ℕ) (fs : List OwnedFd) → cells_from bs (replicate (length bs) 0) fs ≡ cells_of bs []
from_plain [] fs = refl
from_plain (b ∷ bs) fs = ap (λ y. record { byte = b; fds = [] } ∷ y) (from_plain bs fs)

-- one send
pub from_send : (bs : List ℕ) (fds : List OwnedFd) → 0 < length bs → cells_from bs (length fds ∷ replicate (length bs - 1) 0) fds ≡ cells_of bs fds
from_send [] fds h = absurd (omega arith)
from_send (b ∷ bs) fds h = grind (arith, common_steps, take_all (length fds) fds, from_plain bs (drop (length fds) fds))

pub seen_from : (bs ks : List ℕ) (fs : List OwnedFd) (place b : ℕ) → length ks ≡ length bs → sum ks ≡ length fs → slice_get bs place ≡ Some b → Some (view b (get_or ks place 0)) ≡ seen_at (cells_from bs ks fs) place
seen_from [] ks fs place b l t e = absurd (none-some b e)
seen_from (x ∷ bs) [] fs place b l t e = grind (arith, common_steps)
seen_from (x ∷ bs) (k ∷ ks) fs zero b l t e = grind (arith, common_steps, sum_cons k ks, length-take-le k fs)
seen_from (x ∷ bs) (k ∷ ks) fs (suc place) b l t e = grind (arith, common_steps, sum_cons k ks, length-drop k fs, seen_from bs ks (drop k fs) place b)

pub fds_from : (bs ks : List ℕ) (fs : List OwnedFd) → length ks ≡ length bs → sum ks ≡ length fs → fds_of (cells_from bs ks fs) ≡ fs
fds_from bs ks fs l t =
    ap fds_of (sym (take_all (length bs) (cells_from bs ks fs) (omega (arith, length_from bs ks fs))))
    ∙ fds_take (length bs) bs ks fs l
    ∙ ap (λ y. take (sum y) fs) (take_all (length bs) ks (omega arith))
    ∙ take_all (sum ks) fs (omega arith)
