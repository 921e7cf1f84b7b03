-- Laws of cells: how many there are, and what is seen of one.
use Rattle.std.proofs.Common.{◌≡◌, ℕ, zero, suc, ◌≤◌, List, [], ◌∷◌, ◌++◌, length, Some, None, sym, refl, ap, arith}
use Rattle.std.proofs.lemmas.Option.{slice_get_past, none-some}
use Rattle.std.specs.List.{slice_get}
use Rattle.std.specs.Option.{option_map}
use Rattle.protocol.specs.declared.fd.OwnedFd.{OwnedFd}
use Rattle.line.specs.declared.view.CellView.{CellView}
use Rattle.line.specs.Line.{Cell, cells_of, EachFew}
use Rattle.line.specs.Seen.{seen, seen_at}

pub length_cells : (bs : List ℕ) (fds : List OwnedFd) → length (cells_of bs fds) ≡ length bs
length_cells [] fds = refl
length_cells (b ∷ bs) fds = ap suc (length_cells bs [])

abbrev pub view : ℕ → ℕ → CellView
view byte fds = record { byte = byte; fds = fds }

pub seen_past : (cs : List Cell) (place : ℕ) → length cs ≤ place → None ≡ seen_at cs place
seen_past cs place h = ap (option_map seen) (sym (slice_get_past cs place h))

-- a place where there is no byte is past them
pub past : (bs : List ℕ) (place : ℕ) → slice_get bs place ≡ None → length bs ≤ place
past [] place e = omega arith
past (b ∷ bs) zero e = absurd (none-some b (sym e))
past (b ∷ bs) (suc place) e = let h = past bs place e in omega arith

seen_plain : (bs : List ℕ) (place b : ℕ) → slice_get bs place ≡ Some b → Some (view b 0) ≡ seen_at (cells_of bs []) place
seen_plain [] place b e = absurd (none-some b e)
seen_plain (x ∷ bs) zero b e = ap (option_map (λ y. view y 0)) (sym e)
seen_plain (x ∷ bs) (suc place) b e = seen_plain bs place b e

pub seen_first : (bs : List ℕ) (fds : List OwnedFd) (place b : ℕ) → slice_get bs place ≡ Some b → place ≡ 0 → Some (view b (length fds)) ≡ seen_at (cells_of bs fds) place
seen_first [] fds place b e z = absurd (none-some b e)
seen_first (x ∷ bs) fds zero b e z = ap (option_map (λ y. view y (length fds))) (sym e)
seen_first (x ∷ bs) fds (suc place) b e z = absurd (omega arith)

pub seen_later : (bs : List ℕ) (fds : List OwnedFd) (place b : ℕ) → slice_get bs place ≡ Some b → (place ≡ 0 → ⊥) → Some (view b 0) ≡ seen_at (cells_of bs fds) place
seen_later [] fds place b e z = absurd (none-some b e)
seen_later (x ∷ bs) fds zero b e z = absurd (z refl)
seen_later (x ∷ bs) fds (suc place) b e z = seen_plain bs place b e

-- no cell has more than d duplicates, and so after a send
pub few_plain : (d : ℕ) (bs : List ℕ) → EachFew d (cells_of bs [])
few_plain d [] = tt
few_plain d (b ∷ bs) = (omega arith, few_plain d bs)

pub few_put : (d : ℕ) (cells : List Cell) (bs : List ℕ) (fds : List OwnedFd) → EachFew d cells → length fds ≤ d → EachFew d (cells ++ cells_of bs fds)
few_put d [] [] fds few h = tt
few_put d [] (b ∷ bs) fds few h = (h, few_plain d bs)
few_put d (c ∷ cells) bs fds few h = (few.0, few_put d cells bs fds few.1 h)
