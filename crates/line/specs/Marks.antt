-- A ring notes by marks which bytes carry duplicates: so many bytes without any, and then one that carries some.
use Rattle.std.specs.Prelude.{◌≡◌, ℕ, ◌<◌, ◌≤◌, Bool, true, ◌&&◌, List, [], ◌∷◌, ◌++◌, length, take, drop, replicate, sum, nat_le, nat_lt}
use Rattle.line.specs.Counted.{most}
use Rattle.line.specs.declared.marks.Mark.{Mark}
use Rattle.line.specs.declared.share.Share.{Share}

-- how many duplicates each byte carries, up to the last mark
abbrev pub spread : List Mark → List ℕ
spread [] = []
spread (m ∷ ms) = replicate m.gap 0 ++ (m.fds ∷ spread ms)

-- how many each byte carries, with `tail` bytes behind the last mark
abbrev pub counts : List Mark → ℕ → List ℕ
counts ms tail = spread ms ++ replicate tail 0

-- every mark carries a duplicate, and no more than d of them
abbrev pub carrying : ℕ → List Mark → Bool
carrying d [] = true
carrying d (m ∷ ms) = (nat_lt 0 m.fds && nat_le m.fds d) && carrying d ms

-- what is taken of the counts, where so many bytes are asked for, with d duplicates at most: as much as may be given
pub record CountsTaken (d asked : ℕ) (all : List ℕ) (share : Share) (left : List ℕ) : Type 0 where
  pub bytes : share.bytes ≡ most d asked all
  pub some : 0 < asked → 0 < length all → 0 < share.bytes
  pub fds : share.fds ≡ sum (take share.bytes all)
  pub few : share.fds ≤ d
  pub wanted : share.bytes ≤ asked
  pub there : share.bytes ≤ length all
  pub after : left ≡ drop share.bytes all
