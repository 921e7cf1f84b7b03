-- Bytes and duplicates in two rows, and how many duplicates each byte carries.
use Rattle.std.specs.Prelude.{ℕ, suc, ◌-◌, cond, ◌&&◌, List, [], ◌∷◌, map, length, take, drop, nat_le, nat_lt}
use Rattle.protocol.specs.declared.fd.OwnedFd.{OwnedFd}
use Rattle.line.specs.Line.{Cell}

-- how many duplicates each cell carries
abbrev pub fd_counts : List Cell → List ℕ
fd_counts cells = map (λ c. length c.fds) cells

-- each byte as a cell, with its count of duplicates from the row of them
abbrev pub cells_from : List ℕ → List ℕ → List OwnedFd → List Cell
cells_from [] counts fds = []
cells_from (b ∷ bs) [] fds = record { byte = b; fds = [] } ∷ cells_from bs [] fds
cells_from (b ∷ bs) (k ∷ counts) fds = record { byte = b; fds = take k fds } ∷ cells_from bs counts (drop k fds)

-- how many cells may be given at once: cell after cell, while there is room for its byte and for its duplicates
abbrev pub most : ℕ → ℕ → List ℕ → ℕ
most fds bytes [] = 0
most fds bytes (k ∷ counts) = cond (nat_lt 0 bytes && nat_le k fds) (suc (most (fds - k) (bytes - 1) counts)) 0
