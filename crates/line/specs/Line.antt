-- What a line is to its users. It carries one direction: bytes, with duplicates beside them.
-- Its meaning has three parts: the cells that wait, the window and the shut code.
use Rattle.std.specs.Prelude.{◌≡◌, ℕ, ◌<◌, ◌≤◌, min, cond, ◌||◌, List, [], ◌∷◌, ◌++◌, map, length, take, drop, Some, None, Ok, Err, Option, Result, ◌==◌, nat_lt}
use Rattle.std.specs.List.{flat_map, AllByRecursion}
use Rattle.protocol.specs.declared.fd.OwnedFd.{OwnedFd}
use Rattle.protocol.specs.declared.limits.Limits.{Limits}
use Rattle.protocol.specs.declared.refusal.Refusal.{Refusal}
use Rattle.protocol.specs.declared.refusal.Refusal.TheVariants.{Limit, Broken, Again, Pipe}

-- a byte on its way, with the duplicates that it carries
pub record Cell : Type 0 where
  pub byte : ℕ
  pub fds : List OwnedFd

-- cells: what waits to be received; window: how many bytes the line would take now; shut: 0, or the code that it was shut with
pub record State : Type 0 where
  pub cells : List Cell
  pub window : ℕ
  pub shut : ℕ

-- bytes as cells, with all duplicates on the first
abbrev pub cells_of : List ℕ → List OwnedFd → List Cell
cells_of [] fds = []
cells_of (b ∷ bs) fds = record { byte = b; fds = fds } ∷ cells_of bs []

-- the bytes of cells, and the duplicates on them one after another
abbrev pub bytes_of : List Cell → List ℕ
bytes_of cells = map (λ c. c.byte) cells

abbrev pub fds_of : List Cell → List OwnedFd
fds_of cells = flat_map (λ c. c.fds) cells

-- no cell has more than d duplicates
abbrev pub EachFew : ℕ → List Cell → Type 0
EachFew d cells = AllByRecursion (λ c. length c.fds ≤ d) cells

-- why a send is refused: the first of its checks that fails
abbrev pub send_refusal : Limits → ℕ → ℕ → ℕ → ℕ → Option Refusal
send_refusal lim window shut bytes fds =
    cond (bytes == 0 || (nat_lt lim.bytes bytes || nat_lt lim.descriptors fds)) (Some Limit)
    (cond (nat_lt 0 shut) (Some (Broken shut))
    (cond (window == 0) (Some Again) None))

-- n bytes were taken: as many as the window allowed. The new window is any, and the line may be shut.
pub record Taken (lim : Limits) (s : State) (bs : List ℕ) (fds : List OwnedFd) (n : ℕ) (t : State) : Type 0 where
  pub admitted : send_refusal lim s.window s.shut (length bs) (length fds) ≡ None
  pub count : n ≡ min s.window (length bs)
  pub cells : t.cells ≡ s.cells ++ cells_of (take n bs) fds

-- `send`, from the state s to the state t
abbrev pub Sent : Limits → State → List ℕ → List OwnedFd → Result ℕ Refusal → State → Type 0
Sent lim s bs fds (Ok n) t = Taken lim s bs fds n t
Sent lim s bs fds (Err why) t = (send_refusal lim s.window s.shut (length bs) (length fds) ≡ Some why) × (t ≡ s)

-- why a receive is refused, with so many cells waiting
abbrev pub receive_refusal : Limits → ℕ → ℕ → ℕ → ℕ → Option Refusal
receive_refusal lim waiting shut bytes fds =
    cond (bytes == 0 || nat_lt fds lim.descriptors) (Some Limit)
    (cond (waiting == 0) (Some (cond (nat_lt 0 shut) Pipe Again)) None)

-- how many cells may be given at once, to one who asks for so many bytes
pub record MayGive (lim : Limits) (cells : List Cell) (asked n : ℕ) : Type 0 where
  pub some : 0 < n
  pub wanted : n ≤ asked
  pub there : n ≤ length cells
  pub few : length (fds_of (take n cells)) ≤ lim.descriptors

-- n cells, with k duplicates, were given: bs and fs were the caller's buffers before, bs' and fs' are they after. The new window is any.
pub record Given (lim : Limits) (s : State) (bs : List ℕ) (fs : List OwnedFd) (n k : ℕ) (bs' : List ℕ) (fs' : List OwnedFd) (t : State) : Type 0 where
  pub admitted : receive_refusal lim (length s.cells) s.shut (length bs) (length fs) ≡ None
  pub may : MayGive lim s.cells (length bs) n
  pub count : k ≡ length (fds_of (take n s.cells))
  pub bytes : bs' ≡ bytes_of (take n s.cells) ++ drop n bs
  pub fds : fs' ≡ fds_of (take n s.cells) ++ drop k fs
  pub cells : t.cells ≡ drop n s.cells
  pub shut : t.shut ≡ s.shut

-- `receive`
abbrev pub Received : Limits → State → List ℕ → List OwnedFd → Result (ℕ × ℕ) Refusal → List ℕ → List OwnedFd → State → Type 0
Received lim s bs fs (Ok p) bs' fs' t = Given lim s bs fs p.0 p.1 bs' fs' t
Received lim s bs fs (Err why) bs' fs' t =
    (receive_refusal lim (length s.cells) s.shut (length bs) (length fs) ≡ Some why) × (t ≡ s) × (bs' ≡ bs) × (fs' ≡ fs)

-- what a line may do by itself between calls: any new window, and an open line may shut
pub record Between (s t : State) : Type 0 where
  pub cells : t.cells ≡ s.cells
  pub shut : 0 < s.shut → t.shut ≡ s.shut
