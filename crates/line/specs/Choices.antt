-- A kind of line fixes what the meaning of a line leaves open: its window, from the cells that wait, and how many of them it gives.
use Rattle.std.specs.Prelude.{◌≡◌, ℕ, cond, List, ◌++◌, length, take, drop, Ok, Err, Result, ◌==◌}
use Rattle.protocol.specs.declared.fd.OwnedFd.{OwnedFd}
use Rattle.protocol.specs.declared.limits.Limits.{Limits}
use Rattle.protocol.specs.declared.refusal.Refusal.{Refusal}
use Rattle.line.specs.Line.{Cell, State, cells_of, bytes_of, fds_of, MayGive}

-- window: from the cells that wait; gives: how many of them, where so many bytes are asked for
pub record Choices : Type 0 where
  pub window : List Cell → ℕ
  pub gives : ℕ → List Cell → ℕ

-- a line of a kind, with these cells waiting
abbrev pub state_by : Choices → List Cell → ℕ → State
state_by choices cells shut = record { cells = cells; window = choices.window cells; shut = shut }

-- what `send` leaves of a line of a kind
abbrev pub SentBy : Choices → State → List ℕ → List OwnedFd → Result ℕ Refusal → State → Type 0
SentBy choices s bs fds (Ok n) t = t ≡ state_by choices (s.cells ++ cells_of (take n bs) fds) s.shut
SentBy choices s bs fds (Err why) t = t ≡ s

-- how much `receive` gives, where so many bytes are asked for, and what it leaves
abbrev pub ReceivedBy : Choices → State → ℕ → Result (ℕ × ℕ) Refusal → State → Type 0
ReceivedBy choices s asked (Ok p) t = (p.0 ≡ choices.gives asked s.cells) × (t ≡ state_by choices (drop p.0 s.cells) s.shut)
ReceivedBy choices s asked (Err why) t = t ≡ s

-- the code of a line once it is shut with a code, 0 becoming 32: one that was shut before keeps its own
abbrev pub first_code : ℕ → ℕ → ℕ
first_code was code = cond (was == 0) (cond (code == 0) 32 code) was

-- the host shuts a line
abbrev pub shut_with : ℕ → State → State
shut_with code s = record { cells = s.cells; window = s.window; shut = first_code s.shut code }

-- n of the cells, with k duplicates, went to the front of the caller's buffers: bs and fs before, bs' and fs' after
pub record Gone (lim : Limits) (choices : Choices) (cells : List Cell) (bs : List ℕ) (fs : List OwnedFd) (n k : ℕ) (bs' : List ℕ) (fs' : List OwnedFd) (cells' : List Cell) : Type 0 where
  pub chosen : n ≡ choices.gives (length bs) cells
  pub may : MayGive lim cells (length bs) n
  pub count : k ≡ length (fds_of (take n cells))
  pub bytes : bs' ≡ bytes_of (take n cells) ++ drop n bs
  pub fds : fs' ≡ fds_of (take n cells) ++ drop k fs
  pub rest : cells' ≡ drop n cells
