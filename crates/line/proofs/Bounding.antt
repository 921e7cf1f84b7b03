-- What holds of the cells of each kind of line, from what its queues have places for.
use Rattle.std.proofs.Common.{◌≡◌, ℕ, ◌≤◌, List, [], ◌∷◌, length, sum, ap, arith}
use Rattle.protocol.specs.Limits.{limits}
use Rattle.protocol.specs.declared.fd.OwnedFd.{OwnedFd}
use Rattle.line.specs.Counted.{cells_from}
use Rattle.line.specs.Line.{cells_of}
use Rattle.line.specs.Parcel.{ParcelBound}
use Rattle.line.specs.Ring.{RingBound}
use Rattle.line.specs.Sizes.{ring_bytes, ring_fds}
use Rattle.line.proofs.Counting.{length_from, fds_from}
use Rattle.line.proofs.Seeing.{length_cells, few_plain}

pub ring_bound : (bs ks : List ℕ) (fs : List OwnedFd) → length ks ≡ length bs → sum ks ≡ length fs → length bs ≤ ring_bytes → length fs ≤ ring_fds → RingBound (cells_from bs ks fs)
ring_bound bs ks fs l t m k = (omega (arith, m, length_from bs ks fs), omega (arith, k, ap length (fds_from bs ks fs l t)))

pub parcel_bound : (bs : List ℕ) (fds : List OwnedFd) → length bs ≤ limits.bytes → ParcelBound limits (cells_of bs fds)
parcel_bound [] fds l = (omega arith, tt)
parcel_bound (b ∷ bs) fds l = (omega (arith, l, length_cells (b ∷ bs) fds), few_plain 0 bs)
