-- How many bytes and how many duplicates a ring holds.
use Rattle.std.specs.Prelude.{ℕ}

abbrev pub ring_bytes : ℕ
ring_bytes = 8192

abbrev pub ring_fds : ℕ
ring_fds = 512
