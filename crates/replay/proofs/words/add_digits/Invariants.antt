use Rattle.std.proofs.Common.{◌≤◌, vec_len}
use Rattle.replay.proofs.words.add_digits.Given as goal

abbrev pub invariant-loop-pair : goal.invariant-loop-pair
invariant-loop-pair l = vec_len l.initial.bytes ≤ vec_len l.bytes
