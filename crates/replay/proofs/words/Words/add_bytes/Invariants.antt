use Rattle.std.proofs.Common.{◌≤◌, vec_len}
use Rattle.replay.proofs.words.Words.add_bytes.Given as goal

abbrev pub invariant-loop-part : goal.invariant-loop-part
invariant-loop-part l = vec_len l.initial.bytes ≤ vec_len l.bytes
