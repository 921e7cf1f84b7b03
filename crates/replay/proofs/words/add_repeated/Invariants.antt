use Rattle.std.proofs.Common.{◌≤◌, vec_len}
use Rattle.replay.proofs.words.add_repeated.Given as goal

abbrev pub invariant-loop-bytes : goal.invariant-loop-bytes
invariant-loop-bytes l = vec_len l.initial.bytes ≤ vec_len l.bytes

abbrev pub decreases-loop-bytes : goal.decreases-loop-bytes
decreases-loop-bytes l = l.count

abbrev pub invariant-loop : goal.invariant-loop
invariant-loop l = vec_len l.initial.bytes ≤ vec_len l.bytes
