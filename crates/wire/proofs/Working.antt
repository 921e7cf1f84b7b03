-- The worked frames, computed from the definitions.
use Rattle.std.proofs.Common.{◌≡◌, ℕ, ◌+◌, ◌<◌, List, length, Option, refl, ap, ◌∙◌, arith}
use Rattle.std.proofs.lemmas.Bool.{cond-true, lt-ltb}
use Rattle.std.proofs.lemmas.List.{append-nil}
use Rattle.wire.specs.Values.{array}
use Rattle.wire.specs.Frame.{block, size_of}
use Rattle.wire.specs.Records.{block_length}
use Rattle.wire.specs.Worked.{WorkedFrames, alone}
use Rattle.wire.specs.Write.{largest}
use Rattle.wire.proofs.Walk.{length_block}

array_size : (bs : List ℕ) (n k : ℕ) → length bs ≡ n → block_length n ≡ k → size_of (alone (array bs)) ≡ 8 + k
array_size bs n k e b =
    ap (λ (f : List (Option ℕ)). 8 + length f) (append-nil (block bs)) ∙ ap (λ (m : ℕ). 8 + m) (length_block bs ∙ ap block_length e ∙ b)

pub worked_frames : WorkedFrames
worked_frames = record {
  new_id_2 = refl;
  empty_length = refl;
  empty_size = refl;
  null_length = refl;
  null_size = refl;
  hey_size = refl;
  abcd_size = refl;
  five_bytes = λ bs e. array_size bs 5 12 e refl;
  size_7 = refl;
  size_8 = refl;
  size_12_of_11 = refl;
  two_zeros = refl;
  zero_missing = refl;
  largest_array = λ bs e. array_size bs 65520 65524 e refl;
  oversize_array = λ bs payload places fs e. (let l : largest < size_of (alone (array bs)) = (let s = array_size bs 65521 65528 e refl in omega arith) in cond-true _ _ _ (lt-ltb _ _ l));
}
