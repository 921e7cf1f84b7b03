-- What `write_answer` is, check by check, and what the code knows after each.
use Rattle.std.proofs.Common.{◌≡◌, ℕ, ◌+◌, ◌-◌, ◌*◌, ◌<◌, ◌≤◌, Bool, true, cond, ◌||◌, ltb, ◌⊎◌, List, ◌++◌, length, take, drop, Some, None, Ok, Err, Option, Result, sym, refl, ap, ◌∙◌, ⊎_elim, arith}
use borrow.Rule.Slice.PartMut.{put_mid}
use Rattle.std.proofs.lemmas.Bool.{cond-true, cond-false, lt-ltb, le-ltb, ltb-false, or_left, or_right, or_from, or_parts}
use Rattle.protocol.specs.declared.fd.RawFd.{RawFd}
use Rattle.protocol.specs.declared.refusal.Refusal.{Refusal}
use Rattle.protocol.specs.declared.refusal.Refusal.TheVariants.{BadText, Oversize, Short}
use Rattle.book.specs.Files.{Files, numbers, opened}
use Rattle.wire.specs.Values.{Message, descriptors}
use Rattle.wire.specs.Frame.{known, word, fields, frame, overlay, size_of}
use Rattle.wire.specs.Write.{dup_failure, largest, unless_failed, write_answer}
use Rattle.wire.proofs.Outcomes.{past, past_not}
use Rattle.wire.proofs.Laying.{lay, lay_append, length_lay, length_overlay, part_laid}

pub duplicable : (o : Option ℕ) (c k : ℕ) → Ok k ≡ unless_failed o (Ok c) → (o ≡ None) × (k ≡ c)
duplicable None c k e = (refl, cc)
duplicable (Some code) c k e = cc

failed_anyhow : (o : Option ℕ) (c : ℕ) (q : Result ℕ Refusal) (why : Refusal) → Err why ≡ unless_failed o (Ok c) → unless_failed o q ≡ Err why
failed_anyhow None c q why e = cc
failed_anyhow (Some code) c q why e = sym e

module _ (g : Bool) (m : Message RawFd) (payload places : ℕ) (fs : Files) (ns : List RawFd) (e : descriptors m.args ≡ ns) (good : g ≡ true) (fits : size_of m ≤ largest) where
  after_measure : write_answer g m payload places fs ≡ unless_failed (dup_failure fs (numbers - opened fs) ns) (cond (ltb payload (size_of m) || ltb places (length ns)) (Err Short) (Ok (size_of m)))
  after_measure =
      cond-true _ _ _ good ∙ cond-false _ _ _ (le-ltb _ _ fits)
      ∙ ap (λ xs. unless_failed (dup_failure fs (numbers - opened fs) xs) (cond (ltb payload (size_of m) || ltb places (length xs)) (Err Short) (Ok (size_of m)))) e

  pub answer_failed : (c : ℕ) (why : Refusal) → Err why ≡ unless_failed (dup_failure fs (numbers - opened fs) ns) (Ok c) → write_answer g m payload places fs ≡ Err why
  answer_failed c why d = after_measure ∙ failed_anyhow (dup_failure fs (numbers - opened fs) ns) c _ why d

  pub answer_short : dup_failure fs (numbers - opened fs) ns ≡ None → (payload < size_of m) ⊎ (places < length ns) → write_answer g m payload places fs ≡ Err Short
  answer_short d s =
      after_measure ∙ ap (λ o. unless_failed o (cond (ltb payload (size_of m) || ltb places (length ns)) (Err Short) (Ok (size_of m)))) d
      ∙ cond-true (ltb payload (size_of m) || ltb places (length ns)) (Err Short) (Ok (size_of m)) (⊎_elim (λ h. or_left (ltb payload (size_of m)) (ltb places (length ns)) (lt-ltb payload (size_of m) h)) (λ h. or_right (ltb payload (size_of m)) (ltb places (length ns)) (lt-ltb places (length ns) h)) s)

  pub answer_done : dup_failure fs (numbers - opened fs) ns ≡ None → size_of m ≤ payload → length ns ≤ places → write_answer g m payload places fs ≡ Ok (size_of m)
  answer_done d s l =
      after_measure ∙ ap (λ o. unless_failed o (cond (ltb payload (size_of m) || ltb places (length ns)) (Err Short) (Ok (size_of m)))) d
      ∙ cond-false _ _ _ (or_from _ _ (le-ltb _ _ s) (le-ltb _ _ l))

-- the header's two words, and the arguments behind them
pub frame_laid : (m : Message RawFd) (w i j : ℕ) (p q r s : List ℕ) → 8 ≤ length p → w ≡ size_of m * 65536 + m.opcode
    → q ≡ overlay (known (word m.sender)) p
    → i ≡ length q - 4 → r ≡ overlay (known (word w)) (take i (drop 4 q))
    → j ≡ length (put_mid 4 i q r) - 8 → s ≡ overlay (fields m.args) (take j (drop 8 (put_mid 4 i q r)))
    → put_mid 8 j (put_mid 4 i q r) s ≡ overlay (frame m) p
frame_laid m w i j p q r s h e a ei b ej c =
    let l : length q ≡ length p = ap length a ∙ length_overlay (known (word m.sender)) p in
    let b' : put_mid 4 i q r ≡ lay 4 (known (word w)) q = part_laid 4 i (known (word w)) q r (omega arith) ei b in
    let k : length (put_mid 4 i q r) ≡ length q = ap length b' ∙ length_lay 4 (known (word w)) q in
    part_laid 8 j (fields m.args) (put_mid 4 i q r) s (omega arith) ej c
    ∙ ap (lay 8 (fields m.args)) (b' ∙ ap (λ n. lay 4 (known (word n)) q) e ∙ ap (lay 4 (known (word (size_of m * 65536 + m.opcode)))) a)
    ∙ sym (lay_append 4 (known (word (size_of m * 65536 + m.opcode))) (fields m.args) (lay 0 (known (word m.sender)) p))
    ∙ sym (lay_append 0 (known (word m.sender)) (known (word (size_of m * 65536 + m.opcode)) ++ fields m.args) p)

-- a message whose checks are passed
pub record Admitted (g : Bool) (m : Message RawFd) (payload places : ℕ) (fs : Files) (n : ℕ) : Type 0 where
  pub good : g ≡ true
  pub small : size_of m ≤ largest
  pub can : dup_failure fs (numbers - opened fs) (descriptors m.args) ≡ None
  pub bytes : size_of m ≤ payload
  pub fds : length (descriptors m.args) ≤ places
  pub size : n ≡ size_of m

failure_got : (o : Option ℕ) (r : Result ℕ Refusal) (n : ℕ) → unless_failed o r ≡ Ok n → (o ≡ None) × (r ≡ Ok n)
failure_got None r n e = (refl, e)
failure_got (Some code) r n e = cc

pub admitted : (g : Bool) (m : Message RawFd) (payload places : ℕ) (fs : Files) (n : ℕ) → write_answer g m payload places fs ≡ Ok n → Admitted g m payload places fs n
admitted g m payload places fs n e =
    let a = past_not g BadText _ n e in
    let b = past (ltb largest (size_of m)) Oversize _ n a.1 in
    let c = failure_got (dup_failure fs (numbers - opened fs) (descriptors m.args)) _ n b.1 in
    let d = past (ltb payload (size_of m) || ltb places (length (descriptors m.args))) Short (Ok (size_of m)) n c.1 in
    let o = or_parts (ltb payload (size_of m)) (ltb places (length (descriptors m.args))) d.0 in
    record {
      good = a.0;
      small = ltb-false largest (size_of m) b.0;
      can = c.0;
      bytes = ltb-false payload (size_of m) o.0;
      fds = ltb-false places (length (descriptors m.args)) o.1;
      size = (let q = d.1 in cc);
    }
