-- The stack of numbers that are not open, when its top is taken and when a number is put on.
use Rattle.std.proofs.Common.{◌≡◌, ℕ, zero, suc, ◌+◌, ◌<◌, ◌≢◌, true, List, [], ◌∷◌, ◌++◌, length, get_or, set, replicate, is_some, None, Option, sym, refl, ap, ◌∙◌, arith, length-append}
use Rattle.std.proofs.lemmas.List.{get_or-set_same, get_or-set_other, get_or_append_left}
use Rattle.std.proofs.lemmas.Bool.{both_ways}
use Rattle.std.proofs.Math.Seq.{get_or-append_seam}
use Rattle.std.proofs.lemmas.List.Elements.{All-push}
use Rattle.std.proofs.lemmas.List.Quantifiers.{all_pairs_push}
use Rattle.book.specs.Files.{Files, numbers, file_of}
use Rattle.book.specs.Table.{Unused, Distinct}
use Rattle.book.proofs.Counts.{open_below}

-- no number of a new table is open
pub file_of_new : (len n : ℕ) → file_of (replicate len None) n ≡ None
file_of_new zero n = refl
file_of_new (suc len) zero = refl
file_of_new (suc len) (suc n) = file_of_new len n

module _ (stack : List ℕ) (n : ℕ) where
  below : (k d : ℕ) → k < length stack → get_or (stack ++ n ∷ []) k d ≡ get_or stack k d
  below k d h = get_or_append_left stack (n ∷ []) d k h

  longer : length (stack ++ n ∷ []) ≡ length stack + 1
  longer = length-append stack (n ∷ [])

  -- the number on top is not open
  pub unused_top : (fs : Files) → Unused fs (stack ++ n ∷ []) → (n < numbers) × (file_of fs n ≡ None)
  unused_top fs u =
      let top = get_or-append_seam stack n [] 0 in
      let was = u (length stack) 0 (omega (arith, longer)) in
      (omega (arith, was.0, top), ap (λ m. file_of fs m) (sym top) ∙ was.1)

  -- it is on no other place
  pub unused_pop : (fs : Files) (x : Option ℕ) → Unused fs (stack ++ n ∷ []) → Distinct (stack ++ n ∷ []) → Unused (set fs n x) stack
  unused_pop fs x u d k e h =
      let at = below k e h in
      let was = u k e (omega (arith, longer)) in
      let other : get_or stack k e ≢ n = λ p. d k (length stack) e h (omega (arith, longer)) (at ∙ p ∙ sym (get_or-append_seam stack n [] e)) in
      (omega (arith, was.0, at), get_or-set_other fs n (get_or stack k e) x None other ∙ ap (λ m. file_of fs m) (sym at) ∙ was.1)

  pub distinct_pop : Distinct (stack ++ n ∷ []) → Distinct stack
  distinct_pop d i j e l h p = d i j e l (omega (arith, longer)) (below i e (omega arith) ∙ p ∙ sym (below j e h))

-- what is not open stays so when a number is closed
still : (fs : Files) (n m : ℕ) → file_of fs m ≡ None → file_of (set fs n None) m ≡ None
still [] n m h = h
still (x ∷ xs) zero zero h = refl
still (x ∷ xs) zero (suc m) h = h
still (x ∷ xs) (suc n) zero h = h
still (x ∷ xs) (suc n) (suc m) h = still xs n m h

module _ (fs : Files) (stack : List ℕ) (n : ℕ) (u : Unused fs stack) where
  pub unused_push : n < numbers → n < length fs → Unused (set fs n None) (stack ++ n ∷ [])
  unused_push h l =
      All-push (λ m. (m < numbers) × (file_of (set fs n None) m ≡ None)) stack n
      (λ k d b. ((u k d b).0, still fs n (get_or stack k d) (u k d b).1))
      (h, get_or-set_same fs n None None l)

  -- a number that is open is not on the stack
  pub distinct_push : is_some (file_of fs n) ≡ true → Distinct stack → Distinct (stack ++ n ∷ [])
  distinct_push o d =
      all_pairs_push (λ i j. i ≢ j) stack n d
      (λ k e h same. both_ways (is_some (file_of fs n)) (ap is_some (ap (λ m. file_of fs m) (sym same) ∙ (u k e h).1)) o)
