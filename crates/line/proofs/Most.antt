-- How many cells may be given at once, over a row of counts; and sums of such rows.
use Rattle.std.proofs.Common.{◌≡◌, ℕ, zero, suc, ◌+◌, ◌-◌, ◌<◌, ◌≤◌, min, ◌⊎◌, List, [], ◌∷◌, ◌++◌, replicate, sum, sym, refl, ap, ◌∙◌, arith}
use Rattle.std.proofs.lemmas.List.{append-nil}
use Rattle.std.proofs.lemmas.List.Sums.{sum_by-cons, sum_by-append}
use Rattle.std.proofs.lemmas.Bool.{cond-true, cond-false, lt-ltb, le-leb, lt-leb, and_from, and_right}
use Rattle.line.specs.Counted.{most}

pub sum_cons : (k : ℕ) (ks : List ℕ) → sum (k ∷ ks) ≡ k + sum ks
sum_cons = sum_by-cons (λ k. k)

pub sum_append : (xs ys : List ℕ) → sum (xs ++ ys) ≡ sum xs + sum ys
sum_append = sum_by-append (λ k. k)

pub sum_none : (n : ℕ) → sum (replicate n 0) ≡ 0
sum_none zero = refl
sum_none (suc n) = omega (arith, sum_cons 0 (replicate n 0), sum_none n)

most_none : (d : ℕ) (cs : List ℕ) → most d 0 cs ≡ 0
most_none d [] = refl
most_none d (k ∷ cs) = refl

pub most_next : (d b k : ℕ) (cs : List ℕ) → 0 < b → k ≤ d → most d b (k ∷ cs) ≡ suc (most (d - k) (b - 1) cs)
most_next d b k cs h l = cond-true _ _ _ (and_from _ _ (lt-ltb 0 b h) (le-leb k d l))

most_over : (d b k : ℕ) (cs : List ℕ) → d < k → most d b (k ∷ cs) ≡ 0
most_over d b k cs l = cond-false _ _ _ (and_right _ _ (lt-leb k d l))

-- past bytes that carry nothing
most_plain : (g d b : ℕ) (cs : List ℕ) → g ≤ b → most d b (replicate g 0 ++ cs) ≡ g + most d (b - g) cs
most_plain zero d b cs h = grind arith
most_plain (suc g) d b cs h = grind (arith, most_next d b 0 (replicate g 0 ++ cs), most_plain g d (b - 1) cs)

most_short : (g d b : ℕ) (cs : List ℕ) → b ≤ g → most d b (replicate g 0 ++ cs) ≡ b
most_short zero d b cs h = grind (arith, most_none d cs)
most_short (suc g) d zero cs h = most_none d (replicate (suc g) 0 ++ cs)
most_short (suc g) d (suc b) cs h = grind (arith, most_next d (suc b) 0 (replicate g 0 ++ cs), most_short g d b cs)

-- past a whole mark
pub most_pass : (g d b k : ℕ) (cs : List ℕ) → g < b → k ≤ d → most d b (replicate g 0 ++ (k ∷ cs)) ≡ g + 1 + most (d - k) (b - (g + 1)) cs
most_pass g d b k cs h l = grind (arith, most_plain g d b (k ∷ cs), most_next d (b - g) k cs)

-- a mark that is not given whole stops the giving
pub most_stop : (g d b k : ℕ) (cs : List ℕ) → (b ≤ g) ⊎ (d < k) → most d b (replicate g 0 ++ (k ∷ cs)) ≡ min b g
most_stop g d b k cs h = grind (arith, most_short g d b (k ∷ cs), most_plain g d b (k ∷ cs), most_none d (k ∷ cs), most_over d (b - g) k cs)

pub most_tail : (t d b : ℕ) → most d b (replicate t 0) ≡ min b t
most_tail t d b = ap (most d b) (sym (append-nil (replicate t 0))) ∙ grind (arith, most_short t d b [], most_plain t d b [])

-- something is given of counts that begin with plain bytes and then one of at most d
pub some_first : (g d b k : ℕ) (cs : List ℕ) → 0 < b → k ≤ d → 0 < most d b (replicate g 0 ++ (k ∷ cs))
some_first zero d b k cs h l = omega (arith, most_next d b k cs h l)
some_first (suc g) d b k cs h l = omega (arith, most_next d b 0 (replicate g 0 ++ (k ∷ cs)) h (omega arith))
