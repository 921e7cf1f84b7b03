-- Laws of marks: the counts that they stand for, and what is left when some are gone.
use Rattle.std.proofs.Common.{◌≡◌, ℕ, zero, suc, ◌+◌, ◌-◌, ◌<◌, ◌≤◌, min, Bool, true, ◌&&◌, ltb, leb, ◌⊎◌, List, [], ◌∷◌, ◌++◌, length, get_or, take, drop, set, replicate, Some, sum, sym, refl, ap, ◌∙◌, add_assoc, arith, subst, take-add}
use Rattle.std.proofs.lemmas.List.{append_assoc, drop_at, take_at, drop-drop, drop_more, drop-replicate, length-append, length-replicate, length-drop, replicate-append-replicate, same_lists}
use Rattle.std.proofs.lemmas.Option.{slice_get_within, get_or_from_slice_get}
use Rattle.std.specs.List.{slice_get}
use Rattle.std.proofs.lemmas.Grind.{common_steps}
use Rattle.std.proofs.lemmas.Bool.{and_parts, and_from, ltb-true, leb-true, lt-ltb, le-leb}
use Rattle.line.specs.Marks.{spread, counts, carrying, CountsTaken}
use Rattle.line.specs.Counted.{most}
use Rattle.line.specs.declared.marks.Mark.{Mark}
use Rattle.line.proofs.Most.{sum_cons, sum_append, sum_none, most_pass, most_stop, most_tail, some_first}

-- more bytes behind the last mark, or a mark more
pub counts_more : (ms : List Mark) (tail n : ℕ) → counts ms (tail + n) ≡ counts ms tail ++ replicate n 0
counts_more ms tail n = ap (λ y. spread ms ++ y) (sym (replicate-append-replicate tail n 0)) ∙ sym (append_assoc (spread ms) (replicate tail 0) (replicate n 0))

pub counts_push : (ms : List Mark) (m : Mark) (tail : ℕ) → counts (ms ++ m ∷ []) tail ≡ counts ms m.gap ++ (m.fds ∷ replicate tail 0)
counts_push [] m tail = grind (arith, common_steps)
counts_push (x ∷ ms) m tail = grind (arith, common_steps, counts_push ms m tail)

-- the counts of a first mark, and those behind it
counts_cons : (m : Mark) (ms : List Mark) (tail : ℕ) → counts (m ∷ ms) tail ≡ replicate m.gap 0 ++ (m.fds ∷ counts ms tail)
counts_cons m ms tail = append_assoc (replicate m.gap 0) (m.fds ∷ spread ms) (replicate tail 0)

length_gap : (m : Mark) → length (replicate m.gap 0 ++ (m.fds ∷ [])) ≡ m.gap + 1
length_gap m = length-append (replicate m.gap 0) (m.fds ∷ []) ∙ ap (λ y. y + 1) (length-replicate m.gap 0)

counts_parts : (m : Mark) (ms : List Mark) (tail : ℕ) → counts (m ∷ ms) tail ≡ (replicate m.gap 0 ++ (m.fds ∷ [])) ++ counts ms tail
counts_parts m ms tail = counts_cons m ms tail ∙ sym (append_assoc (replicate m.gap 0) (m.fds ∷ []) (counts ms tail))

counts_pass : (m : Mark) (ms : List Mark) (tail : ℕ) → drop (m.gap + 1) (counts (m ∷ ms) tail) ≡ counts ms tail
counts_pass m ms tail = ap (drop (m.gap + 1)) (counts_parts m ms tail) ∙ drop_at (replicate m.gap 0 ++ (m.fds ∷ [])) (counts ms tail) (m.gap + 1) (length_gap m)

sum_pass : (m : Mark) (ms : List Mark) (tail : ℕ) → sum (take (m.gap + 1) (counts (m ∷ ms) tail)) ≡ m.fds
sum_pass m ms tail =
    ap sum (ap (take (m.gap + 1)) (counts_parts m ms tail) ∙ take_at (replicate m.gap 0 ++ (m.fds ∷ [])) (counts ms tail) (m.gap + 1) (length_gap m))
    ∙ sum_append (replicate m.gap 0) (m.fds ∷ [])
    ∙ omega (arith, sum_none m.gap, sum_cons m.fds [])

-- the bytes without duplicates at the front
abbrev plain : List Mark → ℕ → ℕ
plain [] tail = tail
plain (m ∷ ms) tail = m.gap

-- some of the plain bytes at the front are gone
pub sum_plain : (n : ℕ) (ms : List Mark) (tail : ℕ) → n ≤ plain ms tail → sum (take n (counts ms tail)) ≡ 0
sum_plain n [] tail h = grind (arith, common_steps, sum_none n)
sum_plain n (m ∷ ms) tail h = grind (arith, common_steps, counts_cons m ms tail, sum_none n)

drop_tail : (n tail : ℕ) → counts [] (tail - n) ≡ drop n (counts [] tail)
drop_tail n tail = sym (drop-replicate n tail 0)

abbrev pub shorter : ℕ → Mark → Mark
shorter n m = record { gap = m.gap - n; fds = m.fds }

drop_gap : (n : ℕ) (m : Mark) (ms : List Mark) (tail : ℕ) → n ≤ m.gap → counts (shorter n m ∷ ms) tail ≡ drop n (counts (m ∷ ms) tail)
drop_gap n m ms tail h =
    let was = counts_cons m ms tail in
    let is = counts_cons (shorter n m) ms tail in
    same_lists _ _ (grind (arith, common_steps, was, is)) (λ i d o. grind (arith, common_steps, was, is))

-- every mark carries a duplicate, and no more than d
abbrev good : ℕ → Mark → Bool
good d m = ltb 0 m.fds && leb m.fds d

pub carrying_push : (d : ℕ) (ms : List Mark) (m : Mark) → carrying d ms ≡ true → 0 < m.fds → m.fds ≤ d → carrying d (ms ++ m ∷ []) ≡ true
carrying_push d [] m c h l = and_from (good d m) true (and_from (ltb 0 m.fds) (leb m.fds d) (lt-ltb 0 m.fds h) (le-leb m.fds d l)) refl
carrying_push d (x ∷ ms) m c h l =
    let both = and_parts (good d x) (carrying d ms) c in
    and_from (good d x) (carrying d (ms ++ m ∷ [])) both.0 (carrying_push d ms m both.1 h l)

pub carrying_length : (d : ℕ) (ms : List Mark) (tail : ℕ) → carrying d ms ≡ true → length ms ≤ sum (counts ms tail)
carrying_length d [] tail c = omega arith
carrying_length d (m ∷ ms) tail c =
    let both = and_parts (good d m) (carrying d ms) c in
    let one : 0 < m.fds = ltb-true 0 m.fds (and_parts (ltb 0 m.fds) (leb m.fds d) both.0).0 in
    let rest = carrying_length d ms tail both.1 in
    let whole : sum (counts (m ∷ ms) tail) ≡ m.fds + sum (counts ms tail) =
    ap sum (counts_cons m ms tail) ∙ sum_append (replicate m.gap 0) (m.fds ∷ counts ms tail) ∙ omega (arith, sum_none m.gap, sum_cons m.fds (counts ms tail)) in
    let l : length (m ∷ ms) ≡ suc (length ms) = refl in
    omega arith

plain_inside : (ms : List Mark) (tail : ℕ) → plain ms tail ≤ length (counts ms tail)
plain_inside [] tail = grind (arith, common_steps)
plain_inside (m ∷ ms) tail = grind (arith, common_steps, counts_cons m ms tail)

-- the first mark, if there is one
first_mark : (ms : List Mark) (m : Mark) → slice_get ms 0 ≡ Some m → ms ≡ m ∷ drop 1 ms
first_mark ms m e = drop_more ms 0 m (slice_get_within ms 0 m e) ∙ ap (λ y. y ∷ drop 1 ms) (get_or_from_slice_get ms 0 m m e)

no_mark : (ms : List Mark) → ((m : Mark) → slice_get ms 0 ≡ Some m → ⊥) → ms ≡ []
no_mark [] h = refl
no_mark (m ∷ ms) h = absurd (h m refl)

stop_most : (d b : ℕ) (m : Mark) (ms : List Mark) (tail : ℕ) → (b ≤ m.gap) ⊎ (d < m.fds) → most d b (counts (m ∷ ms) tail) ≡ min b m.gap
stop_most d b m ms tail s = ap (most d b) (counts_cons m ms tail) ∙ most_stop m.gap d b m.fds (counts ms tail) s

-- where cells wait, one at least is given
some_given : (d asked : ℕ) (ms : List Mark) (tail : ℕ) → carrying d ms ≡ true → 0 < asked → 0 < length (counts ms tail) → 0 < most d asked (counts ms tail)
some_given d asked [] tail c h l = omega (arith, most_tail tail d asked, length-replicate {A = ℕ} tail 0)
some_given d asked (m ∷ ms) tail c h l =
    let few : m.fds ≤ d = leb-true m.fds d (and_parts (ltb 0 m.fds) (leb m.fds d) (and_parts (good d m) (carrying d ms) c).0).1 in
    subst (λ y. 0 < most d asked y) (sym (counts_cons m ms tail)) (some_first m.gap d asked m.fds (counts ms tail) h few)

-- what was passed so far: so many bytes and duplicates of the counts, so that these marks and the tail are left
pub record Passing (d asked : ℕ) (all : List ℕ) (ms : List Mark) (tail bytes fds : ℕ) : Type 0 where
  pub wanted : bytes ≤ asked
  pub there : bytes ≤ length all
  pub few : fds ≤ d
  pub carried : fds ≡ sum (take bytes all)
  pub carrying : carrying d ms ≡ true
  pub some : 0 < asked → 0 < length all → 0 < most d asked all
  pub rest : counts ms tail ≡ drop bytes all
  pub most : most d asked all ≡ bytes + most (d - fds) (asked - bytes) (counts ms tail)

module _ (d asked : ℕ) (all : List ℕ) (tail bytes fds : ℕ) where
  -- a whole mark is passed
  passing_more : (m : Mark) (ms : List Mark) → Passing d asked all (m ∷ ms) tail bytes fds → m.gap < asked - bytes → m.fds ≤ d - fds → Passing d asked all ms tail (bytes + (m.gap + 1)) (fds + m.fds)
  passing_more m ms p g k =
      let left : drop (bytes + (m.gap + 1)) all ≡ counts ms tail =
      sym (drop-drop (m.gap + 1) bytes all) ∙ ap (drop (m.gap + 1)) (sym p.rest) ∙ counts_pass m ms tail in
      let long : length all - bytes ≡ m.gap + 1 + length (counts ms tail) =
      sym (length-drop bytes all) ∙ ap length (sym p.rest ∙ counts_cons m ms tail) ∙ grind (arith, common_steps) in
      let less : d - fds - m.fds ≡ d - (fds + m.fds) = omega arith in
      let b : asked - bytes - (m.gap + 1) ≡ asked - (bytes + (m.gap + 1)) = omega arith in
      record {
        wanted = omega (arith, p.wanted);
        there = omega (arith, p.there);
        few = omega (arith, p.few);
        carried =
            ap (λ y. y + m.fds) p.carried
            ∙ ap (λ y. sum (take bytes all) + y) (sym (ap (λ y. sum (take (m.gap + 1) y)) (sym p.rest) ∙ sum_pass m ms tail))
            ∙ sym (sum_append (take bytes all) (take (m.gap + 1) (drop bytes all)))
            ∙ ap sum (sym (take-add bytes (m.gap + 1) all));
        carrying = (and_parts (good d m) (carrying d ms) p.carrying).1;
        some = p.some;
        rest = sym left;
        most =
            p.most
            ∙ ap (λ y. bytes + most (d - fds) (asked - bytes) y) (counts_cons m ms tail)
            ∙ ap (λ y. bytes + y) (most_pass m.gap (d - fds) (asked - bytes) m.fds (counts ms tail) g k)
            ∙ sym (add_assoc bytes (m.gap + 1) (most (d - fds - m.fds) (asked - bytes - (m.gap + 1)) (counts ms tail)))
            ∙ ap (λ y. bytes + (m.gap + 1) + most y (asked - bytes - (m.gap + 1)) (counts ms tail)) less
            ∙ ap (λ y. bytes + (m.gap + 1) + most (d - (fds + m.fds)) y (counts ms tail)) b;
      }

  -- what is taken: the marks that were passed, and so many of the plain bytes that come next
  module _ (ms : List Mark) (p : Passing d asked all ms tail bytes fds) (r : ℕ) (c : r ≡ min (asked - bytes) (plain ms tail)) where
    taken_fds : fds ≡ sum (take (bytes + r) all)
    taken_fds =
        let none : sum (take r (drop bytes all)) ≡ 0 = ap (λ y. sum (take r y)) (sym p.rest) ∙ sum_plain r ms tail (omega arith) in
        p.carried
        ∙ (let z : sum (take bytes all) ≡ sum (take bytes all) + sum (take r (drop bytes all)) = omega arith in z)
        ∙ sym (sum_append (take bytes all) (take r (drop bytes all)))
        ∙ ap sum (sym (take-add bytes r all))

    taken_there : bytes + r ≤ length all
    taken_there =
        let long = sym (length-drop bytes all) ∙ ap length (sym p.rest) in
        omega (arith, p.there, plain_inside ms tail)

    whole : most (d - fds) (asked - bytes) (counts ms tail) ≡ min (asked - bytes) (plain ms tail) → bytes + r ≡ most d asked all
    whole e = sym (p.most ∙ ap (λ y. bytes + y) (e ∙ sym c))

    taken : most (d - fds) (asked - bytes) (counts ms tail) ≡ min (asked - bytes) (plain ms tail) → (left : List ℕ) → left ≡ drop r (counts ms tail) → CountsTaken d asked all (record { bytes = bytes + r; fds = fds }) left
    taken e left is = record {
      bytes = whole e;
      some = λ h l. omega (arith, p.some h l, whole e);
      fds = taken_fds;
      few = p.few;
      wanted = omega (arith, p.wanted);
      there = taken_there;
      after = is ∙ ap (drop r) p.rest ∙ drop-drop r bytes all;
    }

-- nothing is passed yet
pub not_passed : (d asked : ℕ) (ms : List Mark) (tail : ℕ) (all : List ℕ) → carrying d ms ≡ true → counts ms tail ≡ all → Passing d asked all ms tail 0 0
not_passed d asked ms tail all c e =
    let z : d ≡ d - 0 = omega arith in
    let a : asked ≡ asked - 0 = omega arith in
    record {
      wanted = omega arith;
      there = omega arith;
      few = omega arith;
      carried = refl;
      carrying = c;
      some = λ h l. subst (λ y. 0 < most d asked y) e (some_given d asked ms tail c h (omega (arith, l, ap length e)));
      rest = e;
      most =
          ap (most d asked) (sym e)
          ∙ ap (λ y. most y asked (counts ms tail)) z
          ∙ ap (λ y. most (d - 0) y (counts ms tail)) a
          ∙ (let y : most (d - 0) (asked - 0) (counts ms tail) ≡ 0 + most (d - 0) (asked - 0) (counts ms tail) = omega arith in y);
    }

-- how the walk over the marks goes on
module _ (d asked : ℕ) (all : List ℕ) (ms : List Mark) (tail bytes fds : ℕ) (p : Passing d asked all ms tail bytes fds) where
  module _ (m : Mark) (e : slice_get ms 0 ≡ Some m) where
    first : Passing d asked all (m ∷ drop 1 ms) tail bytes fds
    first = subst (λ y. Passing d asked all y tail bytes fds) (first_mark ms m e) p

    -- the first mark is given whole
    pub passed : (left : List Mark) → left ≡ drop 1 ms → m.gap < asked - bytes → m.fds ≤ d - fds → Passing d asked all left tail (bytes + (m.gap + 1)) (fds + m.fds)
    passed left is g k = subst (λ y. Passing d asked all y tail (bytes + (m.gap + 1)) (fds + m.fds)) (sym is) (passing_more d asked all tail bytes fds m (drop 1 ms) first g k)

    -- it is not, and some of its plain bytes are given
    module _ (r : ℕ) (left : List Mark) (is : left ≡ set ms 0 (shorter r m)) where
      now : left ≡ shorter r m ∷ drop 1 ms
      now = is ∙ ap (λ y. set y 0 (shorter r m)) (first_mark ms m e)

      pub still_carrying : carrying d left ≡ true
      still_carrying = subst (λ y. carrying d y ≡ true) (sym now) first.carrying

      pub stopped : r ≡ min (asked - bytes) m.gap → (asked - bytes ≤ m.gap) ⊎ (d - fds < m.fds) → CountsTaken d asked all (record { bytes = bytes + r; fds = fds }) (counts left tail)
      stopped c s =
          taken d asked all tail bytes fds (m ∷ drop 1 ms) first r c (stop_most (d - fds) (asked - bytes) m (drop 1 ms) tail s) (counts left tail)
          (ap (λ y. counts y tail) now ∙ drop_gap r m (drop 1 ms) tail (omega arith))

  -- there is no mark, and some of the tail is given
  pub ended : ((m : Mark) → slice_get ms 0 ≡ Some m → ⊥) → (r : ℕ) → r ≡ min (asked - bytes) tail → CountsTaken d asked all (record { bytes = bytes + r; fds = fds }) (counts ms (tail - r))
  ended h r c =
      let none : ms ≡ [] = no_mark ms h in
      taken d asked all tail bytes fds [] (subst (λ y. Passing d asked all y tail bytes fds) none p) r c (most_tail tail (d - fds) (asked - bytes)) (counts ms (tail - r))
      (ap (λ y. counts y (tail - r)) none ∙ drop_tail r tail)

-- what the byte at a place carries
module _ (m : Mark) (ms : List Mark) (tail place : ℕ) where
  pub at_gap : place < m.gap → 0 ≡ get_or (counts (m ∷ ms) tail) place 0
  at_gap h = grind (arith, common_steps, counts_cons m ms tail)

  pub at_mark : place ≡ m.gap → m.fds ≡ get_or (counts (m ∷ ms) tail) place 0
  at_mark h = grind (arith, common_steps, counts_cons m ms tail)

  pub at_rest : m.gap < place → get_or (counts (m ∷ ms) tail) place 0 ≡ get_or (counts ms tail) (place - (m.gap + 1)) 0
  at_rest h = grind (arith, common_steps, counts_cons m ms tail)

pub at_tail : (tail place : ℕ) → 0 ≡ get_or (counts [] tail) place 0
at_tail tail place = grind (arith, common_steps)

zero_front : (n f : ℕ) → 0 < n → f ≡ 0 → replicate n 0 ≡ f ∷ replicate (n - 1) 0
zero_front zero f h e = absurd (omega arith)
zero_front (suc n) f h e = let z : n ≡ suc n - 1 = omega arith in ap (λ y. 0 ∷ replicate y 0) z ∙ ap (λ y. y ∷ replicate (suc n - 1) 0) (sym e)

-- new bytes that carry nothing
pub noted_plain : (ms : List Mark) (tail n f : ℕ) → 0 < n → f ≡ 0 → counts ms (tail + n) ≡ counts ms tail ++ (f ∷ replicate (n - 1) 0)
noted_plain ms tail n f h e = counts_more ms tail n ∙ ap (λ y. counts ms tail ++ y) (zero_front n f h e)
