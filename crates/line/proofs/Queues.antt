-- Laws of a queue in a circle of slots: lists are compared item by item.
use Rattle.std.proofs.Common.{◌≡◌, ℕ, ◌+◌, ◌-◌, ◌<◌, ◌≤◌, min, ltb, ◌⊎◌, List, [], ◌∷◌, ◌++◌, length, get_or, take, drop, set, Some, None, Option, sym, refl, ap, ◌∙◌, inl, inr, arith, length-append, length-drop, length-set, length-take-le, get_or-drop, get_or-take}
use Rattle.std.specs.Iterator.{AlwaysYields}
use borrow.Rule.Slice.PartMut.{put_mid}
use Rattle.std.proofs.lemmas.List.{same_lists, take_at, nil_from_length, append-nil, length-take, get_or_append_left, get_or-append_right}
use Rattle.std.proofs.lemmas.Bool.{cond_both, ltb-true, ltb-false, cases_lt}
use Rattle.std.proofs.lemmas.Grind.{common_steps}
use Rattle.line.specs.Queue.{turned, held, slot_of, fitting, around}

-- the slot of a place, before the last slot or past it
slot_cases : (n head i : ℕ) → ((i < n - head) × (slot_of n head i ≡ head + i)) ⊎ ((n - head ≤ i) × (slot_of n head i ≡ i - (n - head)))
slot_cases n head i = cond_both (ltb i (n - head)) (head + i) (i - (n - head)) (λ p. ((i < n - head) × (p ≡ head + i)) ⊎ ((n - head ≤ i) × (p ≡ i - (n - head))))
    (λ t. inl (ltb-true i (n - head) t, refl)) (λ t. inr (ltb-false i (n - head) t, refl))

-- the items of a list with others written over a part of it
module _ {X : Type 0} (a k : ℕ) (xs ys : List X) (fits : a + length ys ≤ length xs) (is : length ys ≡ k) (i : ℕ) (d : X) where
  front : length (take a xs) ≡ a
  front = length-take-le a xs (omega arith)

  mid_before : i < a → get_or (put_mid a k xs ys) i d ≡ get_or xs i d
  mid_before h = get_or_append_left (take a xs) (ys ++ drop k (drop a xs)) d i (omega (arith, front)) ∙ get_or-take a xs i d h

  mid_in : a ≤ i → i < a + k → get_or (put_mid a k xs ys) i d ≡ get_or ys (i - a) d
  mid_in h l = get_or-append_right (take a xs) (ys ++ drop k (drop a xs)) a i d front h ∙ get_or_append_left ys (drop k (drop a xs)) d (i - a) (omega arith)

  mid_after : a + k ≤ i → get_or (put_mid a k xs ys) i d ≡ get_or xs i d
  mid_after h =
      get_or-append_right (take a xs) (ys ++ drop k (drop a xs)) a i d front (omega arith)
      ∙ get_or-append_right ys (drop k (drop a xs)) k (i - a) d is (omega arith)
      ∙ get_or-drop k (drop a xs) (i - a - k) d ∙ get_or-drop a xs (k + (i - a - k)) d ∙ ap (λ j. get_or xs j d) (omega arith)

-- the slots with new items from one on: the first of them, the others, and what stays
module _ {X : Type 0} (at : ℕ) (s new : List X) (h : at ≤ length s) (l : length new ≤ length s) (i : ℕ) (d : X) where
  first_long : length (take (fitting at s new) new) ≡ fitting at s new
  first_long = length-take-le (fitting at s new) new (omega arith)

  rest_long : length (drop (fitting at s new) new) ≡ length new - fitting at s new
  rest_long = length-drop (fitting at s new) new

  once_long : length (put_mid at (fitting at s new) s (take (fitting at s new) new)) ≡ length s
  once_long = simp (length-append, length-drop) (omega (arith, first_long, length-take-le at s h))

  around_first : i < length new - fitting at s new → get_or (around at s new) i d ≡ get_or new (fitting at s new + i) d
  around_first t =
      mid_in 0 (length new - fitting at s new) (put_mid at (fitting at s new) s (take (fitting at s new) new)) (drop (fitting at s new) new) (omega (arith, rest_long, once_long)) rest_long i d (omega arith) (omega arith)
      ∙ get_or-drop (fitting at s new) new (i - 0) d ∙ ap (λ j. get_or new (fitting at s new + j) d) (omega arith)

  around_written : length new - fitting at s new ≤ i → at ≤ i → i < at + fitting at s new → get_or (around at s new) i d ≡ get_or new (i - at) d
  around_written t u v =
      mid_after 0 (length new - fitting at s new) (put_mid at (fitting at s new) s (take (fitting at s new) new)) (drop (fitting at s new) new) (omega (arith, rest_long, once_long)) rest_long i d (omega arith)
      ∙ mid_in at (fitting at s new) s (take (fitting at s new) new) (omega (arith, first_long)) first_long i d u v
      ∙ get_or-take (fitting at s new) new (i - at) d (omega arith)

  around_other : length new - fitting at s new ≤ i → (i < at) ⊎ (at + fitting at s new ≤ i) → get_or (around at s new) i d ≡ get_or s i d
  around_other t u =
      mid_after 0 (length new - fitting at s new) (put_mid at (fitting at s new) s (take (fitting at s new) new)) (drop (fitting at s new) new) (omega (arith, rest_long, once_long)) rest_long i d (omega arith)
      ∙ elim u [
        | inl v ↦ mid_before at (fitting at s new) s (take (fitting at s new) new) (omega (arith, first_long)) first_long i d v
        | inr v ↦ mid_after at (fitting at s new) s (take (fitting at s new) new) (omega (arith, first_long)) first_long i d v
      ]

module _ {X : Type 0} (n : ℕ) (s : List X) (head : ℕ) (e : length s ≡ n) (h : head ≤ n) where
  length_turned : length (turned head s) ≡ n
  length_turned = length-append (drop head s) (take head s) ∙ simp length-drop (omega (arith, length-take-le head s (omega arith)))

  pub length_held : (len : ℕ) → len ≤ n → length (held s head len) ≡ len
  length_held len l = length-take-le len (turned head s) (omega (arith, length_turned))

  pub get_or_held : (len i : ℕ) (d : X) → len ≤ n → i < len → get_or (held s head len) i d ≡ get_or s (slot_of n head i) d
  get_or_held len i d l m =
      let back = length-drop head s in
      get_or-take len (turned head s) i d m ∙ elim (slot_cases n head i) [
        | inl t ↦ get_or_append_left (drop head s) (take head s) d i (omega arith) ∙ get_or-drop head s i d ∙ ap (λ j. get_or s j d) (sym t.1)
        | inr t ↦ get_or-append_right (drop head s) (take head s) (n - head) i d (omega arith) t.0 ∙ get_or-take head s (i - (n - head)) d (omega arith) ∙ ap (λ j. get_or s j d) (sym t.1)
      ]

-- A block of its own, since it takes the laws above at other slots.
module _ {X : Type 0} (n : ℕ) (s : List X) (head : ℕ) (e : length s ≡ n) (h : head ≤ n) where
  -- new items behind those that are there
  pub queued_on : (len at : ℕ) (new : List X) → len + length new ≤ n → at ≡ slot_of n head len → held (around at s new) head (len + length new) ≡ held s head len ++ new
  queued_on len at new l is =
      let inside : at ≤ n = grind (arith, slot_cases n head len) in
      let long : length (around at s new) ≡ n = simp (length-append, length-drop) (omega (arith, length-take-le at s (omega arith), length-take-le (fitting at s new) new (omega arith))) in
      let before : length (held s head len) ≡ len = length_held n s head e h len (omega arith) in
      let after : length (held (around at s new) head (len + length new)) ≡ len + length new = length_held n (around at s new) head long h (len + length new) l in
      same_lists _ _ (after ∙ sym (length-append (held s head len) new ∙ ap (λ y. y + length new) before)) (λ i d m.
      let there : i < len + length new = omega (arith, m, after) in
      let at_len = slot_cases n head len in
      let at_i = slot_cases n head i in
      get_or_held n (around at s new) head long h (len + length new) i d l there ∙ elim (cases_lt i len) [
        | inl v ↦
            around_other at s new (omega arith) (omega arith) (slot_of n head i) d (grind (arith, at_len, at_i))
            (elim (cases_lt (slot_of n head i) at) [ inl w ↦ inl w | inr w ↦ inr (grind (arith, at_len, at_i)) ])
            ∙ sym (get_or_held n s head e h len i d (omega arith) v) ∙ sym (get_or_append_left (held s head len) new d i (omega (arith, before)))
        | inr v ↦ elim (cases_lt (slot_of n head i) (length new - fitting at s new)) [
          | inl w ↦ around_first at s new (omega arith) (omega arith) (slot_of n head i) d w ∙ ap (λ j. get_or new j d) (grind (arith, at_len, at_i))
          | inr w ↦ around_written at s new (omega arith) (omega arith) (slot_of n head i) d w (grind (arith, at_len, at_i)) (grind (arith, at_len, at_i)) ∙ ap (λ j. get_or new j d) (grind (arith, at_len, at_i))
        ] ∙ sym (get_or-append_right (held s head len) new len i d before v)
      ])

  -- without the first k items
  pub held_rest : (len k : ℕ) → len ≤ n → k ≤ len → held s (slot_of n head k) (len - k) ≡ drop k (held s head len)
  held_rest len k l m =
      let at_k = slot_cases n head k in
      let inside : slot_of n head k ≤ n = grind (arith, at_k) in
      let before : length (held s head len) ≡ len = length_held n s head e h len l in
      let after : length (held s (slot_of n head k) (len - k)) ≡ len - k = length_held n s (slot_of n head k) e inside (len - k) (omega arith) in
      same_lists _ _ (after ∙ sym (length-drop k (held s head len) ∙ ap (λ y. y - k) before)) (λ i d o.
      let there : i < len - k = omega (arith, o, after) in
      get_or_held n s (slot_of n head k) e inside (len - k) i d (omega arith) there
      ∙ ap (λ j. get_or s j d) (grind (arith, at_k, slot_cases n (slot_of n head k) i, slot_cases n head (k + i)))
      ∙ sym (get_or-drop k (held s head len) i d ∙ get_or_held n s head e h len (k + i) d l (omega arith)))

  -- with another item in a place
  pub held_set : (len i : ℕ) (x : X) → len ≤ n → i < len → held (set s (slot_of n head i) x) head len ≡ set (held s head len) i x
  held_set len i x l m =
      let long : length (set s (slot_of n head i) x) ≡ n = length-set s (slot_of n head i) x ∙ e in
      let before : length (held s head len) ≡ len = length_held n s head e h len l in
      let after = length_held n (set s (slot_of n head i) x) head long h len l in
      let at_i = slot_cases n head i in
      same_lists _ _ (after ∙ sym (length-set (held s head len) i x ∙ before)) (λ j d o.
      let there : j < len = omega (arith, o, after) in
      let at_j = slot_cases n head j in
      get_or_held n (set s (slot_of n head i) x) head long h len j d l there
      ∙ grind (arith, common_steps, at_i, at_j, before, get_or_held n s head e h len j d l there))

  -- the items in the two parts in which they lie
  pub first_items : (k f : ℕ) → k ≤ n → f ≡ min k (n - head) → held s head k ≡ take f (drop head s) ++ take (k - f) s
  first_items k f l is =
      let near : length (take f (drop head s)) ≡ f = length-take-le f (drop head s) (simp length-drop (omega arith)) in
      let far : length (take (k - f) s) ≡ k - f = length-take-le (k - f) s (omega arith) in
      let before : length (held s head k) ≡ k = length_held n s head e h k l in
      same_lists _ _ (before ∙ sym (length-append (take f (drop head s)) (take (k - f) s) ∙ (let z : length (take f (drop head s)) + length (take (k - f) s) ≡ k = omega (arith, near, far) in z))) (λ i d o.
      let there : i < k = omega (arith, o, before) in
      get_or_held n s head e h k i d l there
      ∙ grind (arith, common_steps, near, far, slot_cases n head i))

-- the code's two copies out of a queue that lies in two parts
pub copied : {X : Type 0} (n f : ℕ) (near far out ps qs rest : List X) → n ≡ length out → f ≡ min n (length near) → n ≤ length (near ++ far) → ps ≡ take f near → qs ≡ take (n - f) far → length rest ≡ 0
    → take f (ps ++ drop f out) ++ (qs ++ rest) ≡ take n (near ++ far)
copied n f near far out ps qs rest e d l p q r =
    let parts : n ≤ length near + length far = omega (arith, l, length-append near far) in
    let first : length ps ≡ f = ap length p ∙ length-take-le f near (omega arith) in
    let long : length (take n (near ++ far)) ≡ n = length-take-le n (near ++ far) l in
    ap (λ y. y ++ (qs ++ rest)) (take_at ps (drop f out) f first)
    ∙ ap (λ y. ps ++ (qs ++ y)) (nil_from_length rest r)
    ∙ ap (λ y. ps ++ y) (append-nil qs)
    ∙ ap (λ y. y ++ qs) p
    ∙ ap (λ y. take f near ++ y) q
    ∙ same_lists _ _ (simp (length-append, length-take) (omega arith)) (λ i x o. grind (arith, common_steps, length-take-le f near (omega arith)))

-- what a call of `next` gives of a list that is yielded
module _ {S A B : Type 0} (steps : S → Option A → S → Type 0) (v : A → B) where
  pub yielded_some : (s j : S) (x : A) (ys : List B) → AlwaysYields steps v s ys → steps s (Some x) j → (rest : List B) × (ys ≡ v x ∷ rest) × AlwaysYields steps v j rest
  yielded_some s j x [] a h = absurd (a x j h)
  yielded_some s j x (y ∷ ys) a h = let n = a.1 x j h in (ys, ap (λ z. z ∷ ys) (sym n.0), n.1)

  pub yielded_none : (s j : S) (ys : List B) → AlwaysYields steps v s ys → steps s None j → ys ≡ []
  yielded_none s j [] a h = refl
  yielded_none s j (y ∷ ys) a h = absurd (a.0 j h)
