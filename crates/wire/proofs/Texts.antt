-- Records whose text is good take as many bytes as their values.
use Rattle.std.proofs.Common.{◌≡◌, ℕ, ◌+◌, ◌<◌, ◌≤◌, true, List, [], ◌∷◌, ◌++◌, map, length, get_or, drop, sym, refl, ap, ◌∙◌, arith}
use Rattle.std.proofs.lemmas.List.{length-append, length-take, length-drop, drop_more, drop_all}
use Rattle.std.proofs.lemmas.Bool.{and_parts, leb-true}
use Rattle.protocol.specs.declared.argument.Argument.{Argument}
use Rattle.protocol.specs.declared.argument.Argument.TheVariants as arg
use Rattle.protocol.specs.declared.argument.Text.{Text}
use Rattle.wire.specs.Values.{descriptors, carried}
use Rattle.wire.specs.Frame.{field, fields, overlay}
use Rattle.wire.specs.Records.{block_length, bytes_of, inside, field_length, fields_length, value_of, carried_by, numbers_in}
use Rattle.wire.specs.Write.{good_text, good_texts}
use Rattle.wire.specs.Laws.{AllCarry, Carries}
use Rattle.wire.proofs.Walk.{length_block}
use Rattle.wire.proofs.Laying.{lay, lay_append, lay_none}

length_inside : (bs : List ℕ) (t : Text) → inside (length bs) t ≡ true → length (bytes_of bs t) ≡ t.len
length_inside bs t h = let l = leb-true _ _ h in simp (length-take, length-drop) (omega arith)

pub good_length : {X : Type 0} (bs : List ℕ) (a : Argument X) → good_text bs a ≡ true → length (field (value_of bs a)) ≡ field_length a
good_length bs (arg.Int z) h = refl
good_length bs (arg.Uint n) h = refl
good_length bs (arg.Fixed z) h = refl
good_length bs (arg.Str t) h =
    length_block (bytes_of bs t ++ 0 ∷ [])
    ∙ ap block_length (length-append (bytes_of bs t) (0 ∷ []) ∙ ap (λ n. n + 1) (length_inside bs t (and_parts _ _ h).0))
good_length bs arg.NullStr h = refl
good_length bs (arg.Object n) h = refl
good_length bs (arg.NewId n) h = refl
good_length bs (arg.Array t) h = length_block (bytes_of bs t) ∙ ap block_length (length_inside bs t h)
good_length bs (arg.Fd x) h = refl

pub good_lengths : {X : Type 0} (bs : List ℕ) (xs : List (Argument X)) → good_texts bs xs ≡ true → length (fields (map (value_of bs) xs)) ≡ fields_length xs
good_lengths bs [] h = refl
good_lengths bs (a ∷ xs) h =
    let p = and_parts _ _ h in
    length-append (field (value_of bs a)) (fields (map (value_of bs) xs))
    ∙ ap (λ n. n + length (fields (map (value_of bs) xs))) (good_length bs a p.0)
    ∙ ap (λ n. field_length a + n) (good_lengths bs xs p.1)

value_carries : {X : Type 0} (bs : List ℕ) (a : Argument X) → carried (value_of bs a) ≡ carried_by a
value_carries bs (arg.Int z) = refl
value_carries bs (arg.Uint n) = refl
value_carries bs (arg.Fixed z) = refl
value_carries bs (arg.Str t) = refl
value_carries bs arg.NullStr = refl
value_carries bs (arg.Object n) = refl
value_carries bs (arg.NewId n) = refl
value_carries bs (arg.Array t) = refl
value_carries bs (arg.Fd x) = refl

-- the descriptors of the records are those of the values
pub descriptors_are : {X : Type 0} (bs : List ℕ) (xs : List (Argument X)) → descriptors (map (value_of bs) xs) ≡ numbers_in xs
descriptors_are bs [] = refl
descriptors_are bs (a ∷ xs) = ap (λ c. c ++ descriptors (map (value_of bs) xs)) (value_carries bs a) ∙ ap (λ d. carried_by a ++ d) (descriptors_are bs xs)

-- after i records: what is left, laid from here on, gives the whole
pub record Laid {X : Type 0} (bs : List ℕ) (xs : List (Argument X)) (old : List ℕ) (i at : ℕ) (p : List ℕ) : Type 0 where
  pub good : good_texts bs (drop i xs) ≡ true
  pub place : at + fields_length (drop i xs) ≡ fields_length xs
  pub bytes : lay at (fields (map (value_of bs) (drop i xs))) p ≡ overlay (fields (map (value_of bs) xs)) old
  pub carry : AllCarry (map (value_of bs) (drop i xs)) → AllCarry (map (value_of bs) xs)

module _ {X : Type 0} (bs : List ℕ) (xs : List (Argument X)) (old : List ℕ) where
  pub laid_none : good_texts bs xs ≡ true → Laid bs xs old 0 0 old
  laid_none g = record { good = g; place = omega arith; bytes = refl; carry = λ c. c }

  module _ (i at : ℕ) (p : List ℕ) (w : Laid bs xs old i at p) where
    -- the record in hand: its text is good, and its field is there
    pub laid_here : (d : Argument X) → i < length xs → (good_text bs (get_or xs i d) ≡ true) × (at + (field_length (get_or xs i d) + fields_length (drop (i + 1) xs)) ≡ fields_length xs)
    laid_here d h = let l = ap fields_length (drop_more xs i d h) in let e = w.place in ((and_parts _ _ (rw (drop_more xs i d h) at w.good)).0, omega arith)

    pub laid_more : (d : Argument X) (n : ℕ) (q : List ℕ) → i < length xs → n ≡ field_length (get_or xs i d) → q ≡ lay at (field (value_of bs (get_or xs i d))) p → Carries (value_of bs (get_or xs i d)) → Laid bs xs old (i + 1) (at + n) q
    laid_more d n q h en eq c =
        let g = and_parts _ _ (rw (drop_more xs i d h) at w.good) in
        let l = (laid_here d h).1 in
        record {
          good = g.1;
          place = omega arith;
          bytes =
              ap (lay (at + n) (fields (map (value_of bs) (drop (i + 1) xs)))) eq
              ∙ ap (λ k. lay (at + k) (fields (map (value_of bs) (drop (i + 1) xs))) (lay at (field (value_of bs (get_or xs i d))) p)) (en ∙ sym (good_length bs (get_or xs i d) g.0))
              ∙ sym (lay_append at (field (value_of bs (get_or xs i d))) (fields (map (value_of bs) (drop (i + 1) xs))) p)
              ∙ rw (drop_more xs i d h) at w.bytes;
          carry = λ r. w.carry (rw (drop_more xs i d h) (c, r));
        }

    pub laid_all : length xs ≤ i → (p ≡ overlay (fields (map (value_of bs) xs)) old) × AllCarry (map (value_of bs) xs)
    laid_all h = (sym (lay_none at p) ∙ rw (drop_all i xs h) at w.bytes, w.carry (rw (drop_all i xs h) tt))
