-- Laws of bytes that fit a frame.
use Rattle.std.proofs.Common.{◌≡◌, ℕ, zero, suc, ◌^◌, ◌<◌, List, [], ◌∷◌, ◌++◌, length, replicate, Some, None, Option, refl, ap, ◌∙◌, arith}
use Rattle.std.proofs.lemmas.List.{length-replicate}
use Rattle.std.proofs.lemmas.Nat.{from_le_bytes-to_le_bytes_4}
use Rattle.wire.specs.Frame.{Fits, known, word, block, padding}
use Rattle.wire.specs.Read.{word_at}

pub fits_length : (f : List (Option ℕ)) (bs : List ℕ) → Fits f bs → length bs ≡ length f
fits_length [] [] h = refl
fits_length [] (c ∷ bs) h = absurd h
fits_length (x ∷ f) [] h = absurd h
fits_length (Some b ∷ f) (c ∷ bs) h = ap suc (fits_length f bs h.1)
fits_length (None ∷ f) (c ∷ bs) h = ap suc (fits_length f bs h)

pub fits_known : (cs bs : List ℕ) → Fits (known cs) bs → bs ≡ cs
fits_known [] [] h = refl
fits_known [] (b ∷ bs) h = absurd h
fits_known (c ∷ cs) [] h = absurd h
fits_known (c ∷ cs) (b ∷ bs) h = ap (λ x. x ∷ bs) h.0 ∙ ap (λ xs. c ∷ xs) (fits_known cs bs h.1)

pub known_fits : (cs : List ℕ) → Fits (known cs) cs
known_fits [] = tt
known_fits (c ∷ cs) = (refl, known_fits cs)

pub holes_fit : (k : ℕ) (bs : List ℕ) → length bs ≡ k → Fits (replicate k None) bs
holes_fit zero [] h = tt
holes_fit zero (b ∷ bs) h = absurd (let z : suc (length bs) ≡ 0 = h in omega arith)
holes_fit (suc k) [] h = absurd (let z : 0 ≡ suc k = h in omega arith)
holes_fit (suc k) (b ∷ bs) h = holes_fit k bs (let z : suc (length bs) ≡ suc k = h in omega arith)

-- the bytes of two parts
pub record Split (f g : List (Option ℕ)) (bs : List ℕ) : Type 0 where
  pub first : List ℕ
  pub second : List ℕ
  pub whole : bs ≡ first ++ second
  pub fits_first : Fits f first
  pub fits_second : Fits g second

pub fits_split : (f g : List (Option ℕ)) (bs : List ℕ) → Fits (f ++ g) bs → Split f g bs
fits_split [] g bs h = record { first = []; second = bs; whole = refl; fits_first = tt; fits_second = h }
fits_split (x ∷ f) g [] h = absurd h
fits_split (Some b ∷ f) g (c ∷ bs) h =
    let s = fits_split f g bs h.1 in
    record { first = c ∷ s.first; second = s.second; whole = ap (λ xs. c ∷ xs) s.whole; fits_first = (h.0, s.fits_first); fits_second = s.fits_second }
fits_split (None ∷ f) g (c ∷ bs) h =
    let s = fits_split f g bs h in
    record { first = c ∷ s.first; second = s.second; whole = ap (λ xs. c ∷ xs) s.whole; fits_first = s.fits_first; fits_second = s.fits_second }

pub fits_join : (f g : List (Option ℕ)) (bs cs : List ℕ) → Fits f bs → Fits g cs → Fits (f ++ g) (bs ++ cs)
fits_join [] g [] cs h k = k
fits_join [] g (b ∷ bs) cs h k = absurd h
fits_join (x ∷ f) g [] cs h k = absurd h
fits_join (Some a ∷ f) g (b ∷ bs) cs h k = (h.0, fits_join f g bs cs h.1 k)
fits_join (None ∷ f) g (b ∷ bs) cs h k = fits_join f g bs cs h k

-- a word is read as its number
pub word_read : (n : ℕ) (rest : List ℕ) → n < 2 ^ 32 → word_at (word n ++ rest) ≡ n
word_read n rest h = from_le_bytes-to_le_bytes_4 n h

-- the bytes of a block: a length, the bytes, and as many more as its padding
pub record Blocked (bs front : List ℕ) : Type 0 where
  pub pad : List ℕ
  pub bytes : front ≡ word (length bs) ++ (bs ++ pad)
  pub padded : length pad ≡ padding (length bs)

pub fits_block : (bs front : List ℕ) → Fits (block bs) front → Blocked bs front
fits_block bs front h =
    let s = fits_split (known (word (length bs))) (known bs ++ replicate (padding (length bs)) None) front h in
    let t = fits_split (known bs) (replicate (padding (length bs)) None) s.second s.fits_second in
    record {
      pad = t.second;
      bytes = s.whole ∙ ap (λ x. x ++ s.second) (fits_known (word (length bs)) s.first s.fits_first) ∙ ap (λ x. word (length bs) ++ x) (t.whole ∙ ap (λ x. x ++ t.second) (fits_known bs t.first t.fits_first));
      padded = fits_length (replicate (padding (length bs)) None) t.second t.fits_second ∙ length-replicate (padding (length bs)) None;
    }

pub block_fits : (bs pad : List ℕ) → length pad ≡ padding (length bs) → Fits (block bs) (word (length bs) ++ (bs ++ pad))
block_fits bs pad h =
    fits_join (known (word (length bs))) (known bs ++ replicate (padding (length bs)) None) (word (length bs)) (bs ++ pad) (known_fits (word (length bs)))
    (fits_join (known bs) (replicate (padding (length bs)) None) bs pad (known_fits bs) (holes_fit (padding (length bs)) pad h))
