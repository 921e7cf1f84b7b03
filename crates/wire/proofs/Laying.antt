-- Laws of writing a frame over bytes, part by part.
use Rattle.std.proofs.Common.{◌≡◌, ℕ, zero, suc, ◌+◌, ◌-◌, ◌≤◌, List, [], ◌∷◌, ◌++◌, length, take, drop, replicate, Some, None, Option, sym, refl, ap, ◌∙◌, append-nil, arith}
use borrow.Rule.Slice.PartMut.{put_mid}
use Rattle.std.proofs.lemmas.List.{append_assoc, length-append, length-replicate, replicate-append-replicate, drop_all, take_rest}
use Rattle.wire.specs.Frame.{overlay, known, word, block, padding}
use Rattle.wire.proofs.Walk.{length_known}

-- a part of a frame written over bytes from a place on
abbrev pub lay : ℕ → List (Option ℕ) → List ℕ → List ℕ
lay at f bs = overlay (replicate at None ++ f) bs

pub length_overlay : (f : List (Option ℕ)) (p : List ℕ) → length (overlay f p) ≡ length p
length_overlay [] p = refl
length_overlay (x ∷ f) [] = refl
length_overlay (Some b ∷ f) (c ∷ p) = ap suc (length_overlay f p)
length_overlay (None ∷ f) (c ∷ p) = ap suc (length_overlay f p)

-- a part after another
pub overlay_append : (f g : List (Option ℕ)) (p : List ℕ) → overlay (f ++ g) p ≡ overlay (replicate (length f) None ++ g) (overlay f p)
overlay_append [] g p = refl
overlay_append (x ∷ f) g [] = refl
overlay_append (Some b ∷ f) g (c ∷ p) = ap (λ q. b ∷ q) (overlay_append f g p)
overlay_append (None ∷ f) g (c ∷ p) = ap (λ q. c ∷ q) (overlay_append f g p)

overlay_holes : (k : ℕ) (p : List ℕ) → overlay (replicate k None) p ≡ p
overlay_holes zero p = refl
overlay_holes (suc k) [] = refl
overlay_holes (suc k) (c ∷ p) = ap (λ q. c ∷ q) (overlay_holes k p)

overlay_known : (bs p : List ℕ) → length bs ≤ length p → overlay (known bs) p ≡ bs ++ drop (length bs) p
overlay_known [] p h = refl
overlay_known (b ∷ bs) [] h = absurd (let z : suc (length bs) ≤ 0 = h in omega arith)
overlay_known (b ∷ bs) (c ∷ p) h = ap (λ q. b ∷ q) (overlay_known bs p (let z : suc (length bs) ≤ suc (length p) = h in omega arith))

pub lay_append : (at : ℕ) (f g : List (Option ℕ)) (p : List ℕ) → lay at (f ++ g) p ≡ lay (at + length f) g (lay at f p)
lay_append at f g p =
    ap (λ h. overlay h p) (sym (append_assoc (replicate at None) f g))
    ∙ overlay_append (replicate at None ++ f) g p
    ∙ ap (λ n. lay n g (lay at f p)) (length-append (replicate at None) f ∙ ap (λ n. n + length f) (length-replicate at None))

pub lay_holes : (at k : ℕ) (p : List ℕ) → lay at (replicate k None) p ≡ p
lay_holes at k p = ap (λ h. overlay h p) (replicate-append-replicate at k None) ∙ overlay_holes (at + k) p

pub lay_none : (at : ℕ) (p : List ℕ) → lay at [] p ≡ p
lay_none at p = lay_holes at 0 p

pub lay_known : (at : ℕ) (bs p : List ℕ) → at + length bs ≤ length p → lay at (known bs) p ≡ put_mid at (length bs) p bs
lay_known zero bs p h = overlay_known bs p (omega arith)
lay_known (suc at) bs [] h = absurd (let z : suc at + length bs ≤ 0 = h in omega arith)
lay_known (suc at) bs (c ∷ p) h = ap (λ q. c ∷ q) (lay_known at bs p (let z : suc at + length bs ≤ suc (length p) = h in omega arith))

pub length_lay : (at : ℕ) (f : List (Option ℕ)) (p : List ℕ) → length (lay at f p) ≡ length p
length_lay at f p = length_overlay (replicate at None ++ f) p

pub known_append : (bs cs : List ℕ) → known (bs ++ cs) ≡ known bs ++ known cs
known_append [] cs = refl
known_append (b ∷ bs) cs = ap (λ k. Some b ∷ k) (known_append bs cs)

-- a block: its length, its bytes, and nothing over its padding
pub lay_block : (at : ℕ) (bs p : List ℕ) → lay at (block bs) p ≡ lay (at + 4) (known bs) (lay at (known (word (length bs))) p)
lay_block at bs p =
    lay_append at (known (word (length bs))) (known bs ++ replicate (padding (length bs)) None) p
    ∙ lay_append (at + 4) (known bs) (replicate (padding (length bs)) None) (lay at (known (word (length bs))) p)
    ∙ lay_holes (at + 4 + length (known bs)) (padding (length bs)) (lay (at + 4) (known bs) (lay at (known (word (length bs))) p))

-- the code's write of a block: a length, then the bytes, and their end
pub block_laid : (bs end p q : List ℕ) (k₁ k₂ : ℕ) → 4 + (length bs + length end) ≤ length p → k₁ ≡ length bs → k₂ ≡ length end → q ≡ overlay (known (word (length bs + length end))) p
    → put_mid (4 + length bs) k₂ (put_mid 4 k₁ q bs) end ≡ overlay (block (bs ++ end)) p
block_laid bs end p q k₁ k₂ h e₁ e₂ d =
    let d' : q ≡ lay 0 (known (word (length (bs ++ end)))) p = d ∙ ap (λ (n : ℕ). overlay (known (word n)) p) (sym (length-append bs end)) in
    let l : length q ≡ length p = ap length d' ∙ length_lay 0 (known (word (length (bs ++ end)))) p in
    let m : length (lay 4 (known bs) q) ≡ length q = length_lay 4 (known bs) q in
    ap (λ (k : ℕ). put_mid (4 + length bs) k₂ (put_mid 4 k q bs) end) e₁
    ∙ ap (λ (x : List ℕ). put_mid (4 + length bs) k₂ x end) (sym (lay_known 4 bs q (omega arith)))
    ∙ ap (λ (k : ℕ). put_mid (4 + length bs) k (lay 4 (known bs) q) end) e₂
    ∙ sym (lay_known (4 + length bs) end (lay 4 (known bs) q) (omega arith))
    ∙ ap (λ (n : ℕ). lay (4 + n) (known end) (lay 4 (known bs) q)) (sym (length_known bs))
    ∙ sym (lay_append 4 (known bs) (known end) q)
    ∙ ap (λ f. lay 4 f q) (sym (known_append bs end))
    ∙ ap (lay 4 (known (bs ++ end))) d'
    ∙ sym (lay_block 0 (bs ++ end) p)

mid_laid : (at k : ℕ) (f : List (Option ℕ)) (p : List ℕ) → at + k ≡ length p → put_mid at k p (overlay f (drop at p)) ≡ lay at f p
mid_laid zero k f p h = ap (λ r. overlay f p ++ r) (drop_all k p (omega arith)) ∙ append-nil (overlay f p)
mid_laid (suc at) k f [] h = absurd (let z : suc at + k ≡ 0 = h in omega arith)
mid_laid (suc at) k f (c ∷ p) h = ap (λ q. c ∷ q) (mid_laid at k f p (let z : suc at + k ≡ suc (length p) = h in omega arith))

-- the code's write into the part of the bytes from a place on
pub part_laid : (at k : ℕ) (f : List (Option ℕ)) (p q : List ℕ) → at ≤ length p → k ≡ length p - at → q ≡ overlay f (take k (drop at p)) → put_mid at k p q ≡ lay at f p
part_laid at k f p q h e d =
    ap (put_mid at k p) (d ∙ ap (λ (n : ℕ). overlay f (take n (drop at p))) e ∙ ap (overlay f) (take_rest p at)) ∙ mid_laid at k f p (omega arith)
