-- The turns of a ring, over its three rows: bytes, counts and duplicates.
use Rattle.std.proofs.Common.{◌≡◌, ℕ, zero, suc, ◌+◌, ◌-◌, ◌<◌, ◌≤◌, ltb, List, [], ◌∷◌, ◌++◌, length, take, drop, replicate, sum, sym, ap, ◌∙◌, subst, inl, inr, arith}
use Rattle.std.proofs.lemmas.List.{length-append, length-drop, length-take-le, take-append-drop}
use Rattle.std.proofs.lemmas.List.Sums.{sum_by-take-le}
use Rattle.std.proofs.lemmas.Bool.{cases_Bool, cond-true, cond-false, ltb-false, lt-ltb, le-ltb}
use Rattle.protocol.specs.Limits.{limits}
use Rattle.protocol.specs.declared.fd.OwnedFd.{OwnedFd}
use Rattle.protocol.specs.declared.limits.Limits.{Limits}
use Rattle.line.specs.Choices.{Gone}
use Rattle.line.specs.Checks.{Receivable}
use Rattle.line.specs.Line.{Cell, cells_of, fds_of, MayGive}
use Rattle.line.specs.Marks.{CountsTaken}
use Rattle.line.specs.declared.share.Share.{Share}
use Rattle.line.specs.Counted.{fd_counts, cells_from, most}
use Rattle.line.specs.Sizes.{ring_bytes, ring_fds}
use Rattle.line.specs.Ring.{ring_window, ring_gives, ring_choices}
use Rattle.line.proofs.Most.{sum_append, most_next}
use Rattle.line.proofs.Counting.{length_from, bytes_take, fds_take, drop_from, append_from, counts_from, from_send, fds_from}

-- a window that takes n bytes has room for them and for the duplicates of a send
pub window_open : (lim : Limits) (cells : List Cell) (n : ℕ) → 0 < n → n ≤ ring_window lim cells → (lim.descriptors ≤ ring_fds - length (fds_of cells)) × (n ≤ ring_bytes - length cells)
window_open lim cells n h l = elim (cases_Bool (ltb (ring_fds - length (fds_of cells)) lim.descriptors)) [
  | inl t ↦ absurd (omega (arith, cond-true (ltb (ring_fds - length (fds_of cells)) lim.descriptors) 0 (ring_bytes - length cells) t))
  | inr t ↦ (ltb-false (ring_fds - length (fds_of cells)) lim.descriptors t, omega (arith, cond-false (ltb (ring_fds - length (fds_of cells)) lim.descriptors) 0 (ring_bytes - length cells) t))
]

-- a ring's three rows: the bytes, how many duplicates each carries, and the duplicates
module _ (bs ks : List ℕ) (fs : List OwnedFd) (l : length ks ≡ length bs) (t : sum ks ≡ length fs) where
  abbrev pub cells : List Cell
  cells = cells_from bs ks fs

  fds_length : length (fds_of cells) ≡ length fs
  fds_length = ap length (fds_from bs ks fs l t)

  pub window_none : (all : List Cell) → cells ≡ all → ring_fds - length fs < limits.descriptors → 0 ≡ ring_window limits all
  window_none all e h = sym (cond-true _ _ _ (lt-ltb (ring_fds - length (fds_of cells)) limits.descriptors (omega (arith, h, fds_length)))) ∙ ap (ring_window limits) e

  pub window_some : (all : List Cell) → cells ≡ all → limits.descriptors ≤ ring_fds - length fs → ring_bytes - length bs ≡ ring_window limits all
  window_some all e h =
      ap (λ n. ring_bytes - n) (sym (length_from bs ks fs))
      ∙ sym (cond-false _ _ _ (le-ltb (ring_fds - length (fds_of cells)) limits.descriptors (omega (arith, h, fds_length))))
      ∙ ap (ring_window limits) e

  -- a window that takes bytes: room for them, and for the duplicates of a send
  pub bytes_room : (all : List Cell) → cells ≡ all → (n : ℕ) → 0 < n → n ≤ ring_window limits all → length bs + n ≤ ring_bytes
  bytes_room all e n h m = omega (arith, (window_open limits cells n h (omega (arith, m, ap (ring_window limits) e))).1, h, length_from bs ks fs)

  pub fds_room : (all : List Cell) → cells ≡ all → (n : ℕ) → 0 < n → n ≤ ring_window limits all → length fs + limits.descriptors ≤ ring_fds
  fds_room all e n h m = omega (arith, (window_open limits cells n h (omega (arith, m, ap (ring_window limits) e))).0, fds_length)

  -- a send goes behind what is there
  module _ (new : List ℕ) (nf : List OwnedFd) (h : 0 < length new) (bs' ks' : List ℕ) (fs' : List OwnedFd)
      (eb : bs' ≡ bs ++ new) (ek : ks' ≡ ks ++ (length nf ∷ replicate (length new - 1) 0)) (ef : fs' ≡ fs ++ nf) where
    pub put_cells : cells_from bs' ks' fs' ≡ cells ++ cells_of new nf
    put_cells =
        ap (λ y. cells_from y ks' fs') eb ∙ ap (λ y. cells_from (bs ++ new) y fs') ek ∙ ap (cells_from (bs ++ new) (ks ++ (length nf ∷ replicate (length new - 1) 0))) ef
        ∙ append_from bs new ks (length nf ∷ replicate (length new - 1) 0) fs nf l t
        ∙ ap (λ y. cells ++ y) (from_send new nf h)

  -- the first cells are gone, with the duplicates on them: they went to the front of the caller's buffers
  module _ (lim : Limits) (all : List Cell) (e : cells ≡ all) (out : List ℕ) (fout : List OwnedFd) (r : Receivable lim (length all) (length out) (length fout)) (share : Share) (ks' : List ℕ) (taken : CountsTaken lim.descriptors (length out) ks share ks')
      (bs' : List ℕ) (fs' : List OwnedFd) (eb : bs' ≡ drop (length (take share.bytes out)) bs) (ef : fs' ≡ drop (length (take share.fds fout)) fs) where
    bytes_long : length (take share.bytes out) ≡ share.bytes
    bytes_long = length-take-le share.bytes out taken.wanted

    fds_long : length (take share.fds fout) ≡ share.fds
    fds_long = length-take-le share.fds fout (omega (arith, taken.few, r.1))

    fds_there : share.fds ≤ length fs
    fds_there = omega (arith, taken.fds, sum_by-take-le (λ x. x) ks share.bytes)

    bytes_left : bs' ≡ drop share.bytes bs
    bytes_left = eb ∙ ap (λ n. drop n bs) bytes_long

    fds_left : fs' ≡ drop share.fds fs
    fds_left = ef ∙ ap (λ n. drop n fs) fds_long

    pub give_counts : length ks' ≡ length bs'
    give_counts = ap length taken.after ∙ length-drop share.bytes ks ∙ ap (λ y. y - share.bytes) l ∙ sym (ap length bytes_left ∙ length-drop share.bytes bs)

    pub give_sum : sum ks' ≡ length fs'
    give_sum =
        ap sum taken.after
        ∙ (let z : sum (drop share.bytes ks) ≡ length fs - share.fds = omega (arith, taken.fds, sum_append (take share.bytes ks) (drop share.bytes ks), ap sum (take-append-drop share.bytes ks)) in z)
        ∙ sym (ap length fds_left ∙ length-drop share.fds fs)

    give_cells : cells_from bs' ks' fs' ≡ drop share.bytes cells
    give_cells =
        ap (λ y. cells_from y ks' fs') bytes_left ∙ ap (λ y. cells_from (drop share.bytes bs) y fs') taken.after ∙ ap (cells_from (drop share.bytes bs) (drop share.bytes ks)) (fds_left ∙ ap (λ y. drop y fs) taken.fds)
        ∙ sym (drop_from share.bytes bs ks fs l)

    given : fds_of (take share.bytes cells) ≡ take share.fds fs
    given = fds_take share.bytes bs ks fs l ∙ ap (λ y. take y fs) (sym taken.fds)

    gone_here : (ps : List ℕ) (qs : List OwnedFd) → ps ≡ take (length (take share.bytes out)) bs → qs ≡ take (length (take share.fds fout)) fs
        → Gone lim (ring_choices lim) cells out fout share.bytes share.fds (ps ++ drop share.bytes out) (qs ++ drop share.fds fout) (cells_from bs' ks' fs')
    gone_here ps qs p q = record {
      chosen = taken.bytes ∙ ap (most lim.descriptors (length out)) (sym (counts_from bs ks fs l (omega arith)));
      may = record {
        some = taken.some r.0 (omega (arith, r.2, ap length e, length_from bs ks fs));
        wanted = taken.wanted;
        there = omega (arith, taken.there, length_from bs ks fs);
        few = omega (arith, taken.few, ap length given, length-take-le share.fds fs fds_there);
      };
      count = sym (ap length given ∙ length-take-le share.fds fs fds_there);
      bytes = ap (λ y. y ++ drop share.bytes out) (p ∙ ap (λ n. take n bs) bytes_long ∙ sym (bytes_take share.bytes bs ks fs));
      fds = ap (λ y. y ++ drop share.fds fout) (q ∙ ap (λ n. take n fs) fds_long ∙ sym given);
      rest = give_cells;
    }

    pub gone : (ps : List ℕ) (qs : List OwnedFd) → ps ≡ take (length (take share.bytes out)) bs → qs ≡ take (length (take share.fds fout)) fs
        → Gone lim (ring_choices lim) all out fout share.bytes share.fds (ps ++ drop share.bytes out) (qs ++ drop share.fds fout) (cells_from bs' ks' fs')
    gone ps qs p q =
        subst (λ y. Gone lim (ring_choices lim) y out fout share.bytes share.fds (ps ++ drop share.bytes out) (qs ++ drop share.fds fout) (cells_from bs' ks' fs')) e (gone_here ps qs p q)

-- a ring never could give more than it gives
gives_largest : (cells : List Cell) (d asked n : ℕ) → n ≤ asked → n ≤ length cells → length (fds_of (take n cells)) ≤ d → n ≤ most d asked (fd_counts cells)
gives_largest cells d asked zero a l f = omega arith
gives_largest [] d asked (suc n) a l f = absurd (let z : suc n ≤ 0 = l in omega arith)
gives_largest (c ∷ cells) d asked (suc n) a l f =
    let sum = length-append c.fds (fds_of (take n cells)) in
    let z : suc n ≤ suc (length cells) = l in
    let rest = gives_largest cells (d - length c.fds) (asked - 1) n (omega arith) (omega arith) (omega arith) in
    omega (arith, most_next d asked (length c.fds) (fd_counts cells) (omega arith) (omega arith))

pub gives_most : (lim : Limits) (cells : List Cell) (asked n : ℕ) → n ≡ ring_gives lim asked cells → (m : ℕ) → MayGive lim cells asked m → m ≤ n
gives_most lim cells asked n e m may = omega (arith, gives_largest cells lim.descriptors asked m may.wanted may.there may.few)
