-- Duplicating the descriptors of a message into the free places, one after another.
use Rattle.std.proofs.Common.{◌≡◌, ℕ, ◌+◌, ◌-◌, ◌<◌, true, List, [], ◌∷◌, ◌++◌, length, drop, set, is_some, Some, None, Ok, Err, Option, Result, sym, refl, ap, ◌∙◌, subst, inl, inr, append-nil, arith, rules}
use Rattle.std.specs.Result.{IsOk}
use Rattle.std.proofs.lemmas.List.{append_assoc, drop_more, length_push, set_at}
use Rattle.std.proofs.lemmas.Bool.{true≢false}
use Rattle.protocol.specs.declared.fd.OwnedFd.{OwnedFd}
use Rattle.protocol.specs.declared.fd.RawFd.{RawFd}
use Rattle.protocol.specs.declared.refusal.Refusal.{Refusal}
use Rattle.book.specs.Files.{Files, Duplicates, file_of, numbers, opened}
use Rattle.book.proofs.Changes.{enters_kept, enters_opened}
use Rattle.wire.specs.Write.{Copied, Placed, dup_failure}
use Rattle.wire.proofs.Copies.{dup_split}

-- all: the numbers of the message, ns: those that are left; any way to duplicate these ends a way to duplicate all
pub record Placing (all : List RawFd) (fs₀ : Files) (old : List OwnedFd) (ns : List RawFd) (fs : Files) (count : ℕ) (places : List OwnedFd) : Type 0 where
  pub rest : count + length ns ≡ length all
  pub can : dup_failure fs₀ (numbers - opened fs) ns ≡ None
  pub kept : (k x : ℕ) → file_of fs₀ k ≡ Some x → file_of fs k ≡ Some x
  pub done : List OwnedFd
  pub counted : length done ≡ count
  pub placed : places ≡ done ++ drop count old
  pub ends : (ms : List OwnedFd) (gs : Files) → Copied fs₀ ns fs ms gs → Copied fs₀ all fs₀ (done ++ ms) gs

some_file : (o : Option ℕ) → is_some o ≡ true → (x : ℕ) × (o ≡ Some x)
some_file None h = absurd (true≢false (sym h))
some_file (Some x) h = (x, refl)

module _ (all : List RawFd) (fs₀ : Files) (old : List OwnedFd) where
  pub placing_none : dup_failure fs₀ (numbers - opened fs₀) all ≡ None → Placing all fs₀ old all fs₀ 0 old
  placing_none h = record { rest = omega arith; can = h; kept = λ k x e. e; done = []; counted = refl; placed = refl; ends = λ ms gs c. c }

  pub placing_same : (ns ns' : List RawFd) (fs : Files) (count : ℕ) (places : List OwnedFd) → ns ≡ ns' → Placing all fs₀ old ns fs count places → Placing all fs₀ old ns' fs count places
  placing_same ns ns' fs count places e p = subst (λ (xs : List RawFd). Placing all fs₀ old xs fs count places) e p

  -- the number in hand is open, and names the same file as the call began
  module _ (n : RawFd) (ns : List RawFd) (fs : Files) (count : ℕ) (places : List OwnedFd) (p : Placing all fs₀ old (n ∷ ns) fs count places) where
    room : (0 < numbers - opened fs) × (dup_failure fs₀ (numbers - opened fs - 1) ns ≡ None)
    room = let s = dup_split fs₀ (numbers - opened fs) n ns p.can in (s.1, s.2)

    named : (x : ℕ) × (file_of fs₀ n.0 ≡ Some x) × (file_of fs n.0 ≡ Some x)
    named = let f = some_file (file_of fs₀ n.0) (dup_split fs₀ (numbers - opened fs) n ns p.can).0 in (f.0, f.1, p.kept n.0 f.0 f.1)

    pub placing_goes : (fs' : Files) (r : Result OwnedFd Refusal) → Duplicates n.0 fs r fs' → IsOk r
    placing_goes fs' (Ok m) d = search rules
    placing_goes fs' (Err why) d = absurd (elim d.0 [
      | inl m ↦ true≢false (ap is_some (sym named.2 ∙ m.1))
      | inr f ↦ (let e = f.2 in let l = room.0 in omega arith)
    ])

    placed_one : (fs' : Files) (m : OwnedFd) → Duplicates n.0 fs (Ok m) fs' → length fs ≡ numbers → count < length old → Placing all fs₀ old ns fs' (count + 1) (set places count m)
    placed_one fs' m d l h =
        let o = enters_opened d.0 m.0 fs fs' l d.2 in
        let left : numbers - opened fs - 1 ≡ numbers - opened fs' = omega arith in
        let file : named.0 ≡ d.0 = (let a = named.2 in let b = d.1 in cc) in
        record {
          rest = omega (arith, p.rest);
          can = subst (λ (k : ℕ). dup_failure fs₀ k ns ≡ None) left room.1;
          kept = λ k x e. enters_kept d.0 m.0 fs fs' d.2 k x (p.kept k x e);
          done = p.done ++ m ∷ [];
          counted = length_push p.done m ∙ ap (λ (k : ℕ). k + 1) p.counted;
          placed =
              ap (λ (x : List OwnedFd). set x count m) (p.placed ∙ ap (λ (y : List OwnedFd). p.done ++ y) (drop_more old count m h))
              ∙ set_at p.done _ (drop (count + 1) old) m count p.counted
              ∙ sym (append_assoc p.done (m ∷ []) (drop (count + 1) old));
          ends = λ ms gs c.
              subst (λ (x : List OwnedFd). Copied fs₀ all fs₀ x gs) (sym (append_assoc p.done (m ∷ []) ms))
              (p.ends (m ∷ ms) gs
              (d.0, named.1 ∙ ap Some file, record { below = d.2.below; unused = d.2.unused; after = refl }, subst (λ (x : Files). Copied fs₀ ns x ms gs) d.2.after c));
        }

    pub placing_more : (fs' : Files) (m : OwnedFd) (at k : ℕ) → Duplicates n.0 fs (Ok m) fs' → length fs ≡ numbers → count < length old → at ≡ count → k ≡ count + 1 → Placing all fs₀ old ns fs' k (set places at m)
    placing_more fs' m at k d l h ea ek = subst (λ (j : ℕ). Placing all fs₀ old ns fs' j (set places at m)) (sym ek) (subst (λ (j : ℕ). Placing all fs₀ old ns fs' (count + 1) (set places j m)) (sym ea) (placed_one fs' m d l h))

  pub placing_all : (fs : Files) (count : ℕ) (places : List OwnedFd) → Placing all fs₀ old [] fs count places → Placed all old fs₀ places fs
  placing_all fs count places p = record {
    duplicates = p.done;
    copied = subst (λ (x : List OwnedFd). Copied fs₀ all fs₀ x fs) (append-nil p.done) (p.ends [] fs refl);
    placed = p.placed ∙ ap (λ (k : ℕ). p.done ++ drop k old) (sym p.counted);
  }
