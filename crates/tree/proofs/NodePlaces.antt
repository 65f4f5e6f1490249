-- Label number i of a level, where its cell stands, and its children by number.
-- Assumes nothing.
use Prim.Native.Nat.{ℕ, zero, suc, ◌+◌, ◌≤◌, ◌<◌}
use mathlib.Core.Path.{◌≡◌, sym, ◌∙◌, ap}
use mathlib.Core.Bool.{false}
use mathlib.Core.List.{◌∷◌, Memᴰ}
use native.Mathlib.Numerals.{add-one}
use native.Mathlib.Omega.{arith}
use Rattle.sets.specs.Sets.{member}
use Rattle.tree.specs.Labels.{Label, occurs, mask, labels, label_at}
use Rattle.tree.specs.Places.{level_size, level_start, cell_count, rank, place, child_index}
use Rattle.tree.proofs.ChildIndex.{child-index}
use Rattle.tree.proofs.Labels.{no_label, label-has}
use Rattle.tree.proofs.Masks.{mask-member}
use Rattle.tree.proofs.Places.{place-split, place-lt, label-level}
use Rattle.tree.proofs.Ranks.{label-mem, get-rank, rank_lt, rank-get}

-- A child of a label of level k, whatever k.
pub child-mem : (n d k c : ℕ) (α : Label) → Memᴰ α (labels n d k) → c < n → occurs c α ≡ false → Memᴰ (c ∷ α) (labels n d (suc k))
child-mem n d zero c α m l a = absurd (no_label n d α m)
child-mem n d (suc k) c α m l a = label-has n d k α c m l a

module _ (n d k i : ℕ) (l : d < n) (h : i < level_size n k) where
  pub at_mem : Memᴰ (label_at n d k i) (labels n d k)
  unfolding label_at
  at_mem = label-mem n d k i l h

  pub at_level : k ≤ n
  at_level = label-level n d k (label_at n d k i) l at_mem

  pub at-rank : rank n (label_at n d k i) ≡ i
  unfolding label_at
  at-rank = get-rank n d k i l h

  pub at_place : place n (label_at n d k i) ≡ level_start n k + i
  at_place = place-split n d k (label_at n d k i) at_mem ∙ ap (λ x. level_start n k + x) at-rank

  pub at_lt : place n (label_at n d k i) < cell_count n
  at_lt = place-lt n d k (label_at n d k i) l at_mem

  -- Its child by board q, which is not on it: s are the boards of the label, and j is the child's number.
  module _ (s q j : ℕ) (e : s ≡ mask (label_at n d k i)) (lq : q < n) (out : member q s ≡ false) (number : j ≡ child_index n k i s q) where
    abbrev α : Label
    α = label_at n d k i

    pub child-absent : occurs q (label_at n d k i) ≡ false
    child-absent = sym (mask-member q α) ∙ ap (member q) (sym e) ∙ out

    child-there : Memᴰ (q ∷ α) (labels n d (suc k))
    child-there = child-mem n d k q α at_mem lq child-absent

    child-rank : j ≡ rank n (q ∷ α)
    child-rank =
        number
        ∙ ap (λ x. child_index n k i x q) e
        ∙ ap (λ x. child_index n k x (mask α) q) (sym at-rank)
        ∙ child-index n d k α q at_mem

    pub child-inside : j < level_size n (k + 1)
    child-inside =
        let z : level_size n (k + 1) ≡ level_size n (suc k) = ap (level_size n) (add-one k) in
        omega (arith, z, child-rank, rank_lt n d (suc k) (q ∷ α) l child-there)

    pub child-label : label_at n d (k + 1) j ≡ q ∷ label_at n d k i
    unfolding label_at
    child-label =
        ap (λ x. label_at n d (k + 1) x) child-rank
        ∙ ap (λ x. label_at n d x (rank n (q ∷ α))) (add-one k)
        ∙ rank-get n d (suc k) (q ∷ α) l child-there
