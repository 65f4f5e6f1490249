-- Where the cells of a level's labels and of their children stand, as the code reckons them.
-- Assumes nothing.
use Prim.Native.Nat.{ℕ, suc, ◌+◌, ◌≤◌, ◌<◌}
use mathlib.Core.Path.{◌≡◌, sym, ◌∙◌, ap}
use mathlib.Core.Bool.{false}
use mathlib.Core.List.{List, ◌∷◌}
use native.Mathlib.Omega.{arith}
use lib.ListN.{length, get_or}
use Rattle.plan.specs.declared.plan.Plan.{Plan}
use Rattle.plan.specs.Values.{value}
use Rattle.tree.specs.Labels.{Label, occurs, mask, label_at}
use Rattle.tree.specs.Places.{level_size, level_start, cell_count, rank, place, child_index, start_within}
use Rattle.tree.specs.Cells.{cell_at}
use Rattle.tree.proofs.ChildIndex.{child-index}
use Rattle.tree.proofs.Labels.{label-length}
use Rattle.tree.proofs.NodePlaces.{child-mem, at_mem, at-rank, at_place}
use Rattle.tree.proofs.Places.{place-lt}
use Rattle.tree.proofs.Within.{start-within}
use Rattle.protocol.specs.Nodes.{read}

-- Label number i of level k.
module _ (n d k i : ℕ) (l : d < n) (h : i < level_size n k) where
  pub at_sum : (start : ℕ) → 0 < n → n ≤ 7 → start ≡ start_within n k → start + i ≡ place n (label_at n d k i)
  at_sum start p m e = ap (λ x. x + i) (e ∙ start-within n k p m) ∙ sym (at_place n d k i l h)

  -- Its child by board q.
  child-at : (q : ℕ) → place n (q ∷ label_at n d k i) ≡ level_start n (k + 1) + child_index n k i (mask (label_at n d k i)) q
  unfolding place
  child-at q =
      let α = label_at n d k i in
      let m = at_mem n d k i l h in
      ap (λ x. level_start n x + rank n (q ∷ α)) (let z : suc (length α) ≡ k + 1 = omega (arith, label-length n d k α m) in z)
      ∙ ap (λ x. level_start n (k + 1) + x) (sym (ap (λ x. child_index n k x (mask α) q) (sym (at-rank n d k i l h)) ∙ child-index n d k α q m))

  pub child-lt : (q m : ℕ) → q < n → occurs q (label_at n d k i) ≡ false → cell_count n ≤ m → place n (q ∷ label_at n d k i) < m
  child-lt q m lq a room =
      let α = label_at n d k i in
      omega (arith, place-lt n d (suc k) (q ∷ α) l (child-mem n d k q α (at_mem n d k i l h) lq a))

  pub child-sum : (s q start j : ℕ) → 0 < n → n ≤ 7 → s ≡ mask (label_at n d k i) → start ≡ start_within n (k + 1) → j ≡ child_index n k i s q
      → start + j ≡ place n (q ∷ label_at n d k i)
  child-sum s q start j p m e a b =
      let x : start ≡ level_start n (k + 1) = a ∙ start-within n (k + 1) p m in
      let y : j ≡ child_index n k i (mask (label_at n d k i)) q = b ∙ ap (λ z. child_index n k i z q) e in
      rw (x, y) (sym (child-at q))

pub read-place : (p : Plan) (cells : List ℕ) (α : Label) (i : ℕ) → i ≡ place p.n α → value p (get_or cells i 0) ≡ read p cells α
unfolding read cell_at
read-place p cells α i e = ap (λ j. value p (get_or cells j 0)) e
