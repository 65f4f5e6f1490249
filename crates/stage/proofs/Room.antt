-- The part of a board lies within the cells, by the size that the code has counted.
-- Assumes nothing.
use Prim.Native.Nat.{ℕ, ◌+◌, ◌*◌, ◌≤◌, ◌<◌}
use mathlib.Core.Path.{◌≡◌, sym, subst, ◌∙◌}
use mathlib.Core.List.{List}
use native.Mathlib.Omega.{arith}
use lib.ListN.{length}
use Rattle.tree.specs.Places.{cell_count, count_within}
use Rattle.tree.proofs.Parts.{parts_within}
use Rattle.tree.proofs.Within.{count-within}
use Rattle.sheet.specs.declared.head.Head.{Head}
use Rattle.stage.specs.Stage.{Roomy}

module _ (h : Head) (cells : List ℕ) (r : Roomy h cells) (i c : ℕ) (size : c ≡ count_within h.plan.n) (below : i < h.plan.n) where
  pub count-is : c ≡ cell_count h.plan.n
  count-is = size ∙ count-within h.plan.n (omega arith) r.few

  pub part-inside : i * c + c ≤ length cells
  part-inside =
      let fits = subst (λ x. h.plan.n * x ≤ length cells) (sym count-is) r.room in
      omega (arith, parts_within i h.plan.n c below)
