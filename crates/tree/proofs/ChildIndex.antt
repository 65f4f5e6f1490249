-- The number of a child, from the node's level, number and mask.
-- Assumes nothing.
use Prim.Native.Nat.{ℕ, zero, suc, ◌+◌, ◌-◌, ◌*◌}
use mathlib.Core.Path.{◌≡◌, sym, ◌∙◌, ap}
use mathlib.Core.List.{◌∷◌, Memᴰ}
use Rattle.tree.specs.Labels.{Label, mask, labels}
use Rattle.tree.specs.Places.{rank, child_index}
use Rattle.tree.proofs.Labels.{no_label, label-length}
use Rattle.tree.proofs.Boards.{ordinal-outside}
use Rattle.tree.proofs.Ranks.{rank-child}

-- For a label of level k and any board it is the rank of the longer list: that of the child, if the board is below n and not on the label.
pub child-index : (n d k : ℕ) (α : Label) (q : ℕ) → Memᴰ α (labels n d k) → child_index n k (rank n α) (mask α) q ≡ rank n (q ∷ α)
unfolding child_index
child-index n d zero α q m = absurd (no_label n d α m)
child-index n d (suc k) α q m =
    ap (λ x. rank n α * (n - suc k) + x) (ordinal-outside q α) ∙ sym (rank-child n k q α (label-length n d (suc k) α m))
