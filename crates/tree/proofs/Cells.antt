-- Which cell is the root's, and reading a cell after one was written.
-- Assumes nothing.
use Prim.Native.Nat.{ℕ, ◌≤◌, ◌<◌}
use mathlib.Core.Path.{◌≡◌, ap}
use mathlib.Core.Logic.{◌≢◌}
use mathlib.Core.List.{List, [], ◌∷◌, Memᴰ}
use native.Mathlib.Omega.{arith}
use lib.ListN.{length, get_or, length-set}
use lib.Seq.{get_or-set_same, get_or-set_other}
use Rattle.tree.specs.Labels.{Label, labels}
use Rattle.tree.specs.Places.{cell_count, place}
use Rattle.tree.specs.Cells.{cell_at, store}
use Rattle.tree.proofs.Places.{place-lt, root-place, place-injective}

-- The root's cell is the first.
pub root-cell : (n d : ℕ) (cells : List ℕ) → cell_at n cells (d ∷ []) ≡ get_or cells 0 0
unfolding cell_at
root-cell n d cells = ap (λ x. get_or cells x 0) (root-place n d)

pub store_length : (n : ℕ) (cells : List ℕ) (α : Label) (v : ℕ) → length (store n cells α v) ≡ length cells
unfolding store
store_length n cells α v = length-set cells (place n α) v

-- The cell that was written has what was written.
pub store_same : (n d k : ℕ) (cells : List ℕ) (α : Label) (v : ℕ) → d < n → cell_count n ≤ length cells → Memᴰ α (labels n d k)
    → cell_at n (store n cells α v) α ≡ v
unfolding cell_at store
store_same n d k cells α v l h m =
    get_or-set_same cells (place n α) v 0 (omega (arith, place-lt n d k α l m))

-- Every other cell has what it had.
pub store_other : (n d a b : ℕ) (cells : List ℕ) (α β : Label) (v : ℕ) → d < n → Memᴰ α (labels n d a) → Memᴰ β (labels n d b) → β ≢ α
    → cell_at n (store n cells α v) β ≡ cell_at n cells β
unfolding cell_at store
store_other n d a b cells α β v l m w ne =
    get_or-set_other cells (place n α) (place n β) v 0 (λ e. ne (place-injective n d b a β α l w m e))
