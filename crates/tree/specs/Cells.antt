-- Cells as a map from labels. 01: "Each board except the dealer has one cell a node in a lent buffer."
use Rattle.std.specs.Prelude.{ℕ, List, get_or, set}
use Rattle.tree.specs.Labels.{Label}
use Rattle.tree.specs.Places.{place}

-- The cell of a label; 0 past the end.
unfoldable pub cell_at : ℕ → List ℕ → Label → ℕ
cell_at n cells α = get_or cells (place n α) 0

-- The cells with v at a label.
unfoldable pub store : ℕ → List ℕ → Label → ℕ → List ℕ
store n cells α v = set cells (place n α) v
