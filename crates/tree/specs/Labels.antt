-- Labels of nodes. 01: "A node is a list of different boards that starts with d. Its level is its length."
-- A label is kept with its LAST board first: q ∷ α is child q of α, and the dealer stands at the end.
use Rattle.std.specs.Prelude.{ℕ, zero, suc, Bool, false, ◌||◌, cond, List, [], ◌∷◌, ◌++◌, eqb, get_or}
use Rattle.sets.specs.Sets.{insert}

abbrev pub Label : Type 0
Label = List ℕ

-- Is board i on the label?
unfoldable pub occurs : ℕ → Label → Bool
occurs i [] = false
occurs i (q ∷ α) = eqb i q || occurs i α

-- The boards of a label as a set.
unfoldable pub mask : Label → ℕ
mask [] = 0
mask (q ∷ α) = insert q (mask α)

-- The last board of a label. 003: the node's corresponding player.
unfoldable pub last : Label → ℕ
last [] = 0
last (q ∷ α) = q

-- The children of α by the boards i to i + k - 1, rising.
unfoldable pub children_from : Label → ℕ → ℕ → List Label
children_from α i zero = []
children_from α i (suc k) = let rest = children_from α (suc i) k in cond (occurs i α) rest ((i ∷ α) ∷ rest)

-- 01: "An internal node has one child for each board not in it."
unfoldable pub children : ℕ → Label → List Label
children n α = children_from α 0 n

unfoldable pub children_of : ℕ → List Label → List Label
children_of n [] = []
children_of n (α ∷ αs) = children n α ++ children_of n αs

-- All labels of level k, in cell order. 01: "inside a level by label, boards compared as numbers from the left".
unfoldable pub labels : ℕ → ℕ → ℕ → List Label
labels n d zero = []
labels n d (suc zero) = (d ∷ []) ∷ []
labels n d (suc (suc k)) = children_of n (labels n d (suc k))

-- Label number i, from 0, of level k; none, so [], at or past the level's size.
unfoldable pub label_at : ℕ → ℕ → ℕ → ℕ → Label
label_at n d k i = get_or (labels n d k) i []
