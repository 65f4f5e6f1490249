-- Where the cell of a label stands. 01: "Cells stand by level, inside a level by label".
use Rattle.std.specs.Prelude.{ℕ, zero, suc, ◌+◌, ◌-◌, ◌*◌, ◌<◌, ◌≡◌, not, ◌&&◌, cond, [], ◌∷◌, ◌⊎◌, leb, length}
use Rattle.sets.specs.Search.{count}
use Rattle.sets.specs.Sets.{member}
use Rattle.tree.specs.Labels.{Label, occurs}

-- 01: "Level k has (n − 1)(n − 2)…(n − k + 1) places".
unfoldable pub level_size : ℕ → ℕ → ℕ
level_size n zero = 0
level_size n (suc zero) = 1
level_size n (suc (suc k)) = level_size n (suc k) * (n - suc k)

-- The places of the levels before level k.
unfoldable pub level_start : ℕ → ℕ → ℕ
level_start n zero = 0
level_start n (suc k) = level_start n k + level_size n k

-- The cells of a board.
unfoldable pub cell_count : ℕ → ℕ
cell_count n = level_start n (suc n)

-- 01 has levels and cells for n from 1 to 7. The next three are a middle layer: what the code has for any n, 0 outside these.
unfoldable pub size_within : ℕ → ℕ → ℕ
size_within n k = cond (leb 1 n && leb n 7) (level_size n k) 0

unfoldable pub start_within : ℕ → ℕ → ℕ
start_within n k = cond (leb 1 n && leb n 7) (level_start n k) 0

unfoldable pub count_within : ℕ → ℕ
count_within n = cond (leb 1 n && leb n 7) (cell_count n) 0

-- The number of q, from 0, among the children of α: the boards below q that are not on α.
unfoldable pub ordinal : ℕ → Label → ℕ
ordinal q α = count (λ i. not (occurs i α)) q

-- The number of a label, from 0, in its level.
unfoldable pub rank : ℕ → Label → ℕ
rank n [] = 0
rank n (q ∷ []) = 0
rank n (q ∷ (r ∷ α)) = rank n (r ∷ α) * (n - length (r ∷ α)) + ordinal q (r ∷ α)

-- The next two are a middle layer, `ordinal` and `rank` of a child by the set of a node's boards. How many boards below k are outside a set.
unfoldable pub outside_below : ℕ → ℕ → ℕ
outside_below s k = count (λ i. not (member i s)) k

-- The number, in its level, of a node's child by board q. The node is given by its level, its number and the set of its boards.
-- Total: `n - level` is 0 for a level past n, and the numbers below q that are outside the set are counted for any q.
unfoldable pub child_index : ℕ → ℕ → ℕ → ℕ → ℕ → ℕ
child_index n level index s q = index * (n - level) + outside_below s q

-- The place of a label's cell. 01: "Cells stand by level, inside a level by label".
unfoldable pub place : ℕ → Label → ℕ
place n α = level_start n (length α) + rank n α

-- Labels of one level, boards compared as numbers from the left: the first difference decides.
-- The parents are compared first, since they stand to the left of the last board.
abbrev pub Before : Label → Label → Type 0
Before [] β = ⊥
Before (q ∷ α) [] = ⊥
Before (q ∷ α) (r ∷ β) = Before α β ⊎ ((α ≡ β) × (q < r))
