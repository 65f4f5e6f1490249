-- Nodes, and what a board sends in a round.
use Rattle.std.specs.Prelude.{ℕ, zero, suc, ◌-◌, Bool, not, ◌&&◌, cond, List, [], ◌∷◌, map, eqb, ltb, length}
use Rattle.sets.specs.Structure.{tolerated}
use Rattle.plan.specs.declared.plan.Plan.{Plan}
use Rattle.plan.specs.Listed.{listed}
use Rattle.plan.specs.Values.{value}
use Rattle.schedule.specs.declared.rounds.Round.{Round}
use Rattle.schedule.specs.Schedule.{rounds}
use Rattle.tree.specs.Labels.{Label, occurs, mask, children_of}
use Rattle.tree.specs.Cells.{cell_at}

-- The value of a label's cell.
unfoldable pub read : Plan → List ℕ → Label → ℕ
read p cells α = value p (cell_at p.n cells α)

unfoldable pub filter : (Label → Bool) → List Label → List Label
filter f [] = []
filter f (α ∷ αs) = let rest = filter f αs in cond (f α) (α ∷ rest) rest

-- 01: "It is internal if its boards form a tolerated set, else a leaf"; nodes at level R are leaves.
-- Nodes are those of board i; here they are the same for all boards.
unfoldable pub internal : Plan → ℕ → Label → Bool
internal p i α = tolerated (listed p) (mask α) && ltb (length α) (rounds p).0

-- The nodes of level k, in cell order: the root, and the children of internal nodes. 01: "An internal node has one child for each board not
-- in it."
unfoldable pub nodes : Plan → ℕ → ℕ → List Label
nodes p i zero = []
nodes p i (suc zero) = (p.dealer ∷ []) ∷ []
nodes p i (suc (suc k)) = children_of p.n (filter (internal p i) (nodes p i (suc k)))

-- The internal nodes of level k, in cell order. 01: "It is internal if its boards form a tolerated set".
unfoldable pub inner : Plan → ℕ → ℕ → List Label
inner p i k = filter (internal p i) (nodes p i k)

-- 01: "the cells of all internal nodes of level k − 1 without q, in cell order". Here k is the level itself, and the nodes are those of board i.
unfoldable pub carried : Plan → ℕ → ℕ → ℕ → List Label
carried p q i k = filter (λ α. not (occurs q α)) (inner p i k)

-- 01: "In round k > 1 board q sends each other board that keeps cells the cells of all internal nodes of level k − 1 without q,
-- in cell order". In round 1 the dealer sends one value, for the empty label, whose child by the dealer is the root.
unfoldable pub sent : Plan → ℕ → ℕ → Round → List Label
sent p q i k = cond (eqb k.0 1) (cond (eqb q p.dealer) ([] ∷ []) []) (carried p q i (k.0 - 1))

-- 01: "A frame is due only if it holds at least one byte." From board q to board i, which keeps cells, in round k.
unfoldable pub due : Plan → ℕ → ℕ → Round → Bool
due p q i k = (ltb q p.n && ltb i p.n) && (not (eqb q i) && (not (eqb i p.dealer) && ltb 0 (length (sent p q i k))))

-- The frame that board q sends board i in round k. 01: "sends .. the cells of all internal nodes .. in cell order".
unfoldable pub frame : Plan → ℕ → ℕ → Round → List ℕ → List ℕ
frame p q i k cells = map (read p cells) (sent p q i k)
