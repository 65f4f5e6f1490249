-- The levels of a plan's tree, and whether it is cut.
use Rattle.std.specs.Prelude.{ℕ, ◌+◌, max, Bool, not, ◌&&◌, cond, List, [], ◌∷◌, eqb, ltb}
use Rattle.sets.specs.Sets.{member, size}
use Rattle.plan.specs.Listed.{listed}
use Rattle.plan.specs.declared.plan.Plan.{Plan}

-- The depth b of the tree.
abbrev pub depth_of : Plan → ℕ
depth_of p = p.depth

-- The size of the largest listed set that holds d; 0 if there is none.
unfoldable pub largest : List ℕ → ℕ → ℕ
largest [] d = 0
largest (s ∷ sets) d = max (cond (member d s) (size s) 0) (largest sets d)

-- 01: "H, the number of levels, is 1 plus the size of the largest tolerated set that holds d, or 1 if there is none."
unfoldable pub height : Plan → ℕ
height p = largest (listed p) p.dealer + 1

-- 01: "If b is not 0 and H > b, the tree is cut".
unfoldable pub is_cut : Plan → Bool
is_cut p = not (eqb (depth_of p) 0) && ltb (depth_of p) (height p)
