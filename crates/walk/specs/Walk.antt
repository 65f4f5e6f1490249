-- The walk that lists the nodes of a level. A middle layer: `carried` and `inner` of crate protocol are the definitions, and
-- proofs/Carried and proofs/Numbers show that the walk lists their nodes.
use Rattle.std.specs.Prelude.{ℕ, zero, suc, ◌+◌, ◌*◌, ◌^◌, Bool, cond, ltb}
use mathlib.Core.List.{List, [], ◌∷◌, ◌++◌, flat_map}
use Rattle.sets.specs.Sets.{member, insert}
use Rattle.tree.specs.Labels.{Label, children}
use Rattle.internal.specs.Numbers.{pack}

-- The labels `left` levels below α that are reached by labels that pass the test alone, in cell order.
unfoldable pub below : (Label → Bool) → ℕ → ℕ → Label → List Label
below f n zero α = cond (f α) (α ∷ []) []
below f n (suc left) α = cond (f α) (flat_map (below f n left) (children n α)) []

-- The same on numbers, as the code goes.

-- The set of board q alone; empty if a byte has no such board.
unfoldable pub single : ℕ → ℕ
single q = cond (ltb q 8) (2 ^ q) 0

-- What f says of the children of a node with the boards s, by the boards c, c + 1, .., k in all; i is the number of the first.
unfoldable pub kids : (ℕ → ℕ → ℕ → List ℕ) → ℕ → ℕ → ℕ → ℕ → List ℕ
kids f s i zero c = []
kids f s i (suc k) c = cond (member c s) (kids f s i k (suc c)) (f i c (insert c s) ++ kids f s (suc i) k (suc c))

-- The nodes `left` levels below a node, as numbers. A node has `spare` + `left` children.
unfoldable pub walked : (ℕ → Bool) → ℕ → ℕ → ℕ → ℕ → ℕ → ℕ → List ℕ
walked test n spare zero index last s = cond (test s) (pack index last s ∷ []) []
walked test n spare (suc left) index last s = cond (test s) (kids (walked test n spare left) s (index * (spare + suc left)) n 0) []
