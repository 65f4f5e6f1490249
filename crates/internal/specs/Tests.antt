-- Which nodes are internal, by their boards. A middle layer: `internal` of crate protocol is the definition.
use Rattle.std.specs.Prelude.{ℕ, Bool, ◌&&◌, List, eqb}
use Rattle.std.specs.Int.Bits.{bit_and}
use Rattle.sets.specs.Structure.{tolerated}
use Rattle.holders.specs.Holders.{holds}
use Rattle.plan.specs.declared.plan.Plan.{Plan}
use Rattle.plan.specs.Listed.{listed}

-- Is a set of boards held, by the table of holders, and without the boards of the set w?
unfoldable pub is_open : List ℕ → ℕ → ℕ → Bool
is_open holders w s = eqb (bit_and s w) 0 && holds holders s

-- The boards that a node is without if it is internal to board i: none, nodes are internal to all boards alike.
unfoldable pub barred : Plan → ℕ → ℕ
barred p i = 0

-- Is a node above level R with the boards s internal to board i? `internal` of crate protocol is the definition, and `internal-is` in
-- proofs/InternalNodes shows that this is it.
unfoldable pub is_internal : Plan → ℕ → ℕ → Bool
is_internal p i s = eqb (bit_and s (barred p i)) 0 && tolerated (listed p) s
