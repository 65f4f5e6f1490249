-- What rule G asks over a list of nodes. A middle layer: `inner` of protocol/Nodes is the definition.
use Rattle.std.specs.Prelude.{ℕ, ◌-◌, ◌≤◌, ◌<◌, ◌≡◌, true, List, length, get_or}
use Rattle.sets.specs.Structure.{tolerated}
use Rattle.plan.specs.declared.plan.Plan.{Plan}
use Rattle.plan.specs.Listed.{listed}
use Rattle.schedule.specs.declared.rounds.Round.{Round}
use Rattle.tree.specs.Labels.{mask}
use Rattle.tree.specs.Places.{cell_count}
use Rattle.frames.specs.Nodes.{Nodes, node_at}

-- Nodes of the level before the round's, whose boards are tolerated.
pub record Scans (p : Plan) (k : Round) (nodes cells : List ℕ) : Type 0 where
  pub later : 2 ≤ k.0
  pub enough : cell_count p.n ≤ length cells
  pub are-nodes : Nodes p (k.0 - 1) nodes
  pub held : (j : ℕ) → j < length nodes → tolerated (listed p) (mask (node_at p (k.0 - 1) (get_or nodes j 0))) ≡ true
