-- What rule G asks at a node, and what its children are worth by their cells. A middle layer: `by_cell` of protocol/Detection is the
-- definition.
use Rattle.std.specs.Prelude.{ℕ, ◌+◌, ◌≤◌, ◌<◌, ◌≡◌, true, List, length, get_or}
use Rattle.std.proofs.Math.Option.{Option, some}
use Rattle.codec.specs.Codec.{current, blank}
use Rattle.sets.specs.Structure.{tolerated}
use Rattle.plan.specs.declared.plan.Plan.{Plan}
use Rattle.plan.specs.Listed.{listed}
use Rattle.plan.specs.Values.{value}
use Rattle.plan.specs.Calls.{judged}
use Rattle.tables.specs.Tabled.{Tabled}
use Rattle.tree.specs.Labels.{mask}
use Rattle.tree.specs.Places.{cell_count, outside_below, start_within}
use Rattle.frames.specs.Nodes.{node_at, IsNode}

-- The children of a node with the boards s have their cells side by side, the first at `from`.
unfoldable pub kid : Plan → ℕ → ℕ → List ℕ → ℕ → Option ℕ
kid p s from cells c = some (value p (get_or cells (from + outside_below s c) 0))

-- A level above the last, and where the next level starts.
pub record Above (n level start : ℕ) : Type 0 where
  pub level-below : level < n
  pub start-most : start ≤ 5040

-- An internal node of an accepted plan, the plan's table of holders, and cells enough; `start` is where the next level starts.
pub record Visit (p : Plan) (holders : List ℕ) (level node start : ℕ) (cells : List ℕ) : Type 0 where
  pub accepted : (judged p).number ≡ 0
  pub some-board : 1 ≤ p.n
  pub dealer-below : p.dealer < p.n
  pub level-below : level < p.n
  pub most_values : p.span ≤ blank current
  pub tabled : Tabled p holders
  pub is-node : IsNode p level node
  pub held : tolerated (listed p) (mask (node_at p level node)) ≡ true
  pub starts : start ≡ start_within p.n (level + 1)
  pub enough : cell_count p.n ≤ length cells
