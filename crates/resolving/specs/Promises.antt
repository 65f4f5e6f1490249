-- What resolving asks, and what it leaves. A middle layer: what a node resolves to is `resolve` of the protocol.
use Rattle.std.specs.Prelude.{ℕ, ◌+◌, ◌≤◌, ◌<◌, ◌≡◌, ◌≢◌, List, length}
use Rattle.codec.specs.Codec.{current, blank}
use Rattle.holders.specs.Holders.{holder_table}
use Rattle.plan.specs.declared.plan.Plan.{Plan}
use Rattle.plan.specs.Calls.{judged}
use Rattle.plan.specs.Listed.{listed}
use Rattle.schedule.specs.Schedule.{rounds}
use Rattle.tree.specs.Labels.{Label, mask, label_at}
use Rattle.tree.specs.Places.{level_size, level_start, cell_count}
use Rattle.protocol.specs.Detection.{resolve, resolve_root}
use Rattle.voting.specs.Worth.{worth}
use Rattle.resolving.specs.Settled.{settled, settled_all}

-- An accepted plan and its table of holders, a board that keeps cells, and its cells.
pub record Convertible (p : Plan) (holders : List ℕ) (i : ℕ) (cells : List ℕ) : Type 0 where
  pub accepted : (judged p).number ≡ 0
  pub some-board : 1 ≤ p.n
  pub most-boards : p.n ≤ 7
  pub few-sets : length (listed p) ≤ 255
  pub dealer-below : p.dealer < p.n
  pub below : i < p.n
  pub other : i ≢ p.dealer
  pub some-round : 1 ≤ (rounds p).0
  pub most-rounds : (rounds p).0 ≤ p.n
  pub table : holders ≡ holder_table (listed p)
  pub most_values : p.span ≤ blank current
  pub room : cell_count p.n ≤ length cells

-- Node number `index` of a level.
abbrev pub node : Plan → ℕ → ℕ → Label
node p level index = label_at p.n p.dealer level index

-- Where the code stands in the tree: the level starts at `start`, the node has the boards s, and `left` levels are below it.
pub record AtNode (p : Plan) (level start index s left : ℕ) : Type 0 where
  pub start_is : start ≡ level_start p.n level
  pub inside : index < level_size p.n level
  pub boards-are : s ≡ mask (node p level index)
  pub levels : level + left ≡ (rounds p).0

-- A node to resolve, and the cells to do it in.
pub record Resolvable (p : Plan) (holders : List ℕ) (i level start index s left : ℕ) (cells : List ℕ) : Type 0 where
  pub convertible : Convertible p holders i cells
  pub at-node : AtNode p level start index s left

-- The whole tree: `top` is the last round.
pub record WholeTree (p : Plan) (holders : List ℕ) (i top : ℕ) (cells : List ℕ) : Type 0 where
  pub convertible : Convertible p holders i cells
  pub top-is : top ≡ (rounds p).0

-- A node was resolved in place.
pub record Settles (p : Plan) (i left : ℕ) (α : Label) (v : ℕ) (before after : List ℕ) : Type 0 where
  pub value-is : v ≡ worth (resolve p i before left α)
  pub cells_are : after ≡ settled p i left α before

pub record Roots (p : Plan) (i v : ℕ) (before after : List ℕ) : Type 0 where
  pub root_is : v ≡ resolve_root p i before
  pub cells_are : after ≡ settled_all p i before
