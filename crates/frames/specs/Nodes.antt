-- What the engine's functions ask of their inputs, and lists of nodes as numbers. A middle layer: `inner` and
-- `carried` of protocol/Nodes are the definitions.
use Rattle.std.specs.Prelude.{ℕ, ◌*◌, ◌/◌, ◌%◌, ◌≤◌, ◌<◌, ◌≡◌, ◌≢◌, false, cond, List, map, ltb, length, get_or}
use Rattle.holders.specs.Holders.{holder_table}
use Rattle.plan.specs.declared.plan.Plan.{Plan}
use Rattle.plan.specs.Listed.{listed}
use Rattle.plan.specs.Values.{default, value}
use Rattle.plan.specs.Calls.{judged}
use Rattle.schedule.specs.declared.rounds.Round.{Round}
use Rattle.schedule.specs.Schedule.{rounds}
use Rattle.tree.specs.Labels.{Label, occurs, mask, last, label_at}
use Rattle.codec.specs.Codec.{current, value_size}
use Rattle.tree.specs.Places.{level_size, cell_count}

-- A board that keeps cells, in a round of an accepted plan, with the plan's table of holders.
pub record Standing (p : Plan) (holders : List ℕ) (board : ℕ) (k : Round) : Type 0 where
  pub accepted : (judged p).number ≡ 0
  pub some-board : 1 ≤ p.n
  pub most-boards : p.n ≤ 7
  pub few-sets : length (listed p) ≤ 255
  pub dealer-below : p.dealer < p.n
  pub board-below : board < p.n
  pub other : board ≢ p.dealer
  pub round-low : 1 ≤ k.0
  pub round-high : k.0 ≤ (rounds p).0
  pub rounds-most : (rounds p).0 ≤ p.n
  pub table : holders ≡ holder_table (listed p)

-- Any round, with cells enough.
pub record AnyRound (p : Plan) (holders : List ℕ) (board : ℕ) (k : Round) (cells : List ℕ) : Type 0 where
  pub standing : Standing p holders board k
  pub enough : cell_count p.n ≤ length cells

-- The same, with the plan's own table of holders.
abbrev pub InRound : Plan → ℕ → Round → List ℕ → Type 0
InRound p i k cells = AnyRound p (holder_table (listed p)) i k cells

-- The first round: a dealer that is a board, with cells enough.
pub record First (p : Plan) (cells : List ℕ) : Type 0 where
  pub dealer-below : p.dealer < p.n
  pub enough : cell_count p.n ≤ length cells

-- The label that a node's number stands for: crate walk has a node's number in its level, its last board and its boards in one.
abbrev pub node_at : Plan → ℕ → ℕ → Label
node_at p level node = label_at p.n p.dealer level (node / 1024)

-- It stands for a label of the level.
pub record IsNode (p : Plan) (level node : ℕ) : Type 0 where
  pub inside : node / 1024 < level_size p.n level
  pub boards : node % 128 ≡ mask (node_at p level node)
  pub end : node / 128 % 8 ≡ last (node_at p level node)

-- The labels of a list of nodes.
unfoldable pub labels_of : Plan → ℕ → List ℕ → List Label
labels_of p level nodes = map (node_at p level) nodes

-- A list of nodes of a level, in a plan within its limits.
pub record Nodes (p : Plan) (level : ℕ) (nodes : List ℕ) : Type 0 where
  pub some-board : 1 ≤ p.n
  pub most-boards : p.n ≤ 7
  pub dealer-below : p.dealer < p.n
  pub level-below : level < p.n
  pub are : (j : ℕ) → j < length nodes → IsNode p level (get_or nodes j 0)

-- Board q is on none of them.
abbrev pub Without : Plan → ℕ → ℕ → List ℕ → Type 0
Without p level q nodes = (j : ℕ) → j < length nodes → occurs q (node_at p level (get_or nodes j 0)) ≡ false

-- Nodes whose children by board q have cells.
pub record Storable (p : Plan) (level q : ℕ) (nodes cells : List ℕ) : Type 0 where
  pub are-nodes : Nodes p level nodes
  pub without : Without p level q nodes
  pub sender : q < p.n
  pub enough : cell_count p.n ≤ length cells

-- Nodes with cells, and room for their values.
pub record Writable (p : Plan) (level : ℕ) (nodes cells out : List ℕ) : Type 0 where
  pub are-nodes : Nodes p level nodes
  pub enough : cell_count p.n ≤ length cells
  pub room : value_size current * length nodes ≤ length out

-- Value number i of a frame; the default where it has none.
unfoldable pub entry : Plan → List ℕ → ℕ → ℕ
entry p vs i = cond (ltb i (length vs)) (value p (get_or vs i 0)) (default p)
