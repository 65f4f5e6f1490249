-- What the walk asks, and what it leaves: the records of its contracts. A middle layer: which nodes a frame carries is `carried` of the protocol.
use Rattle.std.specs.Prelude.{ℕ, ◌+◌, ◌-◌, ◌^◌, ◌≤◌, ◌<◌, ◌≡◌, List, ◌++◌, map, length, drop}
use Rattle.std.proofs.lemmas.List.Edits.{sets}
use Rattle.holders.specs.Holders.{holder_table}
use Rattle.plan.specs.declared.plan.Plan.{Plan}
use Rattle.plan.specs.Listed.{listed}
use Rattle.schedule.specs.Schedule.{rounds}
use Rattle.tree.specs.Labels.{Label}
use Rattle.internal.specs.Numbers.{code}

-- A level of the plan whose nodes may be internal, the plan's table of holders, and room for the list.
pub record Walkable (p : Plan) (level : ℕ) (αs : List Label) (holders nodes : List ℕ) : Type 0 where
  pub some-board : 1 ≤ p.n
  pub most-boards : p.n ≤ 7
  pub dealer-below : p.dealer < p.n
  pub level-low : 1 ≤ level
  pub level-most : level ≤ p.n
  pub level-high : level < (rounds p).0
  pub table : holders ≡ holder_table (listed p)
  pub room : length αs ≤ length nodes

-- The labels stand at the front, as numbers; the rest is as it was.
pub record Lists (p : Plan) (count : ℕ) (αs : List Label) (before after : List ℕ) : Type 0 where
  pub counted : count ≡ length αs
  pub content : after ≡ map (code p.n) αs ++ drop count before

-- At a node of the walk: its number and its children's fit, and there is room for the list.
pub record Walking (n spare index boards left : ℕ) (holders : List ℕ) (used : ℕ) (list nodes : List ℕ) : Type 0 where
  pub most-boards : n ≤ 7
  pub width : spare + left ≤ 7
  pub number : index < 8 ^ (7 - left)
  pub small : boards < 128
  pub whole : length holders ≡ 128
  pub room : used + length list ≤ length nodes

-- The list stands from place `used` on.
pub record Written (used end : ℕ) (list before after : List ℕ) : Type 0 where
  pub counted : end ≡ used + length list
  pub content : after ≡ sets before used list
