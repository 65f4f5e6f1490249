-- What a test of a set by the table of holders asks. A middle layer: `tolerated` of sets/Structure is the definition.
use Rattle.std.specs.Prelude.{ℕ, ◌^◌, ◌≤◌, ◌<◌, ◌≡◌, List, length}
use Rattle.holders.specs.Holders.{holder_table}
use Rattle.plan.specs.declared.plan.Plan.{Plan}
use Rattle.plan.specs.Listed.{listed}

-- At most seven boards, places that a byte holds, and the plan's own table.
pub record Tabled (p : Plan) (holders : List ℕ) : Type 0 where
  pub most-boards : p.n ≤ 7
  pub few-sets : length (listed p) ≤ 255
  pub table : holders ≡ holder_table (listed p)

-- A set of the plan's boards, and the table to ask.
pub record Askable (p : Plan) (holders : List ℕ) (s : ℕ) : Type 0 where
  pub tabled : Tabled p holders
  pub below : s < 2 ^ p.n
