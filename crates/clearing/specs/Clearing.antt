-- What clearing the cells of a board asks. A middle layer: an accepted plan is `judged` of plan/Calls.
use Rattle.std.specs.Prelude.{ℕ, ◌≤◌, ◌≡◌, List, length}
use Rattle.plan.specs.declared.plan.Plan.{Plan}
use Rattle.plan.specs.Calls.{judged}
use Rattle.tree.specs.Places.{cell_count}

-- An accepted plan, with cells enough.
pub record Clearable (p : Plan) (cells : List ℕ) : Type 0 where
  pub accepted : (judged p).number ≡ 0
  pub enough : cell_count p.n ≤ length cells
