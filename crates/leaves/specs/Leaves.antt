-- What a leaf leaves in its cell. A middle layer: `resolve` of protocol/Detection is the definition.
use Rattle.std.specs.Prelude.{ℕ, ◌≡◌, List, get_or, set}
use Rattle.plan.specs.declared.plan.Plan.{Plan}
use Rattle.plan.specs.Values.{value}

-- A leaf's cell became a value.
pub record Leaves (p : Plan) (at v : ℕ) (before after : List ℕ) : Type 0 where
  pub value-is : v ≡ value p (get_or before at 0)
  pub cells_are : after ≡ set before at v
