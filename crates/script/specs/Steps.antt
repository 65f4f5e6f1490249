-- The sizes of a step keep to the cells, the output and the block that there are.
use Rattle.std.specs.Prelude.{ℕ, ◌≤◌}
use Rattle.script.specs.declared.sizes.Sizes.{Sizes}

pub record Within (s : Sizes) (cells out bytes : ℕ) : Type 0 where
  pub lent : s.lent ≤ cells
  pub shown : s.shown ≤ cells
  pub room : s.room ≤ out
  pub count : s.count ≤ bytes
