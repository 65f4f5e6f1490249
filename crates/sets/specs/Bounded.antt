-- A number and the most that it can be: what a contract says of a number that its caller adds to. A middle layer: the number is the
-- definition's, and the bound follows from it.
use Rattle.std.specs.Prelude.{ℕ, ◌≤◌, ◌≡◌}

pub record Bounded (r x most : ℕ) : Type 0 where
  pub value : r ≡ x
  pub bound : r ≤ most
