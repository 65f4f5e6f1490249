-- What is to be printed of an output.
use Rattle.std.specs.Prelude.{ℕ, ◌≤◌, ◌≡◌, List, length, take}

-- The first k bytes of the output are the text.
pub record Prints (k : ℕ) (out text : List ℕ) : Type 0 where
  pub fits : k ≤ length out
  pub front : take k out ≡ text
