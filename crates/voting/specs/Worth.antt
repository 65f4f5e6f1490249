-- What a node's children are worth, as a table of values by board. A middle layer: `by_cell` and `by_resolving` of
-- protocol/Detection are the definitions.
use Rattle.std.specs.Prelude.{ℕ, zero, suc, ◌+◌, ◌≤◌, ◌<◌, ◌≡◌, false, cond, List, length, set, replicate}
use Rattle.std.proofs.Math.Option.{Option, some, none}
use Rattle.codec.specs.Codec.{current, blank}
use Rattle.sets.specs.Sets.{member}
use Rattle.tree.specs.Places.{outside_below}

-- 01: a value, or "none". Values are below m, so below the mark of a cell without a value, which stands for none.
unfoldable pub worth : Option ℕ → ℕ
worth none = blank current
worth (some v) = v

-- What the boards below k are worth as children of a node with the boards s; the mark for a board of the node.
unfoldable pub child_table : (ℕ → Option ℕ) → ℕ → ℕ → List ℕ
child_table f s zero = replicate 8 (blank current)
child_table f s (suc k) = let rest = child_table f s k in let more = set rest k (worth (f k)) in cond (member k s) rest more

-- The cells of the children of a node with the boards s are there, side by side from `from`.
pub record Beside (n s from : ℕ) (cells : List ℕ) : Type 0 where
  pub few : n ≤ 8
  pub there : (c : ℕ) → c < n → member c s ≡ false → from + outside_below s c < length cells
