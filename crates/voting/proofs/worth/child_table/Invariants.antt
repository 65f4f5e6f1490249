use Rattle.std.proofs.Common.{◌≡◌, ℕ, ◌<◌, ◌+◌, get_or}
use mathlib.Core.Option.{some}
use Rattle.tree.specs.Places.{outside_below}
use Rattle.voting.specs.Worth.{child_table}
use Rattle.voting.proofs.worth.child_table.Given as goal

abbrev pub invariant-loop-c : goal.invariant-loop-c
invariant-loop-c g l = record {
  place : l.at ≡ l.from + outside_below l.boards l.c;
  table : (p : ℕ → ℕ) → ((x y : ℕ) → x < 65536 → goal.F-post g l.worth x y → y ≡ p x) → l.values ≡ child_table (λ c. some (p (get_or l.cells (l.from + outside_below l.boards c) 0))) l.boards l.c;
}
