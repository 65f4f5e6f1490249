use mathlib.Core.Path.{◌≡◌}
use Rattle.tree.specs.Places.{outside_below}
use Rattle.tree.proofs.outside.outside_below.Given as goal

-- `outside_below` meets its contract: the loop has counted the boards below i.
abbrev pub invariant-loop-i : goal.invariant-loop-i
invariant-loop-i l = l.seen ≡ outside_below l.s l.i
