use mathlib.Core.Path.{◌≡◌}
use Rattle.tree.specs.Places.{level_size}
use Rattle.levels.proofs.levels.level_size.Given as goal

abbrev pub invariant-loop-level : goal.invariant-loop-level
invariant-loop-level l = l.size ≡ level_size l.n l.level
