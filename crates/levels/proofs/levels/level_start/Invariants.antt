use Rattle.std.proofs.Common.{◌≡◌, ◌+◌, ◌*◌}
use Rattle.tree.specs.Places.{level_size, level_start, start_within}
use Rattle.levels.proofs.levels.level_start.Given as goal

abbrev pub invariant-loop-level : goal.invariant-loop-level
invariant-loop-level l = (l.level ≡ 0 → l.start ≡ 0) × (level_start l.n l.level + level_size l.n l.level * l.start ≡ start_within l.n l.k)
