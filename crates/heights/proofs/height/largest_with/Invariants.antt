use Rattle.std.proofs.Common.{◌≡◌, ◌≤◌, max, drop}
use Rattle.heights.specs.Levels.{largest}
use Rattle.heights.proofs.height.largest_with.Given as goal

abbrev pub invariant-loop-s : goal.invariant-loop-s
invariant-loop-s l = (max l.most (largest (drop l.s-index l.sets) l.d) ≡ largest l.sets l.d) × (l.most ≤ 8)
