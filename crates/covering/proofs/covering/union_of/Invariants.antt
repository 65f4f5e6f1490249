use mathlib.Core.Path.{◌≡◌}
use Rattle.covering.specs.Pairs.{union_of}
use Rattle.covering.proofs.covering.union_of.Given as goal

abbrev pub invariant-loop-s : goal.invariant-loop-s
invariant-loop-s l = l.boards ≡ union_of l.sets l.s-index
