use mathlib.Core.Path.{◌≡◌}
use Rattle.holders.specs.Filling.{stage}
use Rattle.holders.proofs.table.holders_of.Given as goal

abbrev pub invariant-loop : goal.invariant-loop
invariant-loop l = l.table ≡ stage l.sets l.counter
