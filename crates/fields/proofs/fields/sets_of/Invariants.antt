use mathlib.Core.Path.{◌≡◌}
use Rattle.fields.proofs.Slots.{slots}
use Rattle.fields.proofs.fields.sets_of.Given as goal

abbrev pub invariant-loop-k : goal.invariant-loop-k
invariant-loop-k l = l.sets ≡ slots l.line l.k
