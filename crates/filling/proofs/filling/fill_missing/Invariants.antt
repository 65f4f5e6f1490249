use mathlib.Core.Path.{◌≡◌}
use Rattle.protocol.specs.Rounds.{fill_missing}
use Rattle.filling.proofs.filling.fill_missing.Given as goal

abbrev pub invariant-loop-q : goal.invariant-loop-q
invariant-loop-q l = l.cells ≡ fill_missing l.seat.tabled.plan l.seat.board l.seat.round l.marks l.q l.initial.cells
