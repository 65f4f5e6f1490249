use mathlib.Core.Path.{◌≡◌}
use Rattle.finding.specs.Frames.{frames_in}
use Rattle.stage.specs.Stage.{Stage}
use Rattle.exchange.specs.Exchange.{hear_senders}
use Rattle.exchange.proofs.senders.hear_all.Given as goal

abbrev pub invariant-loop-q : goal.invariant-loop-q
invariant-loop-q l = ◌≡◌ {A = Stage} (record { recs = l.all; cells = l.cells }) (hear_senders l.head (frames_in l.frames) l.q (record { recs = l.initial.all; cells = l.initial.cells }))
