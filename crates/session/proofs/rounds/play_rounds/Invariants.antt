use mathlib.Core.Path.{◌≡◌}
use Rattle.finding.specs.Frames.{frames_in}
use Rattle.stage.specs.Stage.{Stage}
use Rattle.session.specs.Steps.{frames_left, play_steps}
use Rattle.session.proofs.rounds.play_rounds.Given as goal

abbrev pub invariant-loop-j : goal.invariant-loop-j
invariant-loop-j l = record {
  played : (t : Stage) → ◌≡◌ {A = Stage} (record { recs = l.initial.all; cells = l.initial.cells }) (play_steps l.head (frames_in l.frames) 0 t) → ◌≡◌ {A = Stage} (record { recs = l.all; cells = l.cells }) (play_steps l.head (frames_in l.frames) l.j t);
  left : frames_in l.rest ≡ frames_left l.head.plan l.j (frames_in l.frames);
}
