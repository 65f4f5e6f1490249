-- The rounds of a plan by its last run and its last round: a middle layer, tied to `has_round` of schedule/Schedule by proofs/HasRound.
use Rattle.std.specs.Prelude.{Bool, ◌&&◌, leb}
use Rattle.schedule.specs.declared.rounds.Run.{Run}
use Rattle.schedule.specs.declared.rounds.Round.{Round}
use Rattle.schedule.specs.Schedule.{first_round}

-- Is k a round of run t, where the last run and the last round are these?
unfoldable pub is_round : Run → Round → Run → Round → Bool
is_round last end t k = (leb 1 t.0 && leb t.0 last.0) && (leb (first_round t).0 k.0 && leb k.0 end.0)
