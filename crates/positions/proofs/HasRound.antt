-- The plan has a round of a run if it is one for the plan's last run and its last round.
-- Assumes nothing.
use mathlib.Core.Path.{◌≡◌, refl}
use Rattle.plan.specs.declared.plan.Plan.{Plan}
use Rattle.schedule.specs.declared.rounds.Run.{Run}
use Rattle.schedule.specs.declared.rounds.Round.{Round}
use Rattle.schedule.specs.Schedule.{rounds, runs, has_round}
use Rattle.positions.specs.Positions.{is_round}

pub plan-round : (p : Plan) (t : Run) (k : Round) → is_round (runs p) (rounds p) t k ≡ has_round p t k
unfolding is_round has_round
plan-round p t k = refl
