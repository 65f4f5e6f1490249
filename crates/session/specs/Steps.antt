-- All rounds of all runs, step by step. A middle layer: all rounds are `session` of the protocol.
use Rattle.std.specs.Prelude.{ℕ, zero, suc, List}
use Rattle.plan.specs.declared.plan.Plan.{Plan}
use Rattle.schedule.specs.Schedule.{step_run, step_round}
use Rattle.sheet.specs.Sheet.{Frame}
use Rattle.sheet.specs.declared.head.Head.{Head}
use Rattle.finding.specs.Frames.{key_of, skip_frames}
use Rattle.codec.specs.Codec.{current}
use Rattle.protocol.specs.Rounds.{Board}
use Rattle.protocol.specs.Calls.{beginning, closing}
use Rattle.stage.specs.Stage.{Stage, on_stage}
use Rattle.exchange.specs.Exchange.{hear_senders}

-- What board i does in its turn: it begins, or closes.
unfoldable pub begins : Plan → ℕ → Board → Board
begins p i b = (beginning current p i b.cells).board

unfoldable pub closes : ℕ → Board → Board
closes i b = (closing b).board

-- One round of all boards: they hear all others and close.
unfoldable pub play_step : Head → List Frame → Stage → Stage
play_step h fs st = on_stage h closes h.plan.n (hear_senders h fs h.plan.n st)

-- The least key of a frame in step j; steps are the rounds over all runs, from 0.
unfoldable pub step_key : Plan → ℕ → ℕ
step_key p j = key_of (step_run p (suc j)).0 (step_round p (suc j)).0 0 0

-- What is left of the frames when those before each of the first j steps are skipped, in turn.
unfoldable pub frames_left : Plan → ℕ → List Frame → List Frame
frames_left p zero fs = fs
frames_left p (suc j) fs = skip_frames (step_key p j) (frames_left p j fs)

-- All boards begin, then hear and close in j steps, each with what is left of the frames.
unfoldable pub play_steps : Head → List Frame → ℕ → Stage → Stage
play_steps h fs zero st = on_stage h (begins h.plan) h.plan.n st
play_steps h fs (suc j) st = play_step h (frames_left h.plan (suc j) fs) (play_steps h fs j st)
