-- What is judged of a frame line, by its digits. A middle layer: by a line's bytes it is `good_frame` of sheet/Sheet.
use Rattle.std.specs.Prelude.{ℕ, ◌/◌, Bool, not, ◌&&◌, cond, List, [], leb, length}
use Rattle.sets.specs.Sets.{member}
use Rattle.plan.specs.declared.plan.Plan.{Plan}
use Rattle.schedule.specs.declared.rounds.Run.{Run}
use Rattle.schedule.specs.declared.rounds.Round.{Round}
use Rattle.schedule.specs.Schedule.{has_round}
use Rattle.refusals.specs.Outcome.{Outcome, taken, refused}
use Rattle.protocol.specs.Nodes.{due}
use Rattle.sheet.specs.Sheet.{Line}
use Rattle.hexadecimal.specs.Bytes.{is_text}
use Rattle.finding.specs.Frames.{line_frame, line_key}

-- A round that the plan has, in which a frame is due.
unfoldable pub expected : Plan → Run → Round → ℕ → ℕ → Bool
expected p t k q i = has_round p t k && due p q i k

-- Number 24 by the line's digits, with the least key that rises.
unfoldable pub good_line : Plan → ℕ → ℕ → List ℕ → Bool
good_line p faulty least line =
    let f = line_frame line in
    (leb 4 (length line / 2) && (leb least (line_key line) && member f.sender faulty))
    && (not (member f.receiver faulty) && expected p f.run f.round f.sender f.receiver)

-- A line: 21, then 24.
unfoldable pub judge_line : Plan → ℕ → ℕ → Line → Outcome
judge_line p faulty least l = cond (l.ended && is_text l.text) (cond (good_line p faulty least l.text) (taken []) (refused 24)) (refused 21)
