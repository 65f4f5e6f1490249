-- What is judged of all frame lines. A middle layer: what a sheet says is `reading` of sheet/Sheet.
use Rattle.std.specs.Prelude.{ℕ, ◌+◌, ◌-◌, ◌≤◌, ◌≡◌, cond, List, [], ◌∷◌, eqb, get_or, Result, Ok, Err}
use Rattle.plan.specs.declared.plan.Plan.{Plan}
use Rattle.plan.specs.Calls.{judged}
use Rattle.refusals.specs.Outcome.{Outcome, taken, refusal}
use Rattle.sheet.specs.Sheet.{Line, wrong_at}
use Rattle.finding.specs.Frames.{line_key}
use Rattle.frame_lines.specs.FrameLines.{judge_line}
use Rattle.judging_frames.specs.declared.lines.RefusedLine.{RefusedLine}

-- A verdict on a sheet: for a refusal its line before its values.
unfoldable pub judged_says : {A : Type 0} → Result A RefusedLine → Outcome
judged_says (Ok _) = taken []
judged_says (Err r) = wrong_at r.line (refusal r.why)

-- The line of a refusal, 0 if there is none.
unfoldable pub judged_line : {A : Type 0} → Result A RefusedLine → ℕ
judged_line (Ok _) = 0
judged_line (Err r) = r.line

-- What is judged of some lines of a text of so many bytes: the outcome, its line, and a line that such a text can have.
pub record JudgedAs {A : Type 0} (o : Outcome) (size : ℕ) (j : Result A RefusedLine) : Type 0 where
  pub says : judged_says j ≡ o
  pub line : judged_line j ≡ get_or o.values 0 0
  pub few : judged_line j ≤ 1 + (size - 2)

-- An accepted plan, and frame lines that begin after a first line.
pub record Judgeable (p : Plan) (from : ℕ) : Type 0 where
  pub accepted : (judged p).number ≡ 0
  pub after_first : 2 ≤ from

-- The frame lines from line number `line` on: 21 and 24.
unfoldable pub judge_lines : Plan → ℕ → ℕ → ℕ → List Line → Outcome
judge_lines p faulty least line [] = taken []
judge_lines p faulty least line (l ∷ ls) =
    let o = judge_line p faulty least l in
    let rest = judge_lines p faulty (line_key l.text + 1) (line + 1) ls in
    cond (eqb o.number 0) rest (wrong_at line o)
