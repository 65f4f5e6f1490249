-- What reading a sheet gives, line by line. A middle layer: what a sheet says is `reading` of sheet/Sheet.
use Rattle.std.specs.Prelude.{ℕ, ◌+◌, ◌/◌, ◌≡◌, ◌&&◌, cond, List, [], ◌∷◌, length, take, drop, Result}
use Rattle.std.specs.Result.{IfOk}
use Rattle.codec.specs.Codec.{current}
use Rattle.refusals.specs.declared.refusal.Refusal.{Refusal}
use Rattle.refusals.specs.Outcome.{Outcome, refused}
use Rattle.sheet.specs.declared.head.Head.{Head}
use Rattle.sheet.specs.Sheet.{Line, lines, head_of, judge_head, reading}
use Rattle.hexadecimal.specs.Bytes.{is_text, bytes_from}
use Rattle.heads.specs.Heads.{head_says}
use Rattle.finding.specs.Places.{line_stop}
use Rattle.judging_frames.specs.declared.lines.RefusedLine.{RefusedLine}
use Rattle.judging_frames.specs.Lines.{JudgedAs}
use Rattle.reader.specs.declared.reading.Sheet.{Sheet}

-- The first line: 21, 22, then 1 to 7, 26, 8, 18, 23.
unfoldable pub judge_top : List Line → Outcome
judge_top [] = refused 22
judge_top (l ∷ ls) =
    let head = judge_head current (bytes_from l.text 0 (length l.text / 2)) in cond (l.ended && is_text l.text) head (refused 21)

-- The first line, by where it ends: what is judged of it, and if it is accepted the head that it gives.
pub record FirstRead (text : List ℕ) (end : ℕ) (r : Result Head Refusal) : Type 0 where
  pub judges : head_says r ≡ judge_top (lines text)
  pub gives : IfOk r (λ head. head ≡ head_of current (bytes_from (take end text) 0 (length (take end text) / 2)))

-- A sheet that was read: what is judged of it; if it is accepted its head, and what stands from its frame lines on.
pub record SheetRead (text : List ℕ) (r : Result Sheet RefusedLine) : Type 0 where
  pub judges : JudgedAs (reading current text).answer (length text) r
  pub gives : IfOk r (λ sheet. sheet.head ≡ (reading current text).head)
  pub begins : IfOk r (λ sheet. sheet.frames.now ≡ drop (line_stop text 0 + 1) text)
