-- What reading a head's line gives. A middle layer: what a head names is `head_of`, what is judged of it `judge_head`.
use Rattle.std.specs.Prelude.{ℕ, ◌/◌, ◌≡◌, List, [], length, Result, Ok, Err}
use Rattle.std.specs.Result.{IfOk}
use Rattle.codec.specs.Codec.{current}
use Rattle.refusals.specs.declared.refusal.Refusal.{Refusal}
use Rattle.refusals.specs.Outcome.{Outcome, taken, refusal}
use Rattle.hexadecimal.specs.Bytes.{bytes_from}
use Rattle.sheet.specs.declared.head.Head.{Head}
use Rattle.sheet.specs.Sheet.{head_of, judge_head}

-- What is judged of a head that was read.
unfoldable pub head_says : Result Head Refusal → Outcome
head_says (Ok _) = taken []
head_says (Err why) = refusal why

-- A head that was read: its judgement, and the head that its bytes name if it is accepted.
pub record HeadRead (line : List ℕ) (r : Result Head Refusal) : Type 0 where
  pub judges : head_says r ≡ judge_head current (bytes_from line 0 (length line / 2))
  pub gives : IfOk r (λ head. head ≡ head_of current (bytes_from line 0 (length line / 2)))
