-- What a closing over a lent record leaves: what `closing` of protocol/Calls says, with the record written where it is lent.
use Rattle.std.specs.Prelude.{ℕ, List}
use Rattle.refusals.specs.Outcome.{Outcome}
use Rattle.protocol.specs.declared.records.Record.{Record}
use Rattle.protocol.specs.Calls.{closing}
use Rattle.protocol.specs.Rounds.{board_with}

-- The answer, and both borrows as the call leaves them.
pub record Lent : Type 0 where
  pub answer : Outcome
  pub rec : Record
  pub cells : List ℕ

-- The record stands where the caller's own stood: answer, record and cells are those of the closing by value, refused or not.
unfoldable pub lent_closing : Record → List ℕ → Lent
lent_closing r cells =
    let left = closing (board_with r cells) in
    record { answer = left.answer; rec = left.board.rec; cells = left.board.cells }
