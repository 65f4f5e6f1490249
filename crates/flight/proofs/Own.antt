-- A closing over a lent record is the closing by value: of a board that keeps its width, and its record where it is refused.
-- Assumes nothing.
use Rattle.std.proofs.Common.{ℕ, ◌≡◌, ◌≢◌, refl, sym, ◌∙◌, ap, List}
use mathlib.Core.Path.{ap₂}
use borrow.Author.Tests.{ne_eqb}
use Rattle.refusals.specs.declared.refusal.Refusal.{Refusal}
use Rattle.refusals.specs.Outcome.{Outcome, refusal}
use Rattle.refusals.proofs.Outcomes.{refusal-number}
use Rattle.protocol.specs.declared.records.Record.{Record}
use Rattle.protocol.specs.Rounds.{Board, board_of, board_with}
use Rattle.protocol.specs.Calls.{is_taken, judge_open, closing}
use Rattle.protocol.proofs.Taken.{open-closing, closing-width}
use Rattle.flight.specs.Lent.{Lent, lent_closing}

-- A closing that is refused leaves the board as it was.
kept : (b : Board) → (closing b).answer.number ≢ 0 → (closing b).board ≡ b
unfolding closing is_taken
kept b ne = rw (ne_eqb (judge_open b).number 0 (λ z. ne (open-closing b z))) refl

module _ (r : Record) (cells after : List ℕ) where
  pub own-taken : (left : Record) (o : Outcome) → record { answer = o; rec = left; cells = after } ≡ lent_closing r cells
      → record { answer = o; board = board_with left after } ≡ closing (board_with r cells)
  unfolding lent_closing
  own-taken left o e =
      let closed = closing (board_with r cells) in
      ap (λ (l : Lent). record { answer = l.answer; board = board_with l.rec l.cells }) e
      ∙ ap (λ width. record { answer = closed.answer; board = board_of width closed.board.rec closed.board.cells }) (sym (closing-width (board_with r cells)))

  -- The record that was lent is not asked for: it is the caller's own.
  pub own-refused : (why : Refusal) → refusal why ≡ (lent_closing r cells).answer → after ≡ (lent_closing r cells).cells
      → record { answer = refusal why; board = board_with r after } ≡ closing (board_with r cells)
  unfolding lent_closing
  own-refused why said e =
      let k = kept (board_with r cells) (λ z. refusal-number why (ap (λ (o : Outcome). o.number) said ∙ z)) in
      ap₂ (λ o b. record { answer = o; board = b }) said
      (ap (board_with r) (e ∙ ap (λ (b : Board). b.cells) k) ∙ sym k)
