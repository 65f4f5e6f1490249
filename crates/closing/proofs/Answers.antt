-- How a round ends: what closing leaves by its judgement and by its round.
-- Assumes nothing.
use Prim.Native.Nat.{◌≤◌, ◌<◌}
use mathlib.Core.Path.{◌≡◌, refl, sym}
use mathlib.Core.Logic.{◌≢◌}
use mathlib.Core.List.{[]}
use borrow.Author.Tests.{ne_eqb, lt-ltb, le-ltb}
use Rattle.schedule.specs.Schedule.{rounds}
use Rattle.refusals.specs.Outcome.{Outcome, taken, and_then}
use Rattle.protocol.specs.Rounds.{Board, gather, next_round, convert, close}
use Rattle.protocol.specs.Calls.{is_taken, judge_open, closed_values, closing}

module _ (b : Board) where
  pub close-refused : (o : Outcome) → o ≡ judge_open b → o.number ≢ 0 → record { answer = o; board = b } ≡ closing b
  unfolding closing is_taken and_then
  close-refused o e ne = rw (sym e, ne_eqb o.number 0 ne) refl

  pub close-taken : taken [] ≡ judge_open b → record { answer = taken (closed_values (close b).rec); board = close b } ≡ closing b
  unfolding closing is_taken and_then
  close-taken e = rw (sym e) refl

  -- A round before the last, and the last round.
  pub close-next : b.rec.round.0 < (rounds b.rec.plan).0 → close b ≡ next_round b (gather b)
  unfolding close
  close-next l = rw (lt-ltb b.rec.round.0 (rounds b.rec.plan).0 l) refl

  pub close-last : (rounds b.rec.plan).0 ≤ b.rec.round.0 → close b ≡ convert b (gather b)
  unfolding close
  close-last l = rw (le-ltb b.rec.round.0 (rounds b.rec.plan).0 l) refl
