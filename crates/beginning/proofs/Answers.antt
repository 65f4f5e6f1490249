-- What beginning leaves, by its judgement: a call that is turned down changes nothing.
-- Assumes nothing.
use Prim.Native.Nat.{ℕ}
use mathlib.Core.Path.{◌≡◌, refl, sym, ap}
use mathlib.Core.Logic.{◌≢◌}
use mathlib.Core.List.{List, []}
use borrow.Author.Tests.{ne_eqb}
use Rattle.codec.specs.Codec.{current}
use Rattle.plan.specs.declared.plan.Plan.{Plan}
use Rattle.refusals.specs.Outcome.{Outcome, taken, and_then}
use Rattle.plan.specs.Calls.{judged}
use Rattle.refusals.proofs.Outcomes.{both-taken}
use Rattle.protocol.specs.Calls.{is_taken, judge_board, judge_beginning, beginning, fresh_record, void_record}
use Rattle.protocol.proofs.Judgement.{cells-facts}
use Rattle.clearing.specs.Clearing.{Clearable}
use Rattle.judging.proofs.Judged.{roomed, room-judged, then_same}
use Rattle.protocol.specs.Rounds.{board_with, cleared}

pub begin-judged : (p : Plan) (i : ℕ) (cells : List ℕ) → and_then (judged p) (and_then (judge_board p i) (roomed p cells)) ≡ judge_beginning p i cells
unfolding judge_beginning
begin-judged p i cells = then_same (judged p) _ _ (λ e. ap (and_then (judge_board p i)) (room-judged p cells e))

module _ (p : Plan) (i : ℕ) (cells : List ℕ) where
  pub begin-refused : (o : Outcome) → o ≡ judge_beginning p i cells → o.number ≢ 0
      → record { answer = o; board = board_with void_record cells } ≡ beginning current p i cells
  unfolding beginning is_taken
  begin-refused o e ne = rw (sym e, ne_eqb o.number 0 ne) refl

  pub begin-taken : taken [] ≡ judge_beginning p i cells
      → record { answer = taken []; board = board_with (fresh_record p i) (cleared current p.n cells) } ≡ beginning current p i cells
  unfolding beginning is_taken
  begin-taken e = rw (sym e) refl

  -- A beginning that is taken has an accepted plan and cells enough.
  pub begin-ready : (judge_beginning p i cells).number ≡ 0 → Clearable p cells
  unfolding judge_beginning
  begin-ready e =
      let (e1, e2) = both-taken (judged p) _ e in
      let (_, e3) = both-taken (judge_board p i) _ e2 in
      record { accepted = e1; enough = cells-facts p cells e3 }
