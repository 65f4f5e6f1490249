-- What is judged of the lines from a place on, by the end of the first of them.
-- Assumes nothing.
use Prim.Native.Nat.{ℕ, ◌+◌, ◌-◌, ◌≤◌, ◌<◌}
use mathlib.Core.Path.{◌≡◌, refl, ap, ◌∙◌}
use mathlib.Core.Logic.{◌≢◌}
use mathlib.Core.Bool.{cond}
use mathlib.Core.List.{List, []}
use native.Mathlib.Omega.{arith}
use lib.Dec.{eqb, ltb}
use lib.ListN.{length, take, drop}
use borrow.Author.Tests.{eq-eqb, ne_eqb}
use Rattle.plan.specs.declared.plan.Plan.{Plan}
use Rattle.refusals.specs.Outcome.{Outcome, taken}
use Rattle.sheet.specs.Sheet.{lines, wrong_at}
use Rattle.hexadecimal.proofs.Bytes.{byte-below}
use Rattle.text.proofs.LineEnds.{stop, lines_none, lines_at}
use Rattle.finding.specs.Frames.{key_of, line_key}
use Rattle.frame_lines.specs.FrameLines.{judge_line}
use Rattle.judging_frames.specs.Lines.{judge_lines}

-- The lines from place `at` on, by the end e of the first.
module _ (p : Plan) (faulty : ℕ) (text : List ℕ) (least number at e : ℕ) where
  abbrev judgement : Outcome
  judgement = judge_lines p faulty least number (lines (drop at text))

  -- The line's digits.
  abbrev digits : List ℕ
  digits = take (e - at) (drop at text)

  pub at-end : length text ≤ at → judgement ≡ taken []
  unfolding judge_lines
  at-end l = ap (judge_lines p faulty least number) (lines_none text at l)

  module _ (l : at < length text) (ends : e ≡ stop text at) where
    -- What is judged of the line.
    abbrev first : Outcome
    first = judge_line p faulty least (record { text = digits; ended = ltb e (length text) })

    opened : judgement ≡ cond (eqb first.number 0) (judge_lines p faulty (line_key digits + 1) (number + 1) (lines (drop (e + 1) text))) (wrong_at number first)
    unfolding judge_lines
    opened = ap (judge_lines p faulty least number) (lines_at text at l) ∙ rw (← ends) refl

    pub at-wrong : (o : Outcome) → o ≡ first → o.number ≢ 0 → judgement ≡ wrong_at number o
    at-wrong o same bad = opened ∙ rw (← same) (rw (ne_eqb o.number 0 bad) refl)

    pub at-good : (o : Outcome) → o ≡ first → o.number ≡ 0 → judgement ≡ judge_lines p faulty (line_key digits + 1) (number + 1) (lines (drop (e + 1) text))
    at-good o same ok = opened ∙ rw (← same) (rw (eq-eqb o.number 0 ok) refl)

-- A key has four bytes.
pub key_below : (line : List ℕ) → line_key line < 4294967296
unfolding line_key key_of
key_below line = omega (arith, byte-below line 0, byte-below line 1, byte-below line 2, byte-below line 3)
