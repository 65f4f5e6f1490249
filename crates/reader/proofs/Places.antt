-- What is judged of the first line, by its end.
-- Assumes nothing.
use Prim.Native.Nat.{ℕ, ◌+◌, ◌-◌, ◌/◌, ◌≤◌, ◌<◌}
use mathlib.Core.Path.{◌≡◌, refl, ap, ◌∙◌}
use mathlib.Core.Logic.{◌≢◌}
use mathlib.Core.Bool.{true, false, ◌&&◌, cond}
use mathlib.Core.List.{List, ◌∷◌}
use native.Mathlib.Omega.{arith}
use lib.Dec.{ltb}
use lib.ListN.{length, take, drop}
use borrow.Author.Tests.{lt-ltb, le-ltb}
use Rattle.codec.specs.Codec.{current}
use Rattle.refusals.specs.Outcome.{refused}
use Rattle.sheet.specs.Sheet.{lines, judge_head}
use Rattle.hexadecimal.specs.Bytes.{is_text, bytes_from}
use Rattle.text.proofs.LineEnds.{stop, lines_none, lines_at}
use Rattle.reader.specs.Reading.{judge_top}

-- The first line, by its end e.
module _ (text : List ℕ) (e : ℕ) where
  abbrev top : List ℕ
  top = take e text

  pub top-none : length text ≡ 0 → judge_top (lines text) ≡ refused 22
  unfolding judge_top
  top-none l = ap judge_top (lines_none text 0 (omega arith))

  module _ (l : length text ≢ 0) (ends : e ≡ stop text 0) where
    -- The first line, and the lines after it.
    pub first_line : lines text ≡ record { text = top; ended = ltb e (length text) } ∷ lines (drop (e + 1) text)
    first_line = lines_at text 0 (omega arith) ∙ rw (← ends, (let z : e - 0 ≡ e = omega arith in z)) refl

    top-opened : judge_top (lines text) ≡ cond (ltb e (length text) && is_text top) (judge_head current (bytes_from top 0 (length top / 2))) (refused 21)
    unfolding judge_top
    top-opened = ap judge_top first_line

    pub top-open : length text ≤ e → judge_top (lines text) ≡ refused 21
    top-open h = top-opened ∙ rw (le-ltb e (length text) h) refl

    pub top-other : e < length text → is_text top ≡ false → judge_top (lines text) ≡ refused 21
    top-other h t = top-opened ∙ rw (lt-ltb e (length text) h, t) refl

    pub top-good : e < length text → is_text top ≡ true → judge_top (lines text) ≡ judge_head current (bytes_from top 0 (length top / 2))
    top-good h t = top-opened ∙ rw (lt-ltb e (length text) h, t) refl
