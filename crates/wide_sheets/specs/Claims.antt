-- 02 g: "A session with a span of at most 255, each value widened so, gives the same numbers as before, but that outputs and sheets, longer now,
-- may meet 17 or 20." Here whole sheets; the span of a sheet in one-byte values is at most 255.
use Rattle.std.specs.Prelude.{ℕ, ◌≤◌, ◌<◌, ◌≡◌, ◌≢◌, List, map, length}
use Rattle.codec.specs.Codec.{Width, one, two}
use Rattle.refusals.specs.Outcome.{refused}
use Rattle.protocol.specs.Limits.{sheet_most, output_needed}
use Rattle.sheet.specs.Sheet.{wrong_at, reading}
use Rattle.sheet.specs.Playing.{Play, refused_play, playing, bench_prints}
use Rattle.widening.specs.Widening.{wide}
use Rattle.wide_sheets.specs.WideText.{wide_text, wide_printed, wide_play}

-- Every text, with any cells, and any output for each width.
pub record WideSheet (text cells out out' : List ℕ) : Type 0 where
  pub span : (reading one text).head.plan.span ≤ 255
  -- so a sheet that is 20 in one byte is 20 in two
  pub longer : length text ≤ length (wide_text text)
  -- 20, at no line
  pub too_long : sheet_most < length (wide_text text)
      → playing two (wide_text text) (map wide cells) out' ≡ refused_play (wrong_at 0 (refused 20)) (map wide cells) out'
  -- else 17, at no line
  pub too_short : length (wide_text text) ≤ sheet_most → length out' < output_needed two
      → playing two (wide_text text) (map wide cells) out' ≡ refused_play (wrong_at 0 (refused 17)) (map wide cells) out'
  -- else number and line are the same, or the lines have 00 before each decision; all cells are widened
  pub played : length (wide_text text) ≤ sheet_most → output_needed one ≤ length out → output_needed two ≤ length out'
      → playing two (wide_text text) (map wide cells) out' ≡ wide_play out' (playing one text cells out)
  -- what the program bench prints then
  pub printed : length (wide_text text) ≤ sheet_most → output_needed one ≤ length out → output_needed two ≤ length out'
      → (playing one text cells out).answer.number ≡ 0
      → bench_prints two (wide_text text) (map wide cells) out' ≡ wide_printed (bench_prints one text cells out)
  pub refusal : length (wide_text text) ≤ sheet_most → output_needed one ≤ length out → output_needed two ≤ length out'
      → (playing one text cells out).answer.number ≢ 0
      → bench_prints two (wide_text text) (map wide cells) out' ≡ bench_prints one text cells out

abbrev pub SheetsSame : Type 0
SheetsSame = (text cells out out' : List ℕ) → WideSheet text cells out out'

-- Two plays with the same answer, so the same number and line, and the same output.
pub record SameLines (r r' : Play) : Type 0 where
  pub answer : r.answer ≡ r'.answer
  pub out : r.out ≡ r'.out

-- What lent cells held before plays no part in these, at any width: so `SheetsSame` says them of every lent buffer, widened or not.
abbrev pub LentCells : Type 0
LentCells = (w : Width) (text cells cells' out : List ℕ) → length cells ≡ length cells' → SameLines (playing w text cells out) (playing w text cells' out)
