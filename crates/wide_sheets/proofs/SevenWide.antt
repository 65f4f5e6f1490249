-- Case 7, widened, by computing.
-- Assumes nothing.
use mathlib.Core.Path.{refl}
use Rattle.hexadecimal.specs.Hex.{hex_digit, hex_byte, hex_bytes}
use Rattle.sheet.specs.Sheet.{prepend, lines}
use Rattle.wide_sheets.specs.WideText.{head_value, frame_value, printed_value, wide_digits, wide_line, wide_lines, joined, wide_text, wide_printed}
use Rattle.wide_sheets.specs.WideCase.{sheet7, wide_sheet7, printed7, wide_printed7, Case7}

pub case7 : Case7
unfolding hex_digit hex_byte hex_bytes prepend lines head_value frame_value printed_value wide_digits wide_line wide_lines joined wide_text wide_printed sheet7 wide_sheet7 printed7 wide_printed7
case7 = record { sheet = refl; printed = refl }
