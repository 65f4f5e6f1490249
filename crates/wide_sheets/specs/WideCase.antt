-- Case 7 of 01, with the default 00 (02 b) and places 00 (02 c), and the same in two bytes: a test of what widening does to a text.
use Rattle.std.specs.Prelude.{ℕ, ◌≡◌, List, [], ◌∷◌, ◌++◌}
use Rattle.hexadecimal.specs.Hex.{hex_bytes}
use Rattle.wide_sheets.specs.WideText.{wide_text, wide_printed}

-- A line of bytes.
abbrev pub byte_line : List ℕ → List ℕ
byte_line bytes = hex_bytes bytes (10 ∷ [])

-- The sheet: n, m, default, d, b, the dealer's value, s, the sets, F; then frames.
unfoldable pub sheet7 : List ℕ
sheet7 =
    byte_line (0x04 ∷ 0x10 ∷ 0x00 ∷ 0x00 ∷ 0x00 ∷ 0x05 ∷ 0x04 ∷ 0x01 ∷ 0x02 ∷ 0x04 ∷ 0x08 ∷ 0x01 ∷ [])
    ++ (byte_line (0x01 ∷ 0x01 ∷ 0x00 ∷ 0x01 ∷ 0x05 ∷ [])
    ++ (byte_line (0x01 ∷ 0x01 ∷ 0x00 ∷ 0x02 ∷ 0x05 ∷ []) ++ byte_line (0x01 ∷ 0x01 ∷ 0x00 ∷ 0x03 ∷ 0x07 ∷ [])))

-- 02 g: "in cases 7 to 9 each of these numbers, and each decision, gets 00 before it".
unfoldable pub wide_sheet7 : List ℕ
wide_sheet7 =
    byte_line (0x04 ∷ 0x00 ∷ 0x10 ∷ 0x00 ∷ 0x00 ∷ 0x00 ∷ 0x00 ∷ 0x00 ∷ 0x05 ∷ 0x04 ∷ 0x01 ∷ 0x02 ∷ 0x04 ∷ 0x08 ∷ 0x01 ∷ [])
    ++ (byte_line (0x01 ∷ 0x01 ∷ 0x00 ∷ 0x01 ∷ 0x00 ∷ 0x05 ∷ [])
    ++ (byte_line (0x01 ∷ 0x01 ∷ 0x00 ∷ 0x02 ∷ 0x00 ∷ 0x05 ∷ []) ++ byte_line (0x01 ∷ 0x01 ∷ 0x00 ∷ 0x03 ∷ 0x00 ∷ 0x07 ∷ [])))

-- What is printed: board, decision, list, place.
unfoldable pub printed7 : List ℕ
printed7 =
    byte_line (0x01 ∷ 0x05 ∷ 0x00 ∷ 0x00 ∷ []) ++ (byte_line (0x02 ∷ 0x05 ∷ 0x00 ∷ 0x00 ∷ []) ++ byte_line (0x03 ∷ 0x05 ∷ 0x00 ∷ 0x00 ∷ []))

unfoldable pub wide_printed7 : List ℕ
wide_printed7 =
    byte_line (0x01 ∷ 0x00 ∷ 0x05 ∷ 0x00 ∷ 0x00 ∷ [])
    ++ (byte_line (0x02 ∷ 0x00 ∷ 0x05 ∷ 0x00 ∷ 0x00 ∷ []) ++ byte_line (0x03 ∷ 0x00 ∷ 0x05 ∷ 0x00 ∷ 0x00 ∷ []))

pub record Case7 : Type 0 where
  pub sheet : wide_text sheet7 ≡ wide_sheet7
  pub printed : wide_printed printed7 ≡ wide_printed7
