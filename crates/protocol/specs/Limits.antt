-- The limits of sheets and frames, by the width of a value where they depend on it.
use Rattle.std.specs.Prelude.{ℕ, ◌+◌, ◌*◌}
use Rattle.codec.specs.Codec.{Width, value_size}

-- 01: "20: above 65,536 bytes."
abbrev pub sheet_most : ℕ
sheet_most = 65536

-- The characters of a printed line: board, decision, list, place, two digits a byte, and a newline.
abbrev pub line_length : Width → ℕ
line_length w = 2 + 2 * value_size w + 2 + 2 + 1

-- 02 c: "the output needs 63 bytes": a line for each of seven boards; 02 g, in two bytes: "the output needs 77 bytes".
abbrev pub output_needed : Width → ℕ
output_needed w = 7 * line_length w

-- The cells of a board in a plan of seven.
abbrev pub part_most : ℕ
part_most = 1957

-- 01: "11: cells under 13,699": a part for each of seven boards.
abbrev pub cells_needed : ℕ
cells_needed = 7 * part_most

-- The most values of a frame (proofs/Few), and room for their bytes and one more, so that a longer frame is told from it.
abbrev pub frame_most : ℕ
frame_most = 120

abbrev pub frame_room : Width → ℕ
frame_room w = frame_most * value_size w + 1
