-- A sheet in one-byte values, and the same in two-byte values: 00 before each value, in the sheet and in what is printed. 02 g: "frames, defaults,
-- spans and dealer's values are written high byte first"; "each of these numbers, and each decision, gets 00 before it".
use Rattle.std.specs.Prelude.{ℕ, suc, Bool, ◌||◌, cond, List, [], ◌∷◌, ◌++◌, map, eqb, leb, length, get_or, take, drop}
use Rattle.codec.specs.Codec.{one}
use Rattle.refusals.specs.Outcome.{taken}
use Rattle.protocol.specs.Calls.{is_taken}
use Rattle.sheet.specs.Sheet.{Line, lines, span_place, default_place, word_place}
use Rattle.sheet.specs.Playing.{Play}
use Rattle.widening.specs.Widening.{wide}

-- Is byte number k of a line a value? In a head: the span, the default and the dealer's value.
unfoldable pub head_value : ℕ → Bool
head_value k = eqb k (span_place one) || (eqb k (default_place one) || eqb k (word_place one))

-- 01: "one frame a line: run, round, sender, receiver, values".
unfoldable pub frame_value : ℕ → Bool
frame_value k = leb 4 k

-- 01: "board, decision, list as a set", and the place (02 c).
unfoldable pub printed_value : ℕ → Bool
printed_value k = eqb k 1

-- The characters of a line from byte number k on, two a byte: the digits 00 before each value. A last character that has no second stays.
unfoldable pub wide_digits : (ℕ → Bool) → ℕ → List ℕ → List ℕ
wide_digits is_value k [] = []
wide_digits is_value k (c ∷ []) = c ∷ []
wide_digits is_value k (c ∷ (e ∷ cs)) =
    let rest = c ∷ (e ∷ wide_digits is_value (suc k) cs) in
    cond (is_value k) (0x30 ∷ (0x30 ∷ rest)) rest

unfoldable pub wide_line : (ℕ → Bool) → Line → Line
wide_line is_value l = record { text = wide_digits is_value 0 l.text; ended = l.ended }

-- The lines of a sheet: the head, then frames.
unfoldable pub wide_lines : List Line → List Line
wide_lines [] = []
wide_lines (l ∷ ls) = wide_line head_value l ∷ map (wide_line frame_value) ls

-- The text of lines.
unfoldable pub joined : List Line → List ℕ
joined [] = []
joined (l ∷ ls) = let rest = joined ls in l.text ++ cond l.ended (10 ∷ rest) rest

-- A sheet.
unfoldable pub wide_text : List ℕ → List ℕ
wide_text text = joined (wide_lines (lines text))

-- The lines that are printed for an accepted sheet.
unfoldable pub wide_printed : List ℕ → List ℕ
wide_printed text = joined (map (wide_line printed_value) (lines text))

-- What playing leaves, where the output was `out`. Taken: the answer is the length of the widened lines, which the output begins with. Refused: the
-- answer is the same. The cells are widened.
unfoldable pub wide_play : List ℕ → Play → Play
wide_play out r =
    let text = wide_printed (take (get_or r.answer.values 0 0) r.out) in
    record {
      answer = cond (is_taken r.answer) (taken (length text ∷ [])) r.answer;
      cells = map wide r.cells;
      out = cond (is_taken r.answer) (text ++ drop (length text) out) out;
    }
