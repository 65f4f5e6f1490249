-- A refusal as a run of stores.
-- Assumes nothing.
use Prim.Native.Nat.{ℕ, ◌/◌, ◌%◌}
use mathlib.Core.Path.{◌≡◌, refl}
use mathlib.Core.List.{List, []}
use lib.ListN.{length, set}
use lib.Seq.{sets}
use Rattle.hexadecimal.specs.Hex.{hex_byte}
use Rattle.sheet.specs.Playing.{refusal_text}

pub refusal-stores : (o : List ℕ) (number line : ℕ)
    → set (sets (sets (sets (sets o 0 (hex_byte 255 [])) 2 (hex_byte number [])) 4 (hex_byte (line / 256) [])) 6 (hex_byte (line % 256) [])) 8 10
    ≡ sets o 0 (refusal_text number line)
unfolding hex_byte refusal_text
refusal-stores o number line = refl

pub refusal-size : (number line : ℕ) → length (refusal_text number line) ≡ 9
unfolding hex_byte refusal_text
refusal-size number line = refl
