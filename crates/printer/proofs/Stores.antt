-- Lines as runs of stores.
-- Assumes nothing.
use Prim.Native.Nat.{ℕ, suc, ◌+◌, ◌*◌, ◌/◌, ◌%◌, ◌≤◌}
use mathlib.Core.Path.{◌≡◌, refl, ap, ◌∙◌}
use mathlib.Core.List.{List, [], ◌∷◌, ◌++◌}
use native.Mathlib.Numerals.{add-two, add-four, add_six, add_eight}
use native.Mathlib.Omega.{arith}
use lib.ListN.{length, drop, set}
use lib.Seq.{sets, sets-eq}
use Rattle.codec.specs.Codec.{Width, one, two, current, value_size, encode}
use Rattle.hexadecimal.specs.Hex.{hex_byte, hex_bytes}
use Rattle.sheet.specs.Playing.{hex_value, printed}

-- Two runs, one after the other.
pub stores-more : (l a b : List ℕ) (i k : ℕ) → k ≡ i + length a → sets (sets l i a) k b ≡ sets l i (a ++ b)
stores-more l [] b i k e = ap (λ m. sets l m b) (let z : k ≡ i = omega arith in z)
stores-more l (x ∷ a) b i k e = stores-more (set l i x) a b (suc i) k (omega arith)

-- A run from the start.
pub stores-first : (l a : List ℕ) → length a ≤ length l → sets l 0 a ≡ a ++ drop (length a) l
stores-first l a h =
    let z : 0 + length a ≡ length a = omega arith in
    sets-eq a l 0 (omega arith) ∙ ap (λ k. a ++ drop k l) z

-- The digits of a value's bytes, as the code writes them.
pub value-stores : (o : List ℕ) (at v : ℕ) → sets (sets o at (hex_byte (v / 256) [])) (at + 2) (hex_byte (v % 256) []) ≡ sets o at (hex_value current v [])
unfolding encode hex_byte hex_bytes hex_value
value-stores o at v = rw (add-two at) refl

-- Where a line's list stands, its place, and its newline: behind the board and the decision.
abbrev pub list_at : Width → ℕ
list_at w = 2 + 2 * value_size w

abbrev pub place_at : Width → ℕ
place_at w = list_at w + 2

abbrev pub newline_at : Width → ℕ
newline_at w = place_at w + 2

pub line-stores : (w : Width) (o : List ℕ) (at board decision list place : ℕ)
    → set (sets (sets (sets (sets o at (hex_byte board [])) (at + 2) (hex_value w decision [])) (at + list_at w) (hex_byte list [])) (at + place_at w) (hex_byte place [])) (at + newline_at w) 10
    ≡ sets o at (printed w board decision list place [])
unfolding encode hex_byte hex_bytes hex_value printed
line-stores one o at board decision list place = rw (add-two at, add-four at, add_six at, add_eight at) refl
line-stores two o at board decision list place =
    let ten : at + 10 ≡ suc (suc (at + 8)) = omega arith in
    rw (ten, add-two at, add_six at, add_eight at) refl
