-- Bytes and the digits that they are written in, both ways.
use Rattle.std.specs.Prelude.{ℕ, ◌+◌, ◌-◌, ◌*◌, ◌/◌, ◌%◌, ◌&&◌, cond, List, [], ◌∷◌, leb, ltb}
use Rattle.std.proofs.Math.Option.{Option, some, none}

-- 01: "uppercase hexadecimal, two digits a byte".
unfoldable pub digit : ℕ → Option ℕ
digit c = cond (leb 48 c && leb c 57) (some (c - 48)) (cond (leb 65 c && leb c 70) (some (c - 55)) none)

unfoldable pub join_byte : Option ℕ → Option ℕ → Option (List ℕ) → Option (List ℕ)
join_byte none lo rest = none
join_byte (some h) none rest = none
join_byte (some h) (some l) none = none
join_byte (some h) (some l) (some bytes) = some ((h * 16 + l) ∷ bytes)

-- The bytes of a line's digits; none for another character or an odd digit count.
unfoldable pub bytes_of : List ℕ → Option (List ℕ)
bytes_of [] = some []
bytes_of (c ∷ []) = none
bytes_of (c ∷ (e ∷ cs)) = join_byte (digit c) (digit e) (bytes_of cs)

-- A byte as two digits.
unfoldable pub hex_digit : ℕ → ℕ
hex_digit x = cond (ltb x 10) (48 + x) (55 + x)

unfoldable pub hex_byte : ℕ → List ℕ → List ℕ
hex_byte x rest = hex_digit (x / 16) ∷ hex_digit (x % 16) ∷ rest

-- Bytes as digits.
unfoldable pub hex_bytes : List ℕ → List ℕ → List ℕ
hex_bytes [] rest = rest
hex_bytes (x ∷ xs) rest = hex_byte x (hex_bytes xs rest)
