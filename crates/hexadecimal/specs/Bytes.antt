-- The bytes of a line of digits where they stand, as the code reads them. A middle layer: the bytes of digits are `bytes_of`.
use Rattle.std.specs.Prelude.{ℕ, zero, suc, ◌+◌, ◌*◌, Bool, true, false, List, [], ◌∷◌, get_or}
use Rattle.std.proofs.Math.Option.{Option, some, none}
use Rattle.std.specs.Prelude as Std
use Rattle.hexadecimal.specs.Hex.{digit, bytes_of}

-- What the code says of a character, in the words of `digit`.
unfoldable pub digit_says : Std.Option ℕ → Option ℕ
digit_says (Std.Some x) = some x
digit_says Std.None = none

unfoldable pub is_given : Option (List ℕ) → Bool
is_given none = false
is_given (some bytes) = true

-- 01: "another character, an odd digit count" is number 21.
unfoldable pub is_text : List ℕ → Bool
is_text line = is_given (bytes_of line)

unfoldable pub byte_of : Option ℕ → Option ℕ → ℕ
byte_of none lo = 0
byte_of (some h) none = 0
byte_of (some h) (some l) = h * 16 + l

-- Byte number k, from its two digits; 0 where one of them is missing.
unfoldable pub byte_at : List ℕ → ℕ → ℕ
byte_at line k = byte_of (digit (get_or line (2 * k) 0)) (digit (get_or line (2 * k + 1) 0))

-- The k bytes from number i on.
unfoldable pub bytes_from : List ℕ → ℕ → ℕ → List ℕ
bytes_from line i zero = []
bytes_from line i (suc k) = byte_at line i ∷ bytes_from line (suc i) k
