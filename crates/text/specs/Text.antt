-- What stands in a line, by its digits. A middle layer: the definitions speak of a line's bytes.
use Rattle.std.specs.Prelude.{ℕ, suc, List, [], ◌∷◌}
use Rattle.codec.specs.Codec.{Width, number_at}
use Rattle.hexadecimal.specs.Bytes.{byte_at}

-- The number that stands from byte number k on, as wide as a value.
abbrev pub number_from : Width → List ℕ → ℕ → ℕ
number_from w line k = number_at w (byte_at line k ∷ byte_at line (suc k) ∷ []) 0
