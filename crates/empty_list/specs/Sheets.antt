-- 02 a: "A sheet head with s = 00 is read so": as the head with s = 01 and the set 00.
use Rattle.std.specs.Prelude.{ℕ, ◌≤◌, ◌≡◌, List, [], ◌∷◌, ◌++◌, length}
use Rattle.std.proofs.Math.Option.{some}
use Rattle.codec.specs.Codec.{Width, encode}
use Rattle.protocol.specs.Limits.{sheet_most}
use Rattle.sheet.specs.Sheet.{Line, lines, line_bytes}
use Rattle.sheet.specs.Playing.{playing}

-- A sheet whose first line has these bytes, and whose other lines are ls.
pub record HasHead (text bytes : List ℕ) (ls : List Line) : Type 0 where
  pub line : Line
  pub splits : lines text ≡ line ∷ ls
  pub says : line_bytes line ≡ some bytes

-- n, m, the default, d, b, the dealer's value, no sets, F; and the same with the one set 00.
abbrev pub empty_head : Width → ℕ → ℕ → ℕ → ℕ → ℕ → ℕ → ℕ → List ℕ
empty_head w n m x d b v f = n ∷ (encode w (m ∷ x ∷ []) ++ (d ∷ b ∷ (encode w (v ∷ []) ++ (0 ∷ f ∷ []))))

abbrev pub zero_head : Width → ℕ → ℕ → ℕ → ℕ → ℕ → ℕ → ℕ → List ℕ
zero_head w n m x d b v f = n ∷ (encode w (m ∷ x ∷ []) ++ (d ∷ b ∷ (encode w (v ∷ []) ++ (1 ∷ 0 ∷ f ∷ []))))

-- Two sheets with these heads, alike in all other lines and not too long, are played the same: the answer, every byte of the output and every
-- cell.
abbrev pub SameSheets : Type 0
SameSheets =
    (w : Width) (n m x d b v f : ℕ) (ls : List Line) (empty zero cells out : List ℕ)
    → HasHead empty (empty_head w n m x d b v f) ls → HasHead zero (zero_head w n m x d b v f) ls
    → length empty ≤ sheet_most → length zero ≤ sheet_most → playing w empty cells out ≡ playing w zero cells out
