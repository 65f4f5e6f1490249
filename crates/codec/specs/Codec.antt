-- How wide values are, how frames and sheets write them, and the mark of a cell that holds none.
use Rattle.std.specs.Prelude.{ℕ, suc, ◌+◌, ◌*◌, ◌/◌, ◌%◌, cond, List, [], ◌∷◌, ◌++◌, eqb, length, get_or, take, drop}

-- A value has one byte, or two.
pub data Width : Type 0 where
  one : Width
  two : Width

-- The width of the code's values. 02 g: "Spans go up to 65,535, cells hold two bytes' worth"; 01 has one byte.
abbrev pub current : Width
current = two

-- The bytes of a value.
abbrev pub value_size : Width → ℕ
value_size one = 1
value_size two = 2

-- 01: "A place with no value yet, or no node, holds FF"; 02 g: "FFFF marks a cell without a value."
abbrev pub blank : Width → ℕ
blank one = 0xFF
blank two = 0xFFFF

-- The bytes of values. 02 g: "written high byte first".
unfoldable pub encode : Width → List ℕ → List ℕ
encode one vs = vs
encode two [] = []
encode two (v ∷ vs) = (v / 256) ∷ ((v % 256) ∷ encode two vs)

-- Bytes two by two, as numbers.
unfoldable pub pairs : List ℕ → List ℕ
pairs [] = []
pairs (h ∷ []) = []
pairs (h ∷ (l ∷ f)) = (h * 256 + l) ∷ pairs f

-- The values of bytes. 02 g: "A frame of an odd length is a misfit": in two bytes it has no values, and every due frame has some.
unfoldable pub decode : Width → List ℕ → List ℕ
decode one f = f
decode two f = cond (eqb (length f % 2) 0) (pairs f) []

-- The number that stands at place i of the bytes of a head. 02 g: "frames, defaults, spans and dealer's values are written high byte first".
unfoldable pub number_at : Width → List ℕ → ℕ → ℕ
number_at one bytes i = get_or bytes i 0
number_at two bytes i = get_or bytes i 0 * 256 + get_or bytes (suc i) 0

-- The bytes with v as value number i. A middle layer: one step of `encode`.
unfoldable pub written : Width → ℕ → ℕ → List ℕ → List ℕ
written w i v out = take (value_size w * i) out ++ (encode w (v ∷ []) ++ drop (value_size w * suc i) out)
