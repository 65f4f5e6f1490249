-- Sets of boards as bytes. 01: "A set of boards is a byte; bit i means board i."
use Rattle.std.specs.Prelude.{ℕ, zero, suc, ◌-◌, ◌/◌, ◌%◌, ◌^◌, Bool, cond, eqb}
use Rattle.std.specs.Int.Bits.{bit_and, bit_or}
use Rattle.sets.specs.Search.{count}

-- Is board i in s?
unfoldable pub member : ℕ → ℕ → Bool
member i s = eqb (s / 2 ^ i % 2) 1

-- The boards of both sets.
unfoldable pub union : ℕ → ℕ → ℕ
union a b = bit_or a b

-- The set with board i.
unfoldable pub insert : ℕ → ℕ → ℕ
insert i s = bit_or s (2 ^ i)

-- Does a lie within s?
unfoldable pub within : ℕ → ℕ → Bool
within a s = eqb (bit_and a s) a

-- All boards, 0 to n - 1.
unfoldable pub boards : ℕ → ℕ
boards n = 2 ^ n - 1

-- The set of the boards below n that pass the test.
unfoldable pub set_of : (ℕ → Bool) → ℕ → ℕ
set_of f zero = 0
set_of f (suc k) = let rest = set_of f k in cond (f k) (insert k rest) rest

-- How many boards a set has.
unfoldable pub size : ℕ → ℕ
size s = count (λ i. member i s) 8
