-- Bounded search and counting, over a test on numbers.
use Rattle.std.specs.Prelude.{ℕ, zero, suc, ◌+◌, Bool, cond, ltb}

-- The first number from i on that passes the test, of at most `left` tried; i + left if none does.
unfoldable pub first : (ℕ → Bool) → ℕ → ℕ → ℕ
first f zero i = i
first f (suc left) i = let rest = first f left (suc i) in cond (f i) i rest

-- Does some number below k pass the test?
unfoldable pub any : (ℕ → Bool) → ℕ → Bool
any f k = ltb (first f k 0) k

-- How many numbers below k pass the test.
unfoldable pub count : (ℕ → Bool) → ℕ → ℕ
count f zero = 0
count f (suc k) = count f k + cond (f k) 1 0
