-- A middle layer: how `holders_of` fills the table of holders. Whoever uses the table goes by `holder_table`.
-- The table starts with each listed set at its own number and is folded seven times. A fold moves the top bit of each
-- number to the bottom; where it is 0 there, the board may be in the listed set or not. After seven folds every bit
-- stands where it was.
-- Assumes nothing.
use Rattle.std.specs.Prelude.{ℕ, zero, suc, ◌+◌, ◌-◌, ◌/◌, ◌%◌, min, Bool, ◌&&◌, ◌||◌, cond, List, eqb, ltb, length, get_or}
use Rattle.sets.specs.Search.{first}
use Rattle.sets.specs.Tabulate.{tabulate}

-- The first place from i on, of k, that passes the test, as a byte: FF if none does.
unfoldable pub place_from : (ℕ → Bool) → ℕ → ℕ → ℕ
place_from f k i = let p = first f (k - i) i in cond (ltb p k) p 255

-- After i folds: is the listed set s one of those that number c stands for?
unfoldable pub near : ℕ → ℕ → ℕ → Bool
near zero c s = eqb c (s % 128)
near (suc i) c s = (eqb (c % 2) 0 && near i (c / 2) s) || near i (64 + c / 2) s

-- The table after i folds.
unfoldable pub stage : List ℕ → ℕ → List ℕ
stage sets i = tabulate (λ c. place_from (λ p. near i c (get_or sets p 0)) (length sets) 0) 0 128

-- One fold.
unfoldable pub folded_at : List ℕ → ℕ → ℕ
folded_at from c = let with = get_or from (64 + c / 2) 0 in cond (eqb (c % 2) 0) (min (get_or from (c / 2) 0) with) with

unfoldable pub folding : List ℕ → List ℕ
folding from = tabulate (folded_at from) 0 128
