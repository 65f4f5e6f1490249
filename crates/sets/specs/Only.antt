-- The only number that passes a test; equality of optional numbers, and of lists.
-- Assumes nothing.
use Rattle.std.specs.Prelude.{ℕ, Bool, true, false, ◌&&◌, cond, List, [], ◌∷◌, eqb}
use Rattle.std.proofs.Math.Option.{Option, some, none}
use Rattle.sets.specs.Search.{count, first}

-- The only number below k that passes the test; none if there is none or more than one.
unfoldable pub only : (ℕ → Bool) → ℕ → Option ℕ
only f k = cond (eqb (count f k) 1) (some (first f k 0)) none

unfoldable pub same : Option ℕ → Option ℕ → Bool
same none none = true
same none (some w) = false
same (some v) none = false
same (some v) (some w) = eqb v w

unfoldable pub same_list : List ℕ → List ℕ → Bool
same_list [] [] = true
same_list [] (y ∷ ys) = false
same_list (x ∷ xs) [] = false
same_list (x ∷ xs) (y ∷ ys) = eqb x y && same_list xs ys
