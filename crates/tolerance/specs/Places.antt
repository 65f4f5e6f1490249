-- The answer to the test whether a set is tolerated: what a place says.
use Rattle.std.specs.Prelude.{ℕ, [], ◌∷◌, Option, Some, None}
use Rattle.std.proofs.Math.Option as M
use Rattle.refusals.specs.Outcome.{Outcome, taken}

-- The number and the values of an answer. 02 c: the test "gives the place .. or says that none does". Nothing turns it down, so the number
-- is 0; the value is the place, and there is none where no listed set holds the set.
unfoldable pub place_says : Option ℕ → Outcome
place_says (Some i) = taken (i ∷ [])
place_says None = taken []

-- The answer for what `holder` of sets/Structure gives.
unfoldable pub found_at : M.Option ℕ → Outcome
found_at (M.some i) = taken (i ∷ [])
found_at M.none = taken []
