-- The public call that admits a list of sets.
use Rattle.std.specs.Prelude.{ℕ, Bool, not, ◌||◌, cond, List, eqb, ltb, length, get_or}
use Rattle.sets.specs.Search.{any}
use Rattle.sets.specs.Sets.{within, boards}
use Rattle.covering.specs.Cover.{covering}
use Rattle.refusals.specs.Outcome.{Outcome, refused}

-- Number 4: a set names board n or above.
unfoldable pub strays : ℕ → List ℕ → Bool
strays n sets = any (λ i. not (within (get_or sets i 0) (boards n))) (length sets)

-- 01, 'Admitting sets': the first of 1, 3, 4 and 5 that applies to `count` sets. 02 a: "an empty list means that only the empty set is
-- tolerated", so number 2 is gone.
unfoldable pub admitting : ℕ → ℕ → List ℕ → Outcome
admitting n count sets =
    cond (eqb n 0 || ltb 7 n) (refused 1)
    (cond (ltb 32 count) (refused 3)
    (cond (strays n sets) (refused 4) (covering n sets)))
