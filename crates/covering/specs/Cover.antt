-- Number 5: three sets that cover all boards.
use Rattle.std.specs.Prelude.{ℕ, ◌-◌, Bool, cond, List, [], ◌∷◌, ltb, length, get_or}
use Rattle.sets.specs.Search.{first}
use Rattle.sets.specs.Sets.{union, within, boards}
use Rattle.refusals.specs.Outcome.{Outcome, taken, refused_at}

-- Do the sets at places i, j and k cover all boards?
unfoldable pub covers : ℕ → List ℕ → ℕ → ℕ → ℕ → Bool
covers n sets i j k = within (boards n) (union (union (get_or sets i 0) (get_or sets j 0)) (get_or sets k 0))

-- Number 5: "the places i ≤ j ≤ k, from 0, of the first such triple, ordered by i, then j, then k".
-- The first k from j on with which the sets at i and j cover; the list's length if there is none.
unfoldable pub third_place : ℕ → List ℕ → ℕ → ℕ → ℕ
third_place n sets i j = first (covers n sets i j) (length sets - j) j

-- The first j from i on for which there is such a k.
unfoldable pub second_place : ℕ → List ℕ → ℕ → ℕ
second_place n sets i = first (λ j. ltb (third_place n sets i j) (length sets)) (length sets - i) i

-- The first i for which there are such a j and k.
unfoldable pub first_place : ℕ → List ℕ → ℕ
first_place n sets = first (λ i. ltb (second_place n sets i) (length sets)) (length sets) 0

-- Do three listed sets, repeats allowed, cover all boards?
unfoldable pub covered : ℕ → List ℕ → Bool
covered n sets = ltb (first_place n sets) (length sets)

-- The places of the first covering triple.
unfoldable pub places : ℕ → List ℕ → List ℕ
places n sets =
    let i = first_place n sets in
    let j = second_place n sets i in
    i ∷ j ∷ third_place n sets i j ∷ []

-- 01, 'Admitting sets', 5: three sets cover all boards, with the places of the first such triple.
unfoldable pub covering : ℕ → List ℕ → Outcome
covering n sets = let triple = refused_at (places n sets) in cond (covered n sets) triple (taken [])
