-- Demand 2, second sentence: "A list of sets within the limits is refused exactly if three of them, repeats allowed, cover all boards."
use Rattle.std.specs.Prelude.{ℕ, ◌≤◌, ◌<◌, ◌≡◌, true, List, [], ◌∷◌, ◌⊎◌, ◌↔◌, length, get_or}
use Rattle.sets.specs.Sets.{member}
use Rattle.sets.specs.Structure.{tolerated}
use Rattle.covering.specs.Triples.{Cover, FirstTriple}
use Rattle.admission.specs.Calls.{admitting}

-- Every set is a byte that names boards below n only.
abbrev pub Names : ℕ → List ℕ → Type 0
Names n sets = (i : ℕ) → i < length sets → (q : ℕ) → member q (get_or sets i 0) ≡ true → q < n

-- Within the limits: numbers 1, 3 and 4 do not apply. The list may be empty.
pub record Within (n : ℕ) (sets : List ℕ) : Type 0 where
  pub some-board : 0 < n
  pub most-boards : n ≤ 7
  pub most-sets : length sets ≤ 32
  pub names : Names n sets

-- Three listed sets, repeats allowed, cover all boards.
abbrev pub ListedCover : ℕ → List ℕ → Type 0
ListedCover n sets =
    (i : ℕ) × (j : ℕ) × (k : ℕ) × (i < length sets) × (j < length sets) × (k < length sets)
    × Cover n (get_or sets i 0) (get_or sets j 0) (get_or sets k 0)

-- Three tolerated sets cover all boards. 003: Q3 fails.
abbrev pub ToleratedCover : ℕ → List ℕ → Type 0
ToleratedCover n sets =
    (a : ℕ) × (b : ℕ) × (c : ℕ) × (tolerated sets a ≡ true) × (tolerated sets b ≡ true) × (tolerated sets c ≡ true) × Cover n a b c

pub record RefusedByFive (n : ℕ) (sets : List ℕ) : Type 0 where
  -- within the limits the answer is 0 or 5
  pub answer : ((admitting n (length sets) sets).number ≡ 0) ⊎ ((admitting n (length sets) sets).number ≡ 5)
  pub listed : ((admitting n (length sets) sets).number ≡ 5) ↔ ListedCover n sets
  pub tolerated : ((admitting n (length sets) sets).number ≡ 5) ↔ ToleratedCover n sets
  pub triple : (admitting n (length sets) sets).number ≡ 5
      → (i : ℕ) × (j : ℕ) × (k : ℕ) × ((admitting n (length sets) sets).values ≡ i ∷ j ∷ k ∷ []) × FirstTriple n sets i j k

abbrev pub ThreeCover : Type 0
ThreeCover = (n : ℕ) (sets : List ℕ) → Within n sets → RefusedByFive n sets
