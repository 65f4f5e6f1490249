-- Number 5 in other words: "the places .. of the first such triple, ordered by i, then j, then k".
use Rattle.std.specs.Prelude.{ℕ, ◌≤◌, ◌<◌, ◌≡◌, true, ◌||◌, List, ◌⊎◌, length, get_or}
use Rattle.sets.specs.Sets.{member}

-- Every board below n is in a, b or c.
abbrev pub Cover : ℕ → ℕ → ℕ → ℕ → Type 0
Cover n a b c = (q : ℕ) → q < n → (member q a || (member q b || member q c)) ≡ true

-- (i, j, k) stands no later than (x, y, z), ordered by the first, then the second, then the third.
abbrev pub NoLater : ℕ → ℕ → ℕ → ℕ → ℕ → ℕ → Type 0
NoLater i j k x y z = (i < x) ⊎ ((i ≡ x) × ((j < y) ⊎ ((j ≡ y) × (k ≤ z))))

-- (i, j, k) are the places of the first covering triple.
pub record FirstTriple (n : ℕ) (sets : List ℕ) (i j k : ℕ) : Type 0 where
  pub ordered : (i ≤ j) × (j ≤ k) × (k < length sets)
  pub covering : Cover n (get_or sets i 0) (get_or sets j 0) (get_or sets k 0)
  pub earliest : (x y z : ℕ) → x ≤ y → y ≤ z → z < length sets
      → Cover n (get_or sets x 0) (get_or sets y 0) (get_or sets z 0)
      → NoLater i j k x y z
