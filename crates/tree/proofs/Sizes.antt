-- Sizes of levels and where levels start.
-- Assumes nothing.
use Prim.Native.Nat.{ℕ, zero, suc, ◌+◌, ◌-◌, ◌*◌, ◌≤◌, ◌<◌}
use mathlib.Core.Path.{◌≡◌, refl, sym, ap, ◌∙◌}
use mathlib.Core.Logic.{◌≢◌}
use mathlib.Core.Bool.{true}
use mathlib.Core.List.{[], ◌∷◌}
use native.Mathlib.Omega.{arith}
use native.Mathlib.Nat.{mul-add, mul_assoc, mul_comm, mul-le-mul, one-le-mul}
use native.Mathlib.Numerals.{add-one}
use lib.Dec.{eqb, leb}
use borrow.Author.Tests.{eqb-true, eqb-false, leb-true, leb-false}
use Rattle.sets.proofs.Tests.{cases}
use Rattle.tree.specs.Places.{level_size, level_start, cell_count}
use Rattle.tree.proofs.Below.{all, most}

pub size-suc : (n k : ℕ) → level_size n (suc (suc k)) ≡ level_size n (suc k) * (n - suc k)
unfolding level_size
size-suc n k = refl

pub size-one : (n : ℕ) → level_size n 1 ≡ 1
unfolding level_size
size-one n = refl

-- A node of level k has n − k children.
pub size-next : (n k : ℕ) → 0 < k → level_size n (k + 1) ≡ level_size n k * (n - k)
size-next n zero p = absurd (omega arith)
size-next n (suc k) p = ap (level_size n) (add-one (suc k)) ∙ size-suc n k

pub start-suc : (n k : ℕ) → level_start n (suc k) ≡ level_start n k + level_size n k
unfolding level_start
start-suc n k = refl

-- A label has at most n boards.
pub size-past : (n k : ℕ) → 0 < n → n < k → level_size n k ≡ 0
unfolding level_size
size-past n zero p l = refl
size-past n (suc zero) p l = absurd (omega arith)
size-past n (suc (suc k)) p l =
    let z : n - suc k ≡ 0 = omega arith in
    rw z (omega arith)

-- Down to level n no level is empty.
pub size-some : (n k : ℕ) → 0 < k → k ≤ n → 1 ≤ level_size n k
unfolding level_size
size-some n zero p l = absurd (omega arith)
size-some n (suc zero) p l = omega arith
size-some n (suc (suc k)) p l = one-le-mul (size-some n (suc k) (omega arith) (omega arith)) (omega arith)

-- With s places for each node of level k + 1 and all below it, each of level k has 1 + s × (n − k): its own, and its children's.
pub start_under : (n k s : ℕ) → 0 < k
    → level_start n k + level_size n k * (1 + s * (n - k)) ≡ level_start n (k + 1) + level_size n (k + 1) * s
start_under n k s p =
    let z = level_size n k in
    let w = n - k in
    omega (
      arith,
      mul-add z 1 (s * w),
      ap (λ x. z * x) (mul_comm s w),
      sym (mul_assoc z w s),
      ap (λ x. x * s) (size-next n k p),
      ap (level_start n) (add-one k) ∙ start-suc n k,
    )

-- Level 1 has one node and starts at 0, so the places for that node are all; level 0 has none.
pub start-all : (n k s : ℕ) → k ≤ 1 → (k ≡ 0 → s ≡ 0) → s ≡ level_start n k + level_size n k * s
unfolding level_start level_size
start-all n zero s l h = omega (arith, h refl)
start-all n (suc zero) s l h = omega arith
start-all n (suc (suc k)) s l h = absurd (omega arith)

pub start-mono : (n i k : ℕ) → i ≤ k → level_start n i ≤ level_start n k
start-mono n i zero l = let z : i ≡ 0 = omega arith in rw z (omega arith)
start-mono n i (suc k) l =
    cases (eqb i (suc k))
    (λ e. rw (eqb-true i (suc k) e) (omega arith))
    (λ e. let ne : i ≢ suc k = eqb-false i (suc k) e in omega (arith, start-mono n i k (omega arith), start-suc n k))

-- The levels past n are empty, so no level starts past the cells.
pub start-le : (n k : ℕ) → 0 < n → level_start n k ≤ cell_count n
unfolding cell_count
start-le n zero p = start-mono n 0 (suc n) (omega arith)
start-le n (suc k) p =
    let ih = start-le n k p in
    cases (leb k n)
    (λ e. let l : k ≤ n = leb-true k n e in start-mono n (suc k) (suc n) (omega arith))
    (λ e. let l : n < k = leb-false k n e in omega (arith, start-suc n k, size-past n k p l))

-- With more boards no level has fewer places, and none starts earlier.
size-boards : (n m k : ℕ) → n ≤ m → level_size n k ≤ level_size m k
unfolding level_size
size-boards n m zero l = omega arith
size-boards n m (suc zero) l = omega arith
size-boards n m (suc (suc k)) l =
    mul-le-mul (size-boards n m (suc k) l) (let z : n - suc k ≤ m - suc k = omega arith in z)

start-boards : (n m k : ℕ) → n ≤ m → level_start n k ≤ level_start m k
unfolding level_start
start-boards n m zero l = omega arith
start-boards n m (suc k) l = omega (arith, start-boards n m k l, size-boards n m k l)

-- So a bound on the levels of m boards is one on every level of at most m boards.
pub size-bound : (m b : ℕ) → 0 < m → all (λ k. leb (level_size m k) b) (suc m) ≡ true → (n k : ℕ) → n ≤ m → level_size n k ≤ b
size-bound m b p t n k l =
    cases (leb k m)
    (λ e. let low : k ≤ m = leb-true k m e in omega (arith, size-boards n m k l, most (level_size m) b (suc m) t k (omega arith)))
    (λ e. let deep : m < k = leb-false k m e in omega (arith, size-boards n m k l, size-past m k p deep))

-- All levels past n start where the cells end.
pub start-past : (n k : ℕ) → 0 < n → n < k → level_start n (n + 1) ≡ level_start n k
unfolding cell_count
start-past n k p l = omega (arith, ap (level_start n) (add-one n), start-mono n (suc n) k (omega arith), start-le n k p)

-- 01: the cells of a board, for n from 1 to 7.
pub cells-computed :
    cell_count 1 ∷ cell_count 2 ∷ cell_count 3 ∷ cell_count 4 ∷ cell_count 5 ∷ cell_count 6 ∷ cell_count 7 ∷ []
    ≡ 1 ∷ 2 ∷ 5 ∷ 16 ∷ 65 ∷ 326 ∷ 1957 ∷ []
unfolding cell_count level_start level_size
cells-computed = refl

-- The sizes of levels 1 to 7, for n = 7.
pub sizes-computed :
    level_size 7 1 ∷ level_size 7 2 ∷ level_size 7 3 ∷ level_size 7 4 ∷ level_size 7 5 ∷ level_size 7 6 ∷ level_size 7 7 ∷ []
    ≡ 1 ∷ 6 ∷ 30 ∷ 120 ∷ 360 ∷ 720 ∷ 720 ∷ []
unfolding level_size
sizes-computed = refl

-- With at most seven boards a level has at most 720 places, and a board at most 1,957 cells.
pub size-most : (n k : ℕ) → n ≤ 7 → level_size n k ≤ 720
unfolding level_size
size-most = size-bound 7 720 (omega arith) refl

pub cells-most : (n : ℕ) → n ≤ 7 → cell_count n ≤ 1957
unfolding cell_count level_start level_size
cells-most n l = let seven : cell_count 7 ≡ 1957 = refl in omega (arith, start-boards n 7 (suc n) l, start-le 7 (suc n) (omega arith))
