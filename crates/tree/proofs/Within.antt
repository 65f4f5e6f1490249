-- Sizes and starts of levels with their limits: 0 unless n is 1 to 7.
-- Assumes nothing.
use Prim.Native.Nat.{ℕ, ◌+◌, ◌≤◌, ◌<◌, min}
use mathlib.Core.Path.{◌≡◌, sym, ◌∙◌, ap}
use mathlib.Core.Logic.{◌≢◌}
use mathlib.Core.Bool.{Bool, true, false, ◌&&◌}
use native.Mathlib.Omega.{arith}
use native.Mathlib.Numerals.{add-one}
use lib.Dec.{eqb, leb}
use borrow.Author.Tests.{eqb-true, eqb-false, le-leb, lt-leb, leb-true, leb-false}
use Rattle.sets.proofs.Tests.{cases, and_l, and_r}
use Rattle.tree.specs.Places.{level_size, level_start, cell_count, size_within, start_within, count_within}
use Rattle.tree.proofs.Sizes.{size-past, start-suc, start-le, start-past, cells-most}

-- n is from 1 to 7.
abbrev limits : ℕ → Bool
limits n = leb 1 n && leb n 7

limits-low : (n : ℕ) → limits n ≡ true → 0 < n
limits-low n e = leb-true 1 n (and_l (leb 1 n) (leb n 7) e)

limits-high : (n : ℕ) → limits n ≡ true → n ≤ 7
limits-high n e = leb-true n 7 (and_r (leb 1 n) (leb n 7) e)

limits-true : (n : ℕ) → 0 < n → n ≤ 7 → limits n ≡ true
limits-true n p l = rw (le-leb 1 n p) (le-leb n 7 l)

limits-none : (n : ℕ) → n ≡ 0 → limits n ≡ false
limits-none n e = rw (lt-leb 1 n (omega arith))

limits-past : (n : ℕ) → 7 < n → limits n ≡ false
limits-past n l = rw (le-leb 1 n (omega arith)) (lt-leb n 7 l)

pub size-within : (n k : ℕ) → 0 < n → n ≤ 7 → size_within n k ≡ level_size n k
unfolding size_within
size-within n k p l = rw (limits-true n p l)

pub start-within : (n k : ℕ) → 0 < n → n ≤ 7 → start_within n k ≡ level_start n k
unfolding start_within
start-within n k p l = rw (limits-true n p l)

pub count-within : (n : ℕ) → 0 < n → n ≤ 7 → count_within n ≡ cell_count n
unfolding count_within
count-within n p l = rw (limits-true n p l)

pub size-over : (n k : ℕ) → 7 < n → size_within n k ≡ 0
unfolding size_within
size-over n k l = rw (limits-past n l)

-- Level 0 and the levels past n have no places, whatever n is.
pub size-zero : (n : ℕ) → size_within n 0 ≡ 0
unfolding size_within level_size
size-zero n = cases (limits n) (λ e. rw e) (λ e. rw e)

pub size-deep : (n k : ℕ) → n < k → size_within n k ≡ 0
unfolding size_within
size-deep n k l = cases (limits n) (λ e. rw e (size-past n k (limits-low n e) l)) (λ e. rw e)

start_none : (n k : ℕ) → n ≡ 0 → start_within n k ≡ 0
unfolding start_within
start_none n k e = rw (limits-none n e)

pub start-over : (n k : ℕ) → 7 < n → start_within n k ≡ 0
unfolding start_within
start-over n k l = rw (limits-past n l)

-- The code counts from level k, or from the one past n if k is further down: both start where level k does.
start-near : (n k : ℕ) → n ≤ 7 → k ≤ n → level_start n k ≡ start_within n k
unfolding level_start
start-near n k m l =
    cases (eqb n 0)
    (λ e. let none : n ≡ 0 = eqb-true n 0 e in
    let first : k ≡ 0 = omega arith in
    ap (level_start n) first ∙ sym (start_none n k none))
    (λ e. let some : n ≢ 0 = eqb-false n 0 e in sym (start-within n k (omega arith) m))

start-deep : (n k : ℕ) → n ≤ 7 → n < k → level_start n (n + 1) ≡ start_within n k
unfolding level_start level_size
start-deep n k m l =
    cases (eqb n 0)
    (λ e. let none : n ≡ 0 = eqb-true n 0 e in
    let first : n + 1 ≡ 1 = omega arith in
    ap (level_start n) first ∙ sym (start_none n k none))
    (λ e. let some : n ≢ 0 = eqb-false n 0 e in start-past n k (omega arith) l ∙ sym (start-within n k (omega arith) m))

pub start-end : (n k : ℕ) → n ≤ 7 → level_start n (min k (n + 1)) ≡ start_within n k
start-end n k m =
    cases (leb k n)
    (λ e. let l = leb-true k n e in
    ap (level_start n) (let z : min k (n + 1) ≡ k = omega arith in z) ∙ start-near n k m l)
    (λ e. let l = leb-false k n e in
    ap (level_start n) (let z : min k (n + 1) ≡ n + 1 = omega arith in z) ∙ start-deep n k m l)

-- A level starts where the one before it ends.
pub start-next : (n k : ℕ) → start_within n (k + 1) ≡ start_within n k + size_within n k
unfolding start_within size_within
start-next n k =
    ap (λ x. start_within n x) (add-one k)
    ∙ cases (limits n) (λ e. rw e (start-suc n k)) (λ e. rw e)

pub start-most : (n k : ℕ) → start_within n k ≤ 1957
unfolding start_within
start-most n k =
    cases (limits n)
    (λ e. rw e (omega (arith, start-le n k (limits-low n e), cells-most n (limits-high n e))))
    (λ e. rw e (omega arith))

pub count-over : (n : ℕ) → 7 < n → count_within n ≡ 0
unfolding count_within
count-over n l = rw (limits-past n l)

-- The cells end where level n ends.
pub count-start : (n : ℕ) → count_within n ≡ start_within n (n + 1)
unfolding count_within start_within cell_count
count-start n = rw (add-one n)
