-- A test that is computed at each number below a bound, and the fact at each of them.
-- Assumes nothing.
use Prim.Native.Nat.{ℕ, zero, suc, ◌≤◌, ◌<◌}
use mathlib.Core.Path.{◌≡◌, sym, subst}
use mathlib.Core.Logic.{◌≢◌}
use mathlib.Core.Bool.{Bool, true, ◌&&◌}
use native.Mathlib.Omega.{arith}
use lib.Dec.{eqb, leb}
use borrow.Author.Tests.{eqb-true, eqb-false, leb-true}
use Rattle.sets.proofs.Tests.{cases, and_l, and_r}

-- Do all numbers below k pass the test?
abbrev pub all : (ℕ → Bool) → ℕ → Bool
all f zero = true
all f (suc k) = f k && all f k

pub all-at : (f : ℕ → Bool) (k : ℕ) → all f k ≡ true → (i : ℕ) → i < k → f i ≡ true
all-at f zero h i l = absurd (omega arith)
all-at f (suc k) h i l =
    let ih = all-at f k (and_r (f k) (all f k) h) i in
    cases (eqb i k)
    (λ e. subst (λ x. f x ≡ true) (sym (eqb-true i k e)) (and_l (f k) (all f k) h))
    (λ e. let ne : i ≢ k = eqb-false i k e in ih (omega arith))

-- A function is at most b below a bound.
pub most : (f : ℕ → ℕ) (b m : ℕ) → all (λ i. leb (f i) b) m ≡ true → (i : ℕ) → i < m → f i ≤ b
most f b m t i l = leb-true (f i) b (all-at (λ i. leb (f i) b) m t i l)
