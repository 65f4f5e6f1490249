-- The laws of counting.
-- Assumes nothing.
use Prim.Native.Nat.{ℕ, zero, suc, ◌+◌, ◌≤◌, ◌<◌}
use mathlib.Core.Path.{◌≡◌, refl, sym, ◌∙◌}
use mathlib.Core.Logic.{◌≢◌}
use mathlib.Core.Bool.{Bool, true, false, not, ◌||◌}
use native.Mathlib.Omega.{arith}
use lib.Dec.{eqb}
use borrow.Author.Tests.{eqb-true, eqb-false, ne_eqb}
use Rattle.sets.specs.Search.{count}
use Rattle.sets.proofs.Tests.{cases}

pub count-in : (f : ℕ → Bool) (k : ℕ) → f k ≡ true → count f (suc k) ≡ count f k + 1
unfolding count
count-in f k e = rw e

pub count-out : (f : ℕ → Bool) (k : ℕ) → f k ≡ false → count f (suc k) ≡ count f k
unfolding count
count-out f k e = rw e (omega arith)

pub count-zero : (f : ℕ → Bool) → count f 0 ≡ 0
unfolding count
count-zero f = refl

pub count-le : (f : ℕ → Bool) (k : ℕ) → count f k ≤ k
count-le f zero = omega (arith, count-zero f)
count-le f (suc k) =
    let ih = count-le f k in
    cases (f k) (λ e. omega (arith, count-in f k e)) (λ e. omega (arith, count-out f k e))

-- A larger bound counts no less.
pub count-up : (f : ℕ → Bool) (i k : ℕ) → i ≤ k → count f i ≤ count f k
count-up f i zero l = let z : i ≡ 0 = omega arith in rw z (omega arith)
count-up f i (suc k) l =
    let ih = count-up f i k in
    cases (eqb i (suc k))
    (λ e. rw (eqb-true i (suc k) e) (omega arith))
    (λ e. let ne : i ≢ suc k = eqb-false i (suc k) e in
    let h = ih (omega arith) in
    cases (f k) (λ t. omega (arith, count-in f k t)) (λ t. omega (arith, count-out f k t)))

module _ (f g : ℕ → Bool) where
  -- A larger set counts no less.
  pub count-mono : (k : ℕ) → ((i : ℕ) → i < k → f i ≡ true → g i ≡ true) → count f k ≤ count g k
  count-mono zero h = omega (arith, count-zero f)
  count-mono (suc k) h =
      let ih = count-mono k (λ i l. h i (omega arith)) in
      cases (f k)
      (λ e. omega (arith, count-in f k e, count-in g k (h k (omega arith) e)))
      (λ e. cases (g k) (λ t. omega (arith, count-out f k e, count-in g k t)) (λ t. omega (arith, count-out f k e, count-out g k t)))

  pub count_same : (k : ℕ) → ((i : ℕ) → i < k → f i ≡ g i) → count f k ≡ count g k
  count_same zero h = count-zero f ∙ sym (count-zero g)
  count_same (suc k) h =
      let ih = count_same k (λ i l. h i (omega arith)) in
      let e = h k (omega arith) in
      cases (g k)
      (λ t. omega (arith, count-in f k (e ∙ t), count-in g k t))
      (λ t. omega (arith, count-out f k (e ∙ t), count-out g k t))

  -- And one with a member more counts more.
  pub count-more : (k : ℕ) → ((i : ℕ) → i < k → f i ≡ true → g i ≡ true) → (c : ℕ) → c < k → f c ≡ false → g c ≡ true → count f k < count g k
  count-more zero h c l p q = absurd (omega arith)
  count-more (suc k) h c l p q =
      let h' : (i : ℕ) → i < k → f i ≡ true → g i ≡ true = λ i l. h i (omega arith) in
      let ih = count-more k h' c in
      cases (eqb c k)
      (λ e. let m : c ≡ k = eqb-true c k e in
      omega (arith, count-out f k (rw m at p), count-in g k (rw m at q), count-mono k h'))
      (λ e. let m : c ≢ k = eqb-false c k e in
      let r = ih (omega arith) p q in
      cases (f k)
      (λ t. omega (arith, count-in f k t, count-in g k (h k (omega arith) t)))
      (λ t. cases (g k) (λ s. omega (arith, count-out f k t, count-in g k s)) (λ s. omega (arith, count-out f k t, count-out g k s))))

-- With one number more than before: one more, if it is below the bound and new.
pub count_add : (f : ℕ → Bool) (c k : ℕ) → c < k → f c ≡ false → count (λ i. eqb i c || f i) k ≡ count f k + 1
count_add f c zero l h = absurd (omega arith)
count_add f c (suc k) l h =
    let g : ℕ → Bool = λ i. eqb i c || f i in
    let ih = count_add f c k in
    cases (eqb k c)
    (λ e. let m : k ≡ c = eqb-true k c e in
    let below : count g k ≡ count f k = count_same g f k (λ i l. rw (ne_eqb i c (omega arith))) in
    omega (arith, count-in g k (rw e), below, count-out f k (rw m h)))
    (λ e. let m : k ≢ c = eqb-false k c e in
    let r = ih (omega arith) h in
    cases (f k)
    (λ t. omega (arith, count-in g k (rw (e, t)), count-in f k t))
    (λ t. omega (arith, count-out g k (rw (e, t)), count-out f k t)))

pub count-all : (f : ℕ → Bool) (k : ℕ) → ((i : ℕ) → i < k → f i ≡ true) → count f k ≡ k
count-all f zero h = count-zero f
count-all f (suc k) h = omega (arith, count-in f k (h k (omega arith)), count-all f k (λ i l. h i (omega arith)))

pub count_none : (f : ℕ → Bool) (k : ℕ) → ((i : ℕ) → i < k → f i ≡ false) → count f k ≡ 0
count_none f zero h = count-zero f
count_none f (suc k) h = omega (arith, count-out f k (h k (omega arith)), count_none f k (λ i l. h i (omega arith)))

-- What passes and what does not make up all.
pub count-not : (f : ℕ → Bool) (k : ℕ) → count f k + count (λ i. not (f i)) k ≡ k
count-not f zero = omega (arith, count-zero f, count-zero (λ i. not (f i)))
count-not f (suc k) =
    let g : ℕ → Bool = λ i. not (f i) in
    let ih = count-not f k in
    cases (f k)
    (λ e. omega (arith, count-in f k e, count-out g k (rw e)))
    (λ e. omega (arith, count-out f k e, count-in g k (rw e)))

-- A larger bound counts the same where nothing above the smaller one passes.
pub count_cut : (f : ℕ → Bool) (i k : ℕ) → i ≤ k → ((j : ℕ) → i ≤ j → j < k → f j ≡ false) → count f k ≡ count f i
count_cut f i zero l h = let z : i ≡ 0 = omega arith in rw z
count_cut f i (suc k) l h =
    let ih = count_cut f i k in
    cases (eqb i (suc k))
    (λ e. rw (eqb-true i (suc k) e))
    (λ e. let ne : i ≢ suc k = eqb-false i (suc k) e in
    count-out f k (h k (omega arith) (omega arith)) ∙ ih (omega arith) (λ j a b. h j a (omega arith)))
