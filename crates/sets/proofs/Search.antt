-- The laws of bounded search.
-- Assumes nothing.
use Prim.Native.Nat.{ℕ, zero, suc, ◌+◌, ◌-◌, ◌≤◌, ◌<◌, min}
use mathlib.Core.Path.{◌≡◌, refl, sym, ◌∙◌, ap, subst}
use mathlib.Core.Logic.{◌≢◌}
use mathlib.Core.Bool.{Bool, true, false, ◌||◌, cond}
use native.Mathlib.Omega.{arith}
use native.Mathlib.Numerals.{add-one}
use lib.Dec.{eqb, ltb}
use borrow.Author.Tests.{eqb-true, eqb-false, ltb-true, ltb-false}
use Rattle.sets.specs.Search.{first, any}
use Rattle.sets.proofs.Tests.{cases, clash, is_true, same_test}

module _ (f : ℕ → Bool) where
  first-hit : (left i : ℕ) → f i ≡ true → first f (suc left) i ≡ i
  unfolding first
  first-hit left i e = rw e

  first-miss : (left i : ℕ) → f i ≡ false → first f (suc left) i ≡ first f left (suc i)
  unfolding first
  first-miss left i e = rw e

  pub first-le : (left i : ℕ) → first f left i ≤ i + left
  unfolding first
  first-le zero i = omega arith
  first-le (suc left) i =
      let ih = first-le left (suc i) in
      cases (f i) (λ e. rw (first-hit left i e) (omega arith)) (λ e. rw (first-miss left i e) (omega arith))

  pub first-ge : (left i : ℕ) → i ≤ first f left i
  unfolding first
  first-ge zero i = omega arith
  first-ge (suc left) i =
      let ih = first-ge left (suc i) in
      cases (f i) (λ e. rw (first-hit left i e) (omega arith)) (λ e. rw (first-miss left i e) (omega arith))

  -- What is found passes the test.
  pub first-true : (left i : ℕ) → first f left i < i + left → f (first f left i) ≡ true
  unfolding first
  first-true zero i h = absurd (omega arith)
  first-true (suc left) i h =
      let ih = first-true left (suc i) in
      cases (f i)
      (λ e. rw (first-hit left i e) e)
      (λ e. let q = first-miss left i e in rw q (ih (let l : first f left (suc i) < suc i + left = omega (arith, q) in l)))

  -- Nothing before it does.
  pub first-false : (left i k : ℕ) → i ≤ k → k < first f left i → f k ≡ false
  unfolding first
  first-false zero i k a b = absurd (omega arith)
  first-false (suc left) i k a b =
      let ih = first-false left (suc i) k in
      cases (f i)
      (λ e. let q = first-hit left i e in absurd (omega (arith, q)))
      (λ e. let q = first-miss left i e in
      cases (eqb i k)
      (λ s. subst (λ x. f x ≡ false) (eqb-true i k s) e)
      (λ s. let ne : i ≢ k = eqb-false i k s in ih (omega arith) (omega (arith, q))))

  -- So a number that passes is not before what is found.
  pub first-least : (left i k : ℕ) → i ≤ k → f k ≡ true → first f left i ≤ k
  first-least left i k a t =
      cases (ltb k (first f left i))
      (λ s. clash t (first-false left i k a (ltb-true k (first f left i) s)))
      (λ s. ltb-false k (first f left i) s)

  pub any_at : (k r : ℕ) → r ≡ first f k 0 → any f k ≡ ltb r k
  unfolding any
  any_at k r e = ap (λ x. ltb x k) (sym e)

  pub any-true : (k : ℕ) → any f k ≡ true → (i : ℕ) × (i < k) × (f i ≡ true)
  unfolding any
  any-true k h =
      let l : first f k 0 < k = ltb-true (first f k 0) k h in
      (first f k 0, l, first-true k 0 (omega arith))

  pub any_false : (k : ℕ) → any f k ≡ false → (i : ℕ) → i < k → f i ≡ false
  unfolding any
  any_false k h i l = first-false k 0 i (omega arith) (omega (arith, ltb-false (first f k 0) k h))

  pub any_of : (k i : ℕ) → i < k → f i ≡ true → any f k ≡ true
  any_of k i l t = is_true (any f k) (λ e. clash t (any_false k e i l))

-- Tests that agree below k.
pub any_same : (f g : ℕ → Bool) (k : ℕ) → ((i : ℕ) → i < k → f i ≡ g i) → any f k ≡ any g k
any_same f g k h =
    same_test (any f k) (any g k)
    (λ e. let (i, l, t) = any-true f k e in any_of g k i l (sym (h i l) ∙ t))
    (λ e. let (i, l, t) = any-true g k e in any_of f k i l (h i l ∙ t))

pub first-same : (f g : ℕ → Bool) (left i : ℕ) → ((k : ℕ) → f k ≡ g k) → first f left i ≡ first g left i
unfolding first
first-same f g zero i h = refl
first-same f g (suc left) i h = rw (h i, first-same f g left (suc i) h)

-- The first that passes one of two tests is the earlier of the two that are found.
pub first_either : (f g : ℕ → Bool) (left i : ℕ) → first (λ k. f k || g k) left i ≡ min (first f left i) (first g left i)
unfolding first
first_either f g zero i = omega arith
first_either f g (suc left) i =
    let ih = first_either f g left (suc i) in
    let a = first-ge f left (suc i) in
    let b = first-ge g left (suc i) in
    cases (f i)
    (λ e. cases (g i) (λ d. rw (e, d) (omega arith)) (λ d. rw (e, d) (omega arith)))
    (λ e. cases (g i) (λ d. rw (e, d) (omega arith)) (λ d. rw (e, d) ih))

pub seek-start : (f : ℕ → Bool) (n : ℕ) → first f (n - 0) 0 ≡ first f n 0
seek-start f n = ap (λ m. first f m 0) (let z : n - 0 ≡ n = omega arith in z)

-- A loop that counts i up to n and leaves at the first i that passes: what it is still to find is what it set out to find.
module _ (f : ℕ → Bool) (n i : ℕ) where
  pub opened : i < n → first f (n - i) i ≡ cond (f i) i (first f (n - (i + 1)) (i + 1))
  unfolding first
  opened h =
      ap (λ m. first f m i) (let e : n - i ≡ suc (n - (i + 1)) = omega arith in e)
      ∙ ap (λ m. cond (f i) i (first f (n - (i + 1)) m)) (sym (add-one i))

  pub seek_hit : (r : ℕ) → first f (n - i) i ≡ r → i < n → f i ≡ true → i ≡ r
  seek_hit r e h t = sym (ap (λ b. cond b i (first f (n - (i + 1)) (i + 1))) t) ∙ sym (opened h) ∙ e

  pub seek-miss : (r : ℕ) → first f (n - i) i ≡ r → i < n → f i ≡ false → first f (n - (i + 1)) (i + 1) ≡ r
  seek-miss r e h t = sym (ap (λ b. cond b i (first f (n - (i + 1)) (i + 1))) t) ∙ sym (opened h) ∙ e

  pub seek-none : (r : ℕ) → first f (n - i) i ≡ r → n ≤ i → i ≡ r
  unfolding first
  seek-none r e h = ap (λ m. first f m i) (let z : 0 ≡ n - i = omega arith in z) ∙ e
