-- Laws of what is general: the only number that passes a test, equality of optional numbers, a set without two members.
-- Assumes nothing.
use Prim.Native.Nat.{ℕ, ◌+◌, ◌≤◌, ◌<◌}
use mathlib.Core.Path.{◌≡◌, refl, sym, ◌∙◌, ap}
use mathlib.Core.Logic.{◌≢◌, ◌⊎◌, inl, inr}
use mathlib.Core.Bool.{Bool, true, false, not, ◌&&◌, ◌||◌}
use mathlib.Core.Option.{Option, some, none}
use native.Mathlib.Omega.{arith}
use lib.Dec.{eqb, ltb}
use borrow.Author.Tests.{eqb-true, eqb-false, eq-eqb, ne_eqb, ltb-true, ltb-false}
use Rattle.sets.specs.Search.{count, first}
use Rattle.sets.proofs.Tests.{cases, clash, is_false, and_l}
use Rattle.sets.proofs.Search.{first-true, first-false, first-least}
use Rattle.sets.proofs.Count.{count-le, count-more, count_same, count_add, count_none}
use Rattle.sets.specs.Only.{only, same}

pub same_true : (a b : Option ℕ) → same a b ≡ true → a ≡ b
unfolding same
same_true none none e = refl
same_true none (some w) e = clash e refl
same_true (some v) none e = clash e refl
same_true (some v) (some w) e = ap some (eqb-true v w e)

same_refl : (a : Option ℕ) → same a a ≡ true
unfolding same
same_refl none = refl
same_refl (some v) = eq-eqb v v refl

pub eq-same : (a b : Option ℕ) → a ≡ b → same a b ≡ true
eq-same a b e = rw e (same_refl b)

pub same_false : (a b : Option ℕ) → same a b ≡ false → a ≢ b
same_false a b e q = clash (eq-same a b q) e

-- A set without two boards.
pub count-two : (f : ℕ → Bool) (k p q : ℕ) → p < k → q < k → q ≢ p → f p ≡ false → f q ≡ false → count f k + 2 ≤ k
count-two f k p q lp lq ne hp hq =
    let g : ℕ → Bool = λ i. eqb i p || f i in
    omega (arith, count_add f p k lp hp, count_add g q k lq (rw (ne_eqb q p ne, hq)), count-le (λ i. eqb i q || g i) k)

module _ (f : ℕ → Bool) (k : ℕ) where
  -- A number that alone passes is the only one.
  pub only-hit : (v : ℕ) → v < k → f v ≡ true → ((w : ℕ) → w < k → w ≢ v → f w ≡ false) → only f k ≡ some v
  unfolding only
  only-hit v l t h =
      let low : first f k 0 ≤ v = first-least f k 0 v (omega arith) t in
      let hit : f (first f k 0) ≡ true = first-true f k 0 (omega arith) in
      let at : first f k 0 ≡ v =
      cases (eqb (first f k 0) v) (eqb-true (first f k 0) v) (λ e. clash hit (h (first f k 0) (omega arith) (eqb-false (first f k 0) v e))) in
      let one : count f k ≡ 1 =
      omega (
        arith,
        count_same f (λ i. eqb i v || false) k
            (λ i li. cases (eqb i v) (λ e. rw (e, eqb-true i v e) t) (λ e. rw e (h i li (eqb-false i v e)))),
        count_add (λ i. false) v k l refl,
        count_none (λ i. false) k (λ i _. refl),
      ) in
      rw (eq-eqb (count f k) 1 one, at)

  -- What is the only one passes, and nothing else does.
  pub only-some : (v : ℕ) → only f k ≡ some v → (v < k) × (f v ≡ true) × ((w : ℕ) → w < k → w ≢ v → f w ≡ false)
  unfolding only
  only-some v e = cases (eqb (count f k) 1) (λ c. one c (let z : first f k 0 ≡ v = cc (rw c at e) in z))
      (λ c. let z : ◌≡◌ {A = ℕ} 0 1 = cc (rw c at e) in absurd (omega arith))
    where
      one : eqb (count f k) 1 ≡ true → first f k 0 ≡ v → (v < k) × (f v ≡ true) × ((w : ℕ) → w < k → w ≢ v → f w ≡ false)
      one c z =
          let n : count f k ≡ 1 = eqb-true (count f k) 1 c in
          let l : v < k =
          cases (ltb v k) (ltb-true v k) (λ x. absurd (omega (arith, ltb-false v k x, count_none f k (λ i li. first-false f k 0 i (omega arith) (omega (arith, ltb-false v k x)))))) in
          let t : f v ≡ true = rw z at (first-true f k 0 (omega arith)) in
          let g : ℕ → Bool = λ i. f i && not (eqb i v) in (
            l,
            t,
            λ w lw ne. is_false (f w) (λ s.
                omega (
                  arith,
                  count-more g f k (λ i _. and_l (f i) (not (eqb i v))) v l (rw (t, eq-eqb v v refl)) t,
                  count-more (λ i. false) g k (λ i _ x. clash x refl) w lw refl (rw (s, ne_eqb w v ne)),
                )),
          )

  -- Where a number passes, it is the only one, or there is none.
  pub only-or : (v : ℕ) → v < k → f v ≡ true → (only f k ≡ some v) ⊎ (only f k ≡ none)
  only-or v l t = go (only f k) refl
    where
      go : (o : Option ℕ) → only f k ≡ o → (only f k ≡ some v) ⊎ (only f k ≡ none)
      go none e = inr e
      go (some w) e =
          let (lw, tw, h) = only-some w e in
          inl (e ∙ ap some (cases (eqb v w) (λ x. sym (eqb-true v w x)) (λ x. clash t (h v l (eqb-false v w x)))))

-- Two tests that agree below k have the same only number.
pub only_same : (f g : ℕ → Bool) (k : ℕ) → ((v : ℕ) → v < k → f v ≡ g v) → only f k ≡ only g k
only_same f g k h = go (only f k) (only g k) refl refl
  where
    over : (f g : ℕ → Bool) → ((v : ℕ) → v < k → f v ≡ g v) → (v : ℕ) → only f k ≡ some v → only g k ≡ some v
    over f g h v e =
        let (l, t, u) = only-some f k v e in
        only-hit g k v l (sym (h v l) ∙ t) (λ w lw ne. sym (h w lw) ∙ u w lw ne)

    go : (a b : Option ℕ) → only f k ≡ a → only g k ≡ b → only f k ≡ only g k
    go none none x y = x ∙ sym y
    go none (some w) x y = over g f (λ v l. sym (h v l)) w y ∙ sym y
    go (some v) b x y = x ∙ sym (over f g h v x)
