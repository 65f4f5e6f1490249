-- The laws of `tabulate`.
-- Assumes nothing.
use Prim.Native.Nat.{ℕ, zero, suc, ◌+◌, ◌≤◌, ◌<◌}
use mathlib.Core.Path.{◌≡◌, refl, ap, ◌∙◌}
use mathlib.Core.List.{◌∷◌}
use native.Mathlib.Omega.{arith}
use lib.ListN.{length, get_or}
use Rattle.sets.specs.Tabulate.{tabulate}

module _ {A : Type 0} where
  pub tabulate-length : (f : ℕ → A) (i k : ℕ) → length (tabulate f i k) ≡ k
  unfolding tabulate
  tabulate-length f i zero = refl
  tabulate-length f i (suc k) = ap suc (tabulate-length f (suc i) k)

  tabulate-from : (f : ℕ → A) (i k c : ℕ) (x : A) → c < k → get_or (tabulate f i k) c x ≡ f (i + c)
  unfolding tabulate
  tabulate-from f i zero c x l = absurd (omega arith)
  tabulate-from f i (suc k) zero x l = ap f (let z : i ≡ i + 0 = omega arith in z)
  tabulate-from f i (suc k) (suc c) x l = tabulate-from f (suc i) k c x (omega arith) ∙ ap f (let z : suc i + c ≡ i + suc c = omega arith in z)

  pub tabulate-at : (f : ℕ → A) (k c : ℕ) (x : A) → c < k → get_or (tabulate f 0 k) c x ≡ f c
  tabulate-at f k c x l = tabulate-from f 0 k c x l ∙ ap f (let z : 0 + c ≡ c = omega arith in z)

  pub tabulate-same : (f g : ℕ → A) (i k : ℕ) → ((c : ℕ) → i ≤ c → c < i + k → f c ≡ g c) → tabulate f i k ≡ tabulate g i k
  unfolding tabulate
  tabulate-same f g i zero h = refl
  tabulate-same f g i (suc k) h =
      ap (λ x. x ∷ tabulate f (suc i) k) (h i (omega arith) (omega arith))
      ∙ ap (λ xs. g i ∷ xs) (tabulate-same f g (suc i) k (λ c l m. h c (omega arith) (omega arith)))
