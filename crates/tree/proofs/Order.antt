-- The order of the places. 01: "Cells stand by level, inside a level by label, boards compared as numbers from the left".
-- Assumes nothing.
use Prim.Native.Nat.{ℕ, zero, suc, ◌+◌, ◌-◌, ◌*◌, ◌<◌}
use mathlib.Core.Path.{◌≡◌, ap, subst}
use mathlib.Core.Logic.{◌⊎◌, inl, inr, ⊎_elim, ◌↔◌}
use mathlib.Core.Bool.{false}
use mathlib.Core.List.{◌∷◌, Memᴰ}
use native.Mathlib.Nat.{mul-le-mul_right}
use native.Mathlib.Omega.{arith}
use lib.Dec.{ltb}
use borrow.Author.Tests.{ltb-true, ltb-false}
use Rattle.sets.proofs.Tests.{cases}
use Rattle.tree.specs.Labels.{Label, occurs, labels}
use Rattle.tree.specs.Places.{ordinal, rank, place, Before}
use Rattle.tree.proofs.Labels.{no_label, root-inv, label-inv, label-length}
use Rattle.tree.proofs.Children.{ordinal-lt, ordinal-le, ordinal-size}
use Rattle.tree.proofs.Ranks.{label-width, rank-child, rank-injective}
use Rattle.tree.proofs.Places.{place-split, place-levels}

-- Two numbers of two digits: what the first digit decides.
digits-less : (a b w o p : ℕ) → o < w → a < b → a * w + o < b * w + p
digits-less a b w o p h l = omega (arith, mul-le-mul_right w l)

module _ (n d : ℕ) (l : d < n) where
  -- Two children, whose parents' ranks are in order as the parents are.
  module _ (k q r : ℕ) (α β : Label) (m : Memᴰ α (labels n d (suc k))) (w : Memᴰ β (labels n d (suc k)))
      (lq : q < n) (lr : r < n) (aq : occurs q α ≡ false) (ar : occurs r β ≡ false)
      (ih : (rank n α < rank n β) ↔ Before α β) where
    rank-q : rank n (q ∷ α) ≡ rank n α * (n - suc k) + ordinal q α
    rank-q = rank-child n k q α (label-length n d (suc k) α m)

    rank-r : rank n (r ∷ β) ≡ rank n β * (n - suc k) + ordinal r β
    rank-r = rank-child n k r β (label-length n d (suc k) β w)

    small-q : ordinal q α < n - suc k
    small-q = omega (arith, ordinal-size n α q lq aq, label-width n d (suc k) α l m)

    small_r : ordinal r β < n - suc k
    small_r = omega (arith, ordinal-size n β r lr ar, label-width n d (suc k) β l w)

    siblings : α ≡ β → rank n (q ∷ α) < rank n (r ∷ β) → q < r
    siblings e h =
        cases (ltb q r)
        (λ s. ltb-true q r s)
        (λ s. absurd (omega (arith, rank-q, rank-r, ap (λ γ. rank n γ * (n - suc k)) e, ap (ordinal r) e, ordinal-le α r q (ltb-false q r s))))

    child-before : rank n (q ∷ α) < rank n (r ∷ β) → Before (q ∷ α) (r ∷ β)
    child-before h =
        cases (ltb (rank n α) (rank n β))
        (λ s. inl (ih.0 (ltb-true (rank n α) (rank n β) s)))
        (λ s. cases (ltb (rank n β) (rank n α))
        (λ t. absurd (omega (
          arith,
          rank-q,
          rank-r,
          digits-less (rank n β) (rank n α) (n - suc k) (ordinal r β) (ordinal q α) small_r (ltb-true (rank n β) (rank n α) t),
        )))
        (λ t. let e : α ≡ β = rank-injective n d (suc k) α β l m w (omega (arith, ltb-false (rank n α) (rank n β) s, ltb-false (rank n β) (rank n α) t)) in
        inr (e, siblings e h)))

    before_child : Before (q ∷ α) (r ∷ β) → rank n (q ∷ α) < rank n (r ∷ β)
    before_child b =
        ⊎_elim
        (λ h. omega (arith, rank-q, rank-r, digits-less (rank n α) (rank n β) (n - suc k) (ordinal q α) (ordinal r β) small-q (ih.1 h)))
        (λ h. omega (arith, rank-q, rank-r, ap (λ γ. rank n γ * (n - suc k)) h.0, ap (ordinal r) h.0, ordinal-lt α q r aq h.1))
        b

  -- Inside a level, the order of the ranks is that of the labels.
  pub rank-order : (k : ℕ) (α β : Label) → Memᴰ α (labels n d k) → Memᴰ β (labels n d k) → (rank n α < rank n β) ↔ Before α β
  unfolding rank
  rank-order zero α β m w = absurd (no_label n d α m)
  rank-order (suc zero) α β m w =
      rw (root-inv n d α m, root-inv n d β w) (λ h. absurd (omega arith), λ b. ⊎_elim (λ h. absurd h) (λ h. absurd (omega arith)) b)
  rank-order (suc (suc k)) α β m w =
      let (α', m', (q, x, lq, aq)) = label-inv n d k α m in
      let (β', w', (r, y, lr, ar)) = label-inv n d k β w in
      let ih = rank-order (suc k) α' β' m' w' in
      rw (x, y) (child-before k q r α' β' m' w' lq lr aq ar ih, before_child k q r α' β' m' w' lq lr aq ar ih)

  -- One cell stands before another exactly if its level is less, or the levels are equal and its label is before.
  pub place-order : (a b : ℕ) (α β : Label) → Memᴰ α (labels n d a) → Memᴰ β (labels n d b)
      → (place n α < place n β) ↔ ((a < b) ⊎ ((a ≡ b) × Before α β))
  place-order a b α β m w = (
    λ h. cases (ltb a b)
        (λ s. inl (ltb-true a b s))
        (λ s. cases (ltb b a)
        (λ t. absurd (omega (arith, place-levels n d b a β α l w m (ltb-true b a t))))
        (λ t. let z : a ≡ b = omega (arith, ltb-false a b s, ltb-false b a t) in
        let m' : Memᴰ α (labels n d b) = subst (λ k. Memᴰ α (labels n d k)) z m in
        inr (z, (rank-order b α β m' w).0 (omega (arith, place-split n d b α m', place-split n d b β w))))),
    λ o. ⊎_elim
        (λ s. place-levels n d a b α β l m w s)
        (λ e. let m' : Memᴰ α (labels n d b) = subst (λ k. Memᴰ α (labels n d k)) e.0 m in
        omega (arith, place-split n d b α m', place-split n d b β w, (rank-order b α β m' w).1 e.1))
        o,
  )
