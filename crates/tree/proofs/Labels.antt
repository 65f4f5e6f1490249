-- The labels of a level: which lists they are.
-- Assumes nothing.
use Prim.Native.Nat.{ℕ, zero, suc, ◌+◌, ◌≤◌, ◌<◌}
use mathlib.Core.Path.{◌≡◌, refl, sym, ◌∙◌, ap, subst}
use mathlib.Core.Logic.{◌≢◌, ⊎_elim, ◌↔◌}
use mathlib.Core.Bool.{true, false}
use mathlib.Core.List.{List, [], ◌∷◌, ◌++◌, Memᴰ}
use native.Mathlib.Omega.{arith}
use lib.Dec.{eqb}
use lib.ListN.{length}
use borrow.Author.Tests.{eqb-true, eqb-false, eq-eqb}
use Rattle.sets.specs.Search.{count}
use Rattle.sets.proofs.Tests.{cases, clash, or-true, or_left, or_right}
use Rattle.sets.proofs.Count.{count_add, count_none}
use Rattle.tree.specs.Labels.{Label, occurs, children_from, children, children_of, labels}

-- γ is the child of α by some board below k that is not on α.
abbrev pub ChildBelow : ℕ → Label → Label → Type 0
ChildBelow k α γ = (q : ℕ) × (γ ≡ q ∷ α) × (q < k) × (occurs q α ≡ false)

from-child : (α : Label) (i k : ℕ) (γ : Label) → Memᴰ γ (children_from α i k) → ChildBelow (i + k) α γ
unfolding children_from
from-child α i zero γ m = absurd (mathlib.Core.List.Memᴰ.not-nil m)
from-child α i (suc k) γ m =
    cases (occurs i α)
    (λ e. let (q, x, l, a) = from-child α (suc i) k γ (rw e at m) in (q, x, omega arith, a))
    (λ e. ⊎_elim
    (λ x. (i, x, omega arith, e))
    (λ m'. let (q, x, l, a) = from-child α (suc i) k γ m' in (q, x, omega arith, a))
    (mathlib.Core.List.Memᴰ.cases_cons (rw e at m)))

child-from : (α : Label) (i k q : ℕ) → i ≤ q → q < i + k → occurs q α ≡ false → Memᴰ (q ∷ α) (children_from α i k)
unfolding children_from
child-from α i zero q l h a = absurd (omega arith)
child-from α i (suc k) q l h a =
    cases (eqb q i)
    (λ e. let x : q ≡ i = eqb-true q i e in rw (rw x at a) (mathlib.Core.List.Memᴰ.head (ap (λ y. y ∷ α) x)))
    (λ e. let ne : q ≢ i = eqb-false q i e in
    let r : Memᴰ (q ∷ α) (children_from α (suc i) k) = child-from α (suc i) k q (omega arith) (omega arith) a in
    cases (occurs i α) (λ x. rw x r) (λ x. rw x (mathlib.Core.List.Memᴰ.tail r)))

pub of-child : (n : ℕ) (αs : List Label) (γ : Label) → Memᴰ γ (children_of n αs) → (α : Label) × Memᴰ α αs × ChildBelow n α γ
unfolding children_of children
of-child n [] γ m = absurd (mathlib.Core.List.Memᴰ.not-nil m)
of-child n (α ∷ αs) γ m =
    ⊎_elim
    (λ m'. let (q, x, l, a) = from-child α 0 n γ m' in (α, mathlib.Core.List.Memᴰ.head refl, (q, x, omega arith, a)))
    (λ m'. let (β, w, r) = of-child n αs γ m' in (β, mathlib.Core.List.Memᴰ.tail w, r))
    (mathlib.Core.List.Memᴰ.append_cases (children_from α 0 n) m)

pub child-of : (n : ℕ) (αs : List Label) (α : Label) (q : ℕ) → Memᴰ α αs → q < n → occurs q α ≡ false → Memᴰ (q ∷ α) (children_of n αs)
unfolding children_of children
child-of n [] α q m l a = absurd (mathlib.Core.List.Memᴰ.not-nil m)
child-of n (β ∷ αs) α q m l a =
    ⊎_elim
    (λ e. rw (← e) (mathlib.Core.List.Memᴰ.append_left (children_of n αs) (child-from α 0 n q (omega arith) (omega arith) a)))
    (λ m'. mathlib.Core.List.Memᴰ.append_right (children_from β 0 n) (child-of n αs α q m' l a))
    (mathlib.Core.List.Memᴰ.cases_cons m)

pub no_label : (n d : ℕ) (α : Label) → Memᴰ α (labels n d 0) → ⊥
unfolding labels
no_label n d α m = mathlib.Core.List.Memᴰ.not-nil m

-- Level 1 has the dealer alone.
pub root-inv : (n d : ℕ) (α : Label) → Memᴰ α (labels n d 1) → α ≡ d ∷ []
unfolding labels
root-inv n d α m = mathlib.Core.List.Memᴰ.eq_of_singleton m

pub root-has : (n d : ℕ) → Memᴰ (d ∷ []) (labels n d 1)
unfolding labels
root-has n d = mathlib.Core.List.Memᴰ.head refl

-- The labels of the next level are the children of those of a level.
pub label-inv : (n d k : ℕ) (γ : Label) → Memᴰ γ (labels n d (suc (suc k)))
    → (α : Label) × Memᴰ α (labels n d (suc k)) × ChildBelow n α γ
unfolding labels
label-inv n d k γ m = of-child n (labels n d (suc k)) γ m

pub label-has : (n d k : ℕ) (α : Label) (q : ℕ) → Memᴰ α (labels n d (suc k)) → q < n → occurs q α ≡ false
    → Memᴰ (q ∷ α) (labels n d (suc (suc k)))
unfolding labels
label-has n d k α q m l a = child-of n (labels n d (suc k)) α q m l a

pub label-iff : (n d k : ℕ) (γ : Label)
    → Memᴰ γ (labels n d (suc (suc k))) ↔ ((α : Label) × Memᴰ α (labels n d (suc k)) × ChildBelow n α γ)
label-iff n d k γ = (
  label-inv n d k γ,
  λ r. let (α, w, (q, x, l, a)) = r in subst (λ δ. Memᴰ δ (labels n d (suc (suc k)))) (sym x) (label-has n d k α q w l a),
)

-- Its level is its length.
pub label-length : (n d k : ℕ) (α : Label) → Memᴰ α (labels n d k) → length α ≡ k
label-length n d zero α m = absurd (no_label n d α m)
label-length n d (suc zero) α m = rw (root-inv n d α m)
label-length n d (suc (suc k)) α m =
    let (β, w, (q, x, l, a)) = label-inv n d k α m in
    rw (x, label-length n d (suc k) β w)

-- It ends in the dealer.
pub label-ends : (n d k : ℕ) (α : Label) → Memᴰ α (labels n d k) → (β : Label) × (α ≡ β ++ (d ∷ []))
label-ends n d zero α m = absurd (no_label n d α m)
label-ends n d (suc zero) α m = ([], root-inv n d α m)
label-ends n d (suc (suc k)) α m =
    let (β, w, (q, x, l, a)) = label-inv n d k α m in
    let (δ, y) = label-ends n d (suc k) β w in
    (q ∷ δ, x ∙ ap (λ z. q ∷ z) y)

pub label-dealer : (n d k : ℕ) (α : Label) → Memᴰ α (labels n d k) → occurs d α ≡ true
unfolding occurs
label-dealer n d zero α m = absurd (no_label n d α m)
label-dealer n d (suc zero) α m = rw (root-inv n d α m) (or_left (eqb d d) false (eq-eqb d d (omega arith)))
label-dealer n d (suc (suc k)) α m =
    let (β, w, (q, x, l, a)) = label-inv n d k α m in
    rw x (or_right (eqb d q) (occurs d β) (label-dealer n d (suc k) β w))

-- Its boards are below n.
pub label-below : (n d k : ℕ) (α : Label) → d < n → Memᴰ α (labels n d k) → (i : ℕ) → occurs i α ≡ true → i < n
unfolding occurs
label-below n d zero α l m i t = absurd (no_label n d α m)
label-below n d (suc zero) α l m i t =
    ⊎_elim
    (λ e. omega (arith, eqb-true i d e))
    (λ e. clash e refl)
    (or-true (eqb i d) false (rw (root-inv n d α m) at t))
label-below n d (suc (suc k)) α l m i t =
    let (β, w, (q, x, lq, a)) = label-inv n d k α m in
    ⊎_elim
    (λ e. omega (arith, eqb-true i q e))
    (λ e. label-below n d (suc k) β l w i e)
    (or-true (eqb i q) (occurs i β) (rw x at t))

-- Its boards are different: as many boards are on it as it is long.
pub label-count : (n d k : ℕ) (α : Label) → d < n → Memᴰ α (labels n d k) → count (λ i. occurs i α) n ≡ length α
unfolding occurs
label-count n d zero α l m = absurd (no_label n d α m)
label-count n d (suc zero) α l m =
    rw (root-inv n d α m) (omega (arith, count_add (λ i. false) d n l refl, count_none (λ i. false) n (λ i _. refl)))
label-count n d (suc (suc k)) α l m =
    let (β, w, (q, x, lq, a)) = label-inv n d k α m in
    rw x (omega (arith, count_add (λ i. occurs i β) q n lq a, label-count n d (suc k) β l w))
