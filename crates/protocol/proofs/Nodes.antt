-- Which labels are nodes, and which nodes a board sends.
-- Assumes nothing.
use Prim.Native.Nat.{ℕ, zero, suc, ◌-◌, ◌≤◌, ◌<◌}
use mathlib.Core.Path.{◌≡◌, refl, sym, subst, ap}
use mathlib.Core.Logic.{◌≢◌, ⊎_elim}
use mathlib.Core.Bool.{Bool, true, false, not, cond}
use mathlib.Core.List.Memᴰ
use mathlib.Core.List.{List, [], ◌∷◌, Memᴰ}
use native.Mathlib.Omega.{arith}
use lib.Dec.{eqb, ltb}
use lib.ListN.{length}
use borrow.Author.Tests.{eqb-true, eqb-false, eq-eqb, ne_eqb, lt-ltb, ltb-true}
use Rattle.sets.proofs.Tests.{cases, not_t, true-not, and_l, and_r, and-true, or_r}
use Rattle.sets.specs.Structure.{tolerated}
use Rattle.plan.specs.declared.plan.Plan.{Plan}
use Rattle.plan.specs.Listed.{listed}
use Rattle.schedule.specs.declared.rounds.Round.{Round}
use Rattle.schedule.specs.Schedule.{rounds}
use Rattle.tree.specs.Labels.{Label, occurs, labels, children_of, mask}
use Rattle.tree.proofs.Labels.{ChildBelow, of-child, child-of, root-has, label-has, label-length}
use Rattle.protocol.specs.Nodes.{filter, internal, nodes, inner, carried, sent}

pub filter-inv : (f : Label → Bool) (αs : List Label) (α : Label) → Memᴰ α (filter f αs) → Memᴰ α αs × (f α ≡ true)
unfolding filter
filter-inv f [] α m = absurd (Memᴰ.not-nil m)
filter-inv f (β ∷ αs) α m =
    cases (f β)
    (λ e. ⊎_elim
    (λ x. (Memᴰ.head x, subst (λ z. f z ≡ true) (sym x) e))
    (λ m'. let (w, t) = filter-inv f αs α m' in (Memᴰ.tail w, t))
    (Memᴰ.cases_cons (rw e at m)))
    (λ e. let (w, t) = filter-inv f αs α (rw e at m) in (Memᴰ.tail w, t))

pub filter-has : (f : Label → Bool) (αs : List Label) (α : Label) → Memᴰ α αs → f α ≡ true → Memᴰ α (filter f αs)
unfolding filter
filter-has f [] α m t = absurd (Memᴰ.not-nil m)
filter-has f (β ∷ αs) α m t =
    ⊎_elim
    (λ x. rw (subst (λ z. f z ≡ true) x t) (Memᴰ.head x))
    (λ m'. let r = filter-has f αs α m' t in cases (f β) (λ e. rw e (Memᴰ.tail r)) (λ e. rw e r))
    (Memᴰ.cases_cons m)

-- What is used of `internal`: an internal label has tolerated boards and stands above level R, and for a board that is not on it that is enough.
pub internal-tol : (p : Plan) (i : ℕ) (α : Label) → internal p i α ≡ true → tolerated (listed p) (mask α) ≡ true
unfolding internal
internal-tol p i α e = and_l (tolerated (listed p) (mask α)) (ltb (length α) (rounds p).0) e

pub internal-above : (p : Plan) (i : ℕ) (α : Label) → internal p i α ≡ true → length α < (rounds p).0
unfolding internal
internal-above p i α e = ltb-true (length α) (rounds p).0 (and_r (tolerated (listed p) (mask α)) (ltb (length α) (rounds p).0) e)

pub internal-has : (p : Plan) (i : ℕ) (α : Label) → tolerated (listed p) (mask α) ≡ true → length α < (rounds p).0 → occurs i α ≡ false → internal p i α ≡ true
unfolding internal
internal-has p i α t l _ = and-true (tolerated (listed p) (mask α)) (ltb (length α) (rounds p).0) t (lt-ltb (length α) (rounds p).0 l)

-- A label that is internal for one board is so for every board that is not on it.
pub internal-moves : (p : Plan) (i c : ℕ) (α : Label) → internal p i α ≡ true → occurs c α ≡ false → internal p c α ≡ true
internal-moves p i c α e out = internal-has p c α (internal-tol p i α e) (internal-above p i α e) out

module _ (p : Plan) (i : ℕ) where
  pub no_node : (α : Label) → Memᴰ α (nodes p i 0) → ⊥
  unfolding nodes
  no_node α m = Memᴰ.not-nil m

  pub root-node : Memᴰ (p.dealer ∷ []) (nodes p i 1)
  unfolding nodes
  root-node = Memᴰ.head refl

  pub node-root : (α : Label) → Memᴰ α (nodes p i 1) → α ≡ p.dealer ∷ []
  unfolding nodes
  node-root α m = Memᴰ.eq_of_singleton m

  pub inner-inv : (k : ℕ) (α : Label) → Memᴰ α (inner p i k) → Memᴰ α (nodes p i k) × (internal p i α ≡ true)
  unfolding inner
  inner-inv k α m = filter-inv (internal p i) (nodes p i k) α m

  pub inner-has : (k : ℕ) (α : Label) → Memᴰ α (nodes p i k) → internal p i α ≡ true → Memᴰ α (inner p i k)
  unfolding inner
  inner-has k α m t = filter-has (internal p i) (nodes p i k) α m t

  -- The nodes of the next level are the children of the internal ones.
  pub node-inv : (k : ℕ) (γ : Label) → Memᴰ γ (nodes p i (suc (suc k))) → (α : Label) × Memᴰ α (inner p i (suc k)) × ChildBelow p.n α γ
  unfolding nodes inner
  node-inv k γ m = of-child p.n (inner p i (suc k)) γ m

  pub node-has : (k : ℕ) (α : Label) (q : ℕ) → Memᴰ α (inner p i (suc k)) → q < p.n → occurs q α ≡ false → Memᴰ (q ∷ α) (nodes p i (suc (suc k)))
  unfolding nodes inner
  node-has k α q m l a = child-of p.n (inner p i (suc k)) α q m l a

  -- Every node is a label of its level.
  pub node-label : (k : ℕ) (α : Label) → Memᴰ α (nodes p i k) → Memᴰ α (labels p.n p.dealer k)
  node-label zero α m = absurd (no_node α m)
  node-label (suc zero) α m = subst (λ z. Memᴰ z (labels p.n p.dealer 1)) (sym (node-root α m)) (root-has p.n p.dealer)
  node-label (suc (suc k)) α m =
      let (β, w, (q, x, l, a)) = node-inv k α m in
      let ih = node-label (suc k) β (inner-inv (suc k) β w).0 in
      subst (λ z. Memᴰ z (labels p.n p.dealer (suc (suc k)))) (sym x) (label-has p.n p.dealer k β q ih l a)

  pub node-length : (k : ℕ) (α : Label) → Memᴰ α (nodes p i k) → length α ≡ k
  node-length k α m = label-length p.n p.dealer k α (node-label k α m)

  -- What a board sends after round 1: the internal nodes of the level before without it.
  pub sent-inv : (q : ℕ) (k : Round) (α : Label) → k.0 ≢ 1 → Memᴰ α (sent p q i k) → Memᴰ α (inner p i (k.0 - 1)) × (occurs q α ≡ false)
  unfolding sent carried
  sent-inv q k α ne m =
      let (w, t) = filter-inv (λ α. not (occurs q α)) (inner p i (k.0 - 1)) α (rw (ne_eqb k.0 1 ne) at m) in
      (w, not_t (occurs q α) t)

  pub sent-has : (q : ℕ) (k : Round) (α : Label) → k.0 ≢ 1 → Memᴰ α (inner p i (k.0 - 1)) → occurs q α ≡ false → Memᴰ α (sent p q i k)
  unfolding sent carried
  sent-has q k α ne m a = rw (ne_eqb k.0 1 ne) (filter-has (λ α. not (occurs q α)) (inner p i (k.0 - 1)) α m (true-not (occurs q α) a))

  -- In round 1 the dealer's value is for the empty label.
  pub sent-first : (q : ℕ) (k : Round) (α : Label) → k.0 ≡ 1 → Memᴰ α (sent p q i k) → (q ≡ p.dealer) × (α ≡ [])
  unfolding sent
  sent-first q k α e m =
      let m' = rw (eq-eqb k.0 1 e) at m in
      cases (eqb q p.dealer)
      (λ x. (eqb-true q p.dealer x, Memᴰ.eq_of_singleton (rw x at m')))
      (λ x. absurd (Memᴰ.not-nil (rw x at m')))

  -- The receiver stores it at a node of the round's level.
  pub sent-node : (q : ℕ) (k : Round) (α : Label) → 1 ≤ k.0 → q < p.n → Memᴰ α (sent p q i k) → Memᴰ (q ∷ α) (nodes p i k.0)
  sent-node q k α low l m =
      cases (eqb k.0 1)
      (λ e. let one = eqb-true k.0 1 e in
      let (x, y) = sent-first q k α one m in
      rw (one, x, y) root-node)
      (λ e. let ne : k.0 ≢ 1 = eqb-false k.0 1 e in
      let (w, a) = sent-inv q k α ne m in
      let z : k.0 ≡ suc (suc (k.0 - 2)) = omega arith in
      let y : k.0 - 1 ≡ suc (k.0 - 2) = omega arith in
      subst (λ x. Memᴰ (q ∷ α) (nodes p i x)) (sym z)
      (node-has (k.0 - 2) α q (subst (λ x. Memᴰ α (inner p i x)) y w) l a))

-- An internal node of one board is one of every board that is not on it.
pub inner-moves : (p : Plan) (i c k : ℕ) (α : Label) → Memᴰ α (inner p i k) → occurs c α ≡ false → Memᴰ α (inner p c k)
unfolding occurs
inner-moves p i c zero α m out = absurd (no_node p i α (inner-inv p i 0 α m).0)
inner-moves p i c (suc zero) α m out =
    let (w, t) = inner-inv p i 1 α m in
    inner-has p c 1 α (subst (λ z. Memᴰ z (nodes p c 1)) (sym (node-root p i α w)) (root-node p c)) (internal-moves p i c α t out)
inner-moves p i c (suc (suc k)) α m out =
    let (w, t) = inner-inv p i (suc (suc k)) α m in
    let (β, v, (q, x, l, a)) = node-inv p i k α w in
    let above : occurs c β ≡ false = or_r (eqb c q) (occurs c β) (subst (λ z. occurs c z ≡ false) x out) in
    let node = node-has p c k β q (inner-moves p i c (suc k) β v above) l a in
    inner-has p c (suc (suc k)) α (subst (λ z. Memᴰ z (nodes p c (suc (suc k)))) (sym x) node) (internal-moves p i c α t out)

-- A frame carries the same nodes for all receivers: `internal` does not ask for the board.
nodes-same : (p : Plan) (i j k : ℕ) → nodes p i k ≡ nodes p j k
unfolding nodes internal
nodes-same p i j zero = refl
nodes-same p i j (suc zero) = refl
nodes-same p i j (suc (suc k)) = ap (λ αs. children_of p.n (filter (internal p i) αs)) (nodes-same p i j (suc k))

inner-same : (p : Plan) (i j k : ℕ) → inner p i k ≡ inner p j k
unfolding inner internal
inner-same p i j k = ap (filter (internal p i)) (nodes-same p i j k)

pub sent-same : (p : Plan) (q i j : ℕ) (k : Round) → sent p q i k ≡ sent p q j k
unfolding sent carried
sent-same p q i j k =
    ap (λ αs. cond (eqb k.0 1) (cond (eqb q p.dealer) ([] ∷ []) []) (filter (λ α. not (occurs q α)) αs)) (inner-same p i j (k.0 - 1))
