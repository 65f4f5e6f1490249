-- Nodes that healthy boards keep, and which sets of boards are tolerated.
-- Assumes nothing.
use Prim.Native.Nat.{ℕ, suc, ◌+◌, ◌<◌}
use mathlib.Core.Path.{◌≡◌, refl}
use mathlib.Core.Logic.{◌≢◌, ⊎_elim}
use mathlib.Core.Bool.{true, false}
use mathlib.Core.List.{◌∷◌}
use native.Mathlib.Omega.{arith}
use lib.Dec.{eqb}
use borrow.Author.Tests.{eqb-true, eq-eqb}
use Rattle.sets.specs.Search.{count}
use Rattle.sets.proofs.Tests.{cases, clash, is_false, or-true}
use Rattle.sets.proofs.Count.{count_add, count_none}
use Rattle.tree.specs.Labels.{Label, occurs}
use Rattle.theory.specs.Tree.{Boards, Sub, path, Plan, Healthy, Node, root, child, Kept, Good}

module _ {P : Plan} {p : ℕ} where
  pub has-dealer : {k : ℕ} {α : Label} → Node P p k α → occurs P.dealer α ≡ true
  unfolding occurs
  has-dealer root = rw (eq-eqb P.dealer P.dealer refl)
  has-dealer (child {c = c} N i l a) = cases (eqb P.dealer c) (λ e. rw e) (λ e. rw e (has-dealer N))

  pub not-dealer : {k c : ℕ} {α : Label} → Node P p k α → occurs c α ≡ false → c ≢ P.dealer
  not-dealer N a e = clash (has-dealer N) (rw e at a)

  -- The parent of a node that is not the root.
  pub parent : {k c : ℕ} {α : Label} → Node P p k (c ∷ α) → c ≢ P.dealer
      → (Node P p (suc k) α) × (P.inner p α ≡ true) × (c < P.n) × (occurs c α ≡ false)
  parent root ne = absurd (ne refl)
  parent (child N i l a) ne = (N, i, l, a)

  -- A label has as many boards as it is long.
  pub path-size : P.dealer < P.n → {k : ℕ} {α : Label} → Node P p k α → count (path α) P.n + k ≡ P.top + 1
  unfolding occurs
  path-size l root = omega (arith, count_add (λ i. false) P.dealer P.n l refl, count_none (λ i. false) P.n (λ i _. refl))
  path-size l (child {c = c} {α = α} N i lc a) = omega (arith, path-size l N, count_add (path α) c P.n lc a)

-- What is not in a set is in no subset.
pub outside : {n c : ℕ} {s t : Boards} → Sub n s t → c < n → t c ≡ false → s c ≡ false
outside {c = c} {s = s} h l f = is_false (s c) (λ e. clash (h c l e) f)

pub sub-cons : {n : ℕ} {F : Boards} (c : ℕ) (α : Label) → F c ≡ true → Sub n (path α) F → Sub n (path (c ∷ α)) F
unfolding occurs
sub-cons c α f h i l e = ⊎_elim (λ x. rw (eqb-true i c x) f) (h i l) (or-true (eqb i c) (occurs i α) e)

module _ {P : Plan} {F : Boards} where
  -- A board outside F that is not on a node.
  pub healthy-off : {p k i : ℕ} {α : Label} → Node P p k α → i < P.n → occurs i α ≡ false → F i ≡ false → Healthy P F i
  healthy-off N l a f = record { below = l; correct = f; keeper = not-dealer N a }

  module _ (G : Good P F) where
    -- What lies within F is tolerated.
    pub within : (s : Boards) → Sub P.n s F → P.tol s ≡ true
    within s h = G.monotone s F h G.faulty

    -- 003, Lemmas 1 and 5: no tolerated set has all boards outside F but those of another tolerated set.
    pub large : (a s : Boards) → P.tol a ≡ true → ((i : ℕ) → i < P.n → a i ≡ false → F i ≡ false → s i ≡ true) → P.tol s ≡ false
    large a s t h = is_false (P.tol s) (λ u. let (i, l, x, f, y) = G.q3 a F s t G.faulty u in clash (h i l x f) y)

    -- If a healthy board keeps a child under the name of a healthy board r, then r keeps the label.
    pub own-parent : {p r k : ℕ} {α : Label} → Healthy P F p → Healthy P F r → Node P p k (r ∷ α) → Node P r (suc k) α
    own-parent H R N = let (M, i, l, a) = parent N R.keeper in G.inner-kept H R M i a

    -- All healthy boards keep the children of a label within F that they keep.
    pub kept-child : {k c : ℕ} {α : Label} → Sub P.n (path α) F → Kept P F (suc k) α → c < P.n → occurs c α ≡ false → Kept P F k (c ∷ α)
    kept-child I K l a p H = child (K p H) (G.inner-faulty H (K p H) I) l a
