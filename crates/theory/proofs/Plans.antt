-- Which labels may be internal: the tolerated ones, for every board (01) or only for the boards that are not on them (003, section 3.4).
-- Assumes nothing.
use Prim.Native.Nat.{ℕ, suc, ◌<◌}
use mathlib.Core.Path.{◌≡◌}
use mathlib.Core.Bool.{true, false}
use lib.Dec.{eqb}
use Rattle.sets.proofs.Tests.{or_r}
use Rattle.tree.specs.Labels.{Label, occurs}
use Rattle.theory.specs.Tree.{Boards, Sub, path, Plan, Node, root, child, Good}
use Rattle.theory.proofs.Nodes.{outside}

module _ (P : Plan) (inner-tol : (p k : ℕ) (α : Label) → Node P p (suc k) α → P.inner p α ≡ true → P.tol (path α) ≡ true)
    (tol-inner : (p k : ℕ) (α : Label) → Node P p (suc k) α → P.tol (path α) ≡ true → occurs p α ≡ false → P.inner p α ≡ true) where
  -- A board keeps every label that another keeps and that it is not on.
  keeps : {p q k : ℕ} {α : Label} → Node P p k α → occurs q α ≡ false → Node P q k α
  unfolding occurs
  keeps root a = root
  keeps {p} {q} (child {k = k} {c = c} {α = α} N i l b) a =
      let o = or_r (eqb q c) (occurs q α) a in
      let M = keeps N o in
      child M (tol-inner q k α M (inner-tol p k α N i) o) l b

  -- What is left to show of such a plan.
  pub good : (F : Boards) → P.default < P.m → P.dealer < P.n
      → (monotone : (s t : Boards) → Sub P.n s t → P.tol t ≡ true → P.tol s ≡ true)
      → ((a b c : Boards) → P.tol a ≡ true → P.tol b ≡ true → P.tol c ≡ true → (i : ℕ) × (i < P.n) × (a i ≡ false) × (b i ≡ false) × (c i ≡ false))
      → P.tol F ≡ true → Good P F
  good F d b monotone q3 faulty = record {
    default_lt = d;
    dealer-lt = b;
    monotone = monotone;
    q3 = q3;
    faulty = faulty;
    inner-tol = λ {p} {k} {α} H N i. inner-tol p k α N i;
    inner-kept = λ H K N i a. keeps N a;
    inner-faulty = λ {p} {k} {α} H N I. tol-inner p k α N (monotone (path α) F I faulty) (outside I H.below H.correct);
  }
