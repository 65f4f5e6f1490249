-- In a tree that is not cut every node within F is common.
-- Assumes nothing.
use Prim.Native.Nat.{ℕ, zero, suc, ◌≤◌, ◌<◌}
use mathlib.Core.Path.{◌≡◌, sym, ◌∙◌}
use mathlib.Core.Bool.{true, false}
use mathlib.Core.List.{◌∷◌}
use native.Mathlib.Omega.{arith}
use Rattle.sets.specs.Search.{count}
use Rattle.sets.proofs.Tests.{cases}
use Rattle.tree.specs.Labels.{Label, occurs}
use Rattle.theory.specs.Tree.{Boards, Sub, path, Plan, Healthy, Node, Kept, Good, resolve}
use Rattle.theory.specs.Runs.{Cells, Flow, Frontier, here, deeper}
use Rattle.theory.proofs.Nodes.{has-dealer, path-size, sub-cons, healthy-off, within, kept-child}
use Rattle.theory.proofs.Votes.{same-winner}
use Rattle.theory.proofs.Uniform.{resolve-inner, healthy-node}

module _ {P : Plan} {F : Boards} (G : Good P F) where
  -- Two boards that agree on the children of a node agree on the node.
  pub agree : (cell : Cells) (p q k : ℕ) (α : Label) → P.inner p α ≡ true → P.inner q α ≡ true
      → ((c : ℕ) → c < P.n → occurs c α ≡ false → resolve P p (cell p) k (c ∷ α) ≡ resolve P q (cell q) k (c ∷ α))
      → resolve P p (cell p) (suc k) α ≡ resolve P q (cell q) (suc k) α
  agree cell p q k α i j h =
      resolve-inner P p (cell p) k α i
      ∙ same-winner G α (λ c. resolve P p (cell p) k (c ∷ α)) (λ c. resolve P q (cell q) k (c ∷ α)) h
      ∙ sym (resolve-inner P q (cell q) k α j)

  -- 003, Lemma 3: a node with a common frontier is common.
  pub frontier : {cell : Cells} {p q k : ℕ} {α : Label} → Frontier P cell p q k α → resolve P p (cell p) k α ≡ resolve P q (cell q) k α
  frontier (here e) = e
  frontier {cell} {p} {q} (deeper {k = k} {α = α} i j h) = agree cell p q k α i j (λ c l a. frontier (h c l a))

  module _ {cell : Cells} (W : Flow P F cell) {p q : ℕ} (H : Healthy P F p) (K : Healthy P F q) where
    -- Two boards agree on a node of a healthy board.
    pub agree-healthy : {k c : ℕ} {α : Label} → Healthy P F c → Node P p k (c ∷ α) → Node P q k (c ∷ α)
        → resolve P p (cell p) k (c ∷ α) ≡ resolve P q (cell q) k (c ∷ α)
    agree-healthy C M N = healthy-node G W C p H M ∙ sym (healthy-node G W C q K N)

    -- Where no label of the lowest level lies within F, those within F have a common frontier.
    pub full-frontier : ((α : Label) → Node P p zero α → Sub P.n (path α) F → ⊥)
        → (k : ℕ) (α : Label) → Kept P F k α → Sub P.n (path α) F → Frontier P cell p q k α
    full-frontier full zero α A I = absurd (full α (A p H) I)
    full-frontier full (suc k) α A I =
        let ih = full-frontier full k in
        deeper (G.inner-faulty H (A p H) I) (G.inner-faulty K (A q K) I) (λ c l a.
        let B : Kept P F k (c ∷ α) = kept-child G I A l a in
        cases (F c)
        (λ f. ih (c ∷ α) B (sub-cons c α f I))
        (λ f. here (agree-healthy (healthy-off (A p H) l a f) (B p H) (B q K))))

  -- That is so where no tolerated set with the dealer has more boards than there are levels below the root.
  pub full : ((s : Boards) → P.tol s ≡ true → s P.dealer ≡ true → count s P.n ≤ P.top)
      → {p : ℕ} (α : Label) → Node P p zero α → Sub P.n (path α) F → ⊥
  full size α N I = omega (arith, path-size G.dealer-lt N, size (path α) (within G (path α) I) (has-dealer N))
