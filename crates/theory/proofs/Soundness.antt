-- No rule lists a healthy board.
-- Assumes nothing.
use Prim.Native.Nat.{ℕ, suc, ◌<◌}
use mathlib.Core.Path.{◌≡◌, ◌∙◌, ap}
use mathlib.Core.Logic.{⊎_elim}
use mathlib.Core.Bool.{true, false, ◌||◌}
use mathlib.Core.List.{◌∷◌}
use mathlib.Core.Option.{Option, some}
use Rattle.sets.proofs.Tests.{is_true, or-true, tests}
use Rattle.sets.proofs.Search.{any_of}
use Rattle.tree.specs.Labels.{Label, occurs}
use Rattle.theory.specs.Tree.{Boards, Sub, Plan, Healthy, Node, child, Good, others, resolve}
use Rattle.theory.specs.Runs.{Cells, Held, Flow, explained}
use Rattle.sets.proofs.Only.{same_false}
use Rattle.theory.proofs.Nodes.{healthy-off, within}
use Rattle.theory.proofs.Uniform.{healthy-node}

module _ {P : Plan} {F : Boards} (G : Good P F) where
  -- 003, section 3.2: where the healthy children of a node have one value and the list lies within F, no rule lists the node's last board.
  pub spared : {p k : ℕ} {α : Label} (v : ℕ) (f : ℕ → Option ℕ) (L : Boards) → Node P p k α → v < P.m
      → ((c : ℕ) → Healthy P F c → occurs c α ≡ false → f c ≡ some v) → Sub P.n L F → explained P α f L ≡ true
  unfolding explained
  spared {α = α} v f L N l h s =
      any_of (λ w. P.tol (λ c. others α f w c || L c)) P.m v l
      (within G (λ c. others α f v c || L c) (λ i li e. ⊎_elim
      (λ o. is_true (F i) (λ fi.
      let a : occurs i α ≡ false = search tests in
      same_false (f i) (some v) (search tests) (h i (healthy-off N li a fi) a)))
      (s i li)
      (or-true (others α f v i) (L i) e)))

  module _ {cell : Cells} (W : Flow P F cell) {p k v : ℕ} {α : Label} (L : Boards) (H : Healthy P F p) (N : Node P p (suc k) α)
      (i : P.inner p α ≡ true) (h : Held P F cell (suc k) α v) (s : Sub P.n L F) where
    -- So rule G lists no board whose node all hold alike: a healthy board (`heard`), or a healthy dealer.
    pub spared-g : explained P α (λ c. some (cell p (c ∷ α))) L ≡ true
    spared-g = spared v (λ c. some (cell p (c ∷ α))) L N (rw (h p H N) at (W.small H N))
        (λ c C a. ap some (W.deliver H C N i a ∙ h c C (G.inner-kept H C N i a))) s

    -- And nor does rule C.
    pub spared-c : explained P α (λ c. resolve P p (cell p) k (c ∷ α)) L ≡ true
    spared-c = spared v (λ c. resolve P p (cell p) k (c ∷ α)) L N (rw (h p H N) at (W.small H N))
        (λ c C a. healthy-node G W C p H (child N i C.below a) ∙ ap some (h c C (G.inner-kept H C N i a))) s
