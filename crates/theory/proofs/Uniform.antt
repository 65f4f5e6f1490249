-- What all healthy boards hold at a node they resolve it to.
-- Assumes nothing.
use Prim.Native.Nat.{ℕ, zero, suc}
use mathlib.Core.Path.{◌≡◌, ◌∙◌, ap}
use mathlib.Core.Bool.{true, false}
use mathlib.Core.List.{◌∷◌}
use mathlib.Core.Option.{some}
use Rattle.sets.proofs.Tests.{cases}
use Rattle.tree.specs.Labels.{Label}
use Rattle.theory.specs.Tree.{Boards, Plan, Healthy, child, Good, winner, resolve}
use Rattle.theory.specs.Runs.{Cells, Held, Common, Flow}
use Rattle.theory.proofs.Nodes.{parent, own-parent}
use Rattle.theory.proofs.Votes.{decide}

module _ (P : Plan) (p : ℕ) (cell : Label → ℕ) (k : ℕ) (α : Label) where
  pub resolve-inner : P.inner p α ≡ true → resolve P p cell (suc k) α ≡ winner P α (λ c. resolve P p cell k (c ∷ α))
  unfolding resolve
  resolve-inner e = rw e

  pub resolve-leaf : P.inner p α ≡ false → resolve P p cell (suc k) α ≡ some (cell α)
  unfolding resolve
  resolve-leaf e = rw e

module _ {P : Plan} {F : Boards} (G : Good P F) {cell : Cells} (W : Flow P F cell) where
  -- What a healthy board sent is held by all that keep it.
  pub heard : {r k : ℕ} {α : Label} → Healthy P F r → Held P F cell k (r ∷ α) (cell r α)
  heard R p H N = let (M, i, l, a) = parent N R.keeper in W.deliver H R M i a

  -- What all healthy boards that keep a node hold there they resolve it to. 003 has it for the root (Lemma 4) and healthy boards' nodes (Lemma 2).
  pub uniform : (k v : ℕ) (α : Label) → Held P F cell k α v → Common P F cell k α v
  unfolding resolve
  uniform zero v α h p H N = ap some (h p H N)
  uniform (suc k) v α h p H N =
      let ih = uniform k v in
      cases (P.inner p α)
      (λ t. resolve-inner P p (cell p) k α t
      ∙ decide G α (λ c. resolve P p (cell p) k (c ∷ α)) v H N t (rw (h p H N) at (W.small H N))
      (λ c C a. ih (c ∷ α) (λ q Q M. heard C q Q M ∙ h c C (own-parent G Q C M)) p H (child N t C.below a)))
      (λ t. resolve-leaf P p (cell p) k α t ∙ ap some (h p H N))

  -- 003, Lemma 2: a node of a healthy board is common with what that board sent.
  pub healthy-node : {r k : ℕ} {α : Label} → Healthy P F r → Common P F cell k (r ∷ α) (cell r α)
  healthy-node {r} {k} {α} R = uniform k (cell r α) (r ∷ α) (heard R)
