-- A faulty board that the rules did not list has been consistent.
-- Assumes nothing.
use Prim.Native.Nat.{ℕ, suc, ◌<◌}
use mathlib.Core.Path.{◌≡◌, sym, ◌∙◌, ap}
use mathlib.Core.Logic.{◌≢◌, ◌⊎◌, inl, inr, ⊎_elim}
use mathlib.Core.Bool.{true, false, not, ◌&&◌, ◌||◌}
use mathlib.Core.List.{◌∷◌}
use mathlib.Core.Option.{Option, some, none, some-injective, some-ne-none}
use Rattle.sets.proofs.Tests.{cases, is_true, or_l, or_r, tests}
use Rattle.tree.specs.Labels.{Label, occurs}
use Rattle.theory.specs.Tree.{Boards, Sub, path, Plan, Healthy, Node, child, Good, votes, others, resolve}
use Rattle.theory.specs.Runs.{Cells, Common, Run}
use Rattle.sets.proofs.Only.{same_true}
use Rattle.theory.proofs.Nodes.{not-dealer, outside, sub-cons, healthy-off}
use Rattle.theory.proofs.Votes.{no_other, enough, wins, wins-or-none}
use Rattle.theory.proofs.Uniform.{resolve-inner, healthy-node}
use Rattle.theory.proofs.FullTree.{agree-healthy}

module _ {P : Plan} {F : Boards} (G : Good P F) {cell : Cells} {old mid end : ℕ → Boards} (X : Run P F cell old mid end) where
  -- 003, Lemma 6, for a node of r within F: if r, not the dealer, is not on p's list as conversion begins,
  -- all healthy boards resolve the node to one value or to none.
  pub one_value : {p r k : ℕ} {α : Label} → Healthy P F p → Node P p (suc k) (r ∷ α) → r ≢ P.dealer → Sub P.n (path (r ∷ α)) F → mid p r ≡ false
      → (v : ℕ) × ((q : ℕ) → Healthy P F q → Node P q (suc k) (r ∷ α)
      → (resolve P q (cell q) (suc k) (r ∷ α) ≡ some v) ⊎ (resolve P q (cell q) (suc k) (r ∷ α) ≡ none))
  one_value {p} {r} {k} {α} H N ne I u =
      let i = G.inner-faulty H N I in
      let (v, l, s) = X.rule-g H N i ne u in (
        v,
        λ q K M.
            let f : ℕ → Option ℕ = λ c. resolve P q (cell q) k (c ∷ r ∷ α) in
            let g : ℕ → Option ℕ = λ c. some (cell p (c ∷ r ∷ α)) in
            let j = G.inner-faulty K M I in
            rw (resolve-inner P q (cell q) k (r ∷ α) j)
            (wins-or-none G (r ∷ α) f v l (enough G (r ∷ α) f (λ c. not (mid p c) && others (r ∷ α) g v c) v s (λ c lc o fc.
            let a = outside I lc fc in
            let C = healthy-off N lc a fc in (
              a,
              healthy-node G X.flow C q K (child M j lc a) ∙ sym (ap some (X.flow.deliver H C N i a))
                  ∙ no_other (r ∷ α) g v c a (rw (outside (X.mid-sound H) lc fc) at o),
            )))),
      )

  -- Two boards p and q at a node within F, two levels above the lowest or higher.
  module _ {p q r k : ℕ} {α : Label} (H : Healthy P F p) (K : Healthy P F q) (I : Sub P.n (path (r ∷ α)) F)
      (N : Node P p (suc (suc k)) (r ∷ α)) (M : Node P q (suc (suc k)) (r ∷ α)) where
    abbrev child-at : ℕ → ℕ → Option ℕ
    child-at b c = resolve P b (cell b) (suc k) (c ∷ r ∷ α)

    -- The children that p holds against v, or has listed.
    abbrev against : ℕ → Boards
    against v = λ c. others (r ∷ α) (child-at p) v c || mid p c

    -- They agree on a healthy child.
    alike : (c : ℕ) → c < P.n → occurs c (r ∷ α) ≡ false → F c ≡ false → child-at q c ≡ child-at p c
    alike c l a f =
        agree-healthy G X.flow K H (healthy-off N l a f) (child M (G.inner-faulty K M I) l a) (child N (G.inner-faulty H N I) l a)

    for-it : (v c : ℕ) → occurs c (r ∷ α) ≡ false → against v c ≡ false → child-at p c ≡ some v
    for-it v c a o = no_other (r ∷ α) (child-at p) v c a (or_l (others (r ∷ α) (child-at p) v c) (mid p c) o)

    -- A child that p does not hold against v has v or none at q.
    either : (v c : ℕ) → c < P.n → occurs c (r ∷ α) ≡ false → against v c ≡ false → (child-at q c ≡ some v) ⊎ (child-at q c ≡ none)
    either v c l a o =
        let x = for-it v c a o in
        cases (F c)
        (λ f.
        let C = child N (G.inner-faulty H N I) l a in
        let (z, h) = one_value H C (not-dealer N a) (sub-cons c (r ∷ α) f I) (or_r (others (r ∷ α) (child-at p) v c) (mid p c) o) in
        ⊎_elim (λ y. ⊎_elim (λ e. inl (e ∙ sym y ∙ x)) inr (h q K (child M (G.inner-faulty K M I) l a)))
        (λ y. absurd (some-ne-none v (sym x ∙ y))) (h p H C))
        (λ f. inl (alike c l a f ∙ x))

    -- So q resolves the node to v.
    follows : (v : ℕ) → v < P.m → P.tol (against v) ≡ true → resolve P q (cell q) (suc (suc k)) (r ∷ α) ≡ some v
    follows v l s =
        resolve-inner P q (cell q) (suc k) (r ∷ α) (G.inner-faulty K M I)
        ∙ wins G (r ∷ α) (child-at q) v l
        (enough G (r ∷ α) (child-at q) (against v) v s (λ c lc o f. let a = outside I lc f in (a, alike c lc a f ∙ for-it v c a o)))
        (λ w lw ne. G.monotone (votes (r ∷ α) (child-at q) w) (against v) (λ c lc e. is_true (against v c) (λ o.
        let a : occurs c (r ∷ α) ≡ false = search tests in
        let x : child-at q c ≡ some w = search (tests, same_true) in
        ⊎_elim (λ y. ne (some-injective w v (sym x ∙ y))) (λ y. some-ne-none w (sym x ∙ y)) (either v c lc a o)))
        s)

  -- 003, Lemma 7, for such a node of r: if r is not on p's list at the end, the node is common.
  pub detected-or-common : {p r k : ℕ} {α : Label} → Healthy P F p → Node P p (suc (suc k)) (r ∷ α) → Sub P.n (path (r ∷ α)) F → end p r ≡ false
      → (v : ℕ) × Common P F cell (suc (suc k)) (r ∷ α) v
  detected-or-common H N I u =
      let (v, l, s) = X.rule-c H N (G.inner-faulty H N I) u in (v, λ q K M. follows H K I N M v l s)
