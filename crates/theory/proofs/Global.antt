-- What a run that ends without agreement detects.
-- Assumes nothing.
use Prim.Native.Nat.{ℕ, zero, suc, ◌+◌, ◌≤◌, ◌<◌}
use mathlib.Core.Path.{◌≡◌, refl, sym, ◌∙◌, subst}
use mathlib.Core.Logic.{◌≢◌}
use mathlib.Core.Bool.{Bool, true, false, not, ◌&&◌, ◌||◌}
use mathlib.Core.List.{[], ◌∷◌}
use mathlib.Core.Option.{Option}
use native.Mathlib.Omega.{arith}
use lib.Dec.{eqb}
use borrow.Author.Tests.{eqb-true, eq-eqb, ne_eqb}
use Rattle.sets.specs.Search.{any, count}
use Rattle.sets.proofs.Tests.{cases, clash, is_true, is_false, or_right, not_f, not_t, tests}
use Rattle.sets.proofs.Search.{any_of, any-true, any_false}
use Rattle.sets.proofs.Count.{count-mono, count-more}
use Rattle.tree.specs.Labels.{Label, occurs}
use Rattle.sets.specs.Only.{same}
use Rattle.theory.specs.Tree.{Boards, Sub, path, Plan, Healthy, Node, root, Kept, Good, resolve}
use Rattle.theory.specs.Runs.{Cells, Run, fails, all_healthy, global}
use Rattle.sets.proofs.Only.{same_true, same_false}
use Rattle.theory.proofs.Nodes.{healthy-off, kept-child, sub-cons}
use Rattle.theory.proofs.Uniform.{uniform}
use Rattle.theory.proofs.FullTree.{agree, agree-healthy}
use Rattle.theory.proofs.Detection.{detected-or-common}

module _ {P : Plan} {F : Boards} (f : ℕ → Bool) where
  pub all-at : {p : ℕ} → all_healthy P F f ≡ true → Healthy P F p → f p ≡ true
  unfolding all_healthy
  all-at {p} e H = is_true (f p) (λ x.
      clash (any_of (fails P F f) P.n p H.below (rw (H.correct, ne_eqb p P.dealer H.keeper, x))) (not_t (any (fails P F f) P.n) e))

  -- If not all healthy boards pass a test, one fails.
  pub one-fails : all_healthy P F f ≡ false → (p : ℕ) × (Healthy P F p) × (f p ≡ false)
  unfolding all_healthy
  one-fails e =
      let (p, l, h) = any-true (fails P F f) P.n (not_f (any (fails P F f) P.n) e) in
      (p, record { below = l; correct = search tests; keeper = search tests }, search tests)

  pub all_of : ((p : ℕ) → Healthy P F p → f p ≡ true) → all_healthy P F f ≡ true
  all_of h = is_true (all_healthy P F f) (λ e. let (p, H, x) = one-fails e in clash (h p H) x)

-- Two boards p and q in a run, and the nodes that they resolve differently.
module _ {P : Plan} {F : Boards} (G : Good P F) {cell : Cells} {old mid end : ℕ → Boards} (X : Run P F cell old mid end)
    {p q : ℕ} (H : Healthy P F p) (K : Healthy P F q) where
  abbrev Apart : ℕ → Label → Type 0
  Apart k α = resolve P p (cell p) k α ≢ resolve P q (cell q) k α

  module _ {k : ℕ} {α : Label} (I : Sub P.n (path α) F) (A : Kept P F (suc k) α) where
    -- Where they differ on a node within F, they differ on a child of a faulty board.
    differ : Apart (suc k) α → (c : ℕ) × (c < P.n) × (occurs c α ≡ false) × (F c ≡ true) × (Apart k (c ∷ α))
    differ ne =
        cases (any test P.n)
        (λ e. let (c, l, h) = any-true test P.n e in
        let a : occurs c α ≡ false = search tests in
        let x : Apart k (c ∷ α) = same_false (fs p c) (fs q c) (search tests) in
        let B = kept-child G I A l a in
        (c, l, a, is_true (F c) (λ f. x (agree-healthy G X.flow H K (healthy-off (A p H) l a f) (B p H) (B q K))), x))
        (λ e. absurd (ne (agree G cell p q k α (G.inner-faulty H (A p H) I) (G.inner-faulty K (A q K) I) (λ c l a.
        same_true (fs p c) (fs q c) (not_f (same (fs p c) (fs q c)) (rw a at (any_false test P.n e c l)))))))
      where
        fs : ℕ → ℕ → Option ℕ
        fs b c = resolve P b (cell b) k (c ∷ α)

        test : ℕ → Bool
        test c = not (occurs c α) && not (same (fs p c) (fs q c))

    -- That board was not on all lists before the run: it would be masked everywhere.
    apart-new : (c : ℕ) → c < P.n → occurs c α ≡ false → Apart k (c ∷ α) → global P F old c ≡ false
    apart-new c l a ne = is_false (global P F old c) (λ g.
        let u = uniform G X.flow k P.default (c ∷ α) (λ s S _. X.mask S (A s S) (G.inner-faulty S (A s S) I) l a (all-at (λ s. old s c) g S)) in
        let B = kept-child G I A l a in
        ne (u p H (B p H) ∙ sym (u q K (B q K))))

  -- A board at whose node they differ, two levels above the lowest or higher, is on all lists.
  apart-listed : (k r : ℕ) (α : Label) → Sub P.n (path (r ∷ α)) F → Kept P F (suc (suc k)) (r ∷ α) → Apart (suc (suc k)) (r ∷ α) → global P F end r ≡ true
  apart-listed k r α I A ne = all_of (λ s. end s r) (λ s S. is_true (end s r) (λ f.
      let (v, u) = detected-or-common G X S (A s S) I f in
      ne (u p H (A p H) ∙ sym (u q K (A q K)))))

  -- So there is a path of boards that are new on all lists.
  descend : (k : ℕ) (α : Label) → Sub P.n (path α) F → Kept P F (suc (suc k)) α → Apart (suc (suc k)) α
      → Sub P.n (λ i. occurs i α || global P F old i) (global P F end)
      → count (λ i. occurs i α || global P F old i) P.n + k ≤ count (global P F end) P.n
  unfolding occurs
  descend zero α I A ne h = omega (arith, count-mono (λ i. occurs i α || global P F old i) (global P F end) P.n h)
  descend (suc k) α I A ne h =
      let (c, l, a, f, x) = differ I A ne in
      let I' : Sub P.n (path (c ∷ α)) F = sub-cons c α f I in
      let A' : Kept P F (suc (suc k)) (c ∷ α) = kept-child G I A l a in
      let g = apart-listed k c α I' A' x in
      let more = count-more (λ i. occurs i α || global P F old i) (λ i. occurs i (c ∷ α) || global P F old i) P.n
      (λ i _ e. cases (eqb i c) (λ w. rw w) (λ w. rw w e)) c l (rw (a, apart-new I A c l a x)) (rw (eq-eqb c c refl)) in
      let rest = descend k (c ∷ α) I' A' x (λ i li e. cases (eqb i c) (λ w. rw (eqb-true i c w) g) (λ w. h i li (rw w at e))) in
      omega arith

  -- After a run without agreement on a tree cut at j + 3 levels, j + 1 boards or more are on all lists, and j more than before.
  pub detects : (j : ℕ) → P.top ≡ suc (suc j) → F P.dealer ≡ true → Apart P.top (P.dealer ∷ [])
      → (1 + j ≤ count (global P F end) P.n) × (count (global P F old) P.n + j ≤ count (global P F end) P.n)
  unfolding occurs
  detects j e f ne =
      let I : Sub P.n (path (P.dealer ∷ [])) F = sub-cons P.dealer [] f (λ i _ x. clash x refl) in
      let A : Kept P F (suc (suc j)) (P.dealer ∷ []) = λ s _. subst (λ k. Node P s k (P.dealer ∷ [])) e root in
      let x : Apart (suc (suc j)) (P.dealer ∷ []) = subst (λ k. Apart k (P.dealer ∷ [])) e ne in
      let g = apart-listed j P.dealer [] I A x in
      let r = descend j (P.dealer ∷ []) I A x (λ i l w. cases (eqb i P.dealer)
      (λ z. rw (eqb-true i P.dealer z) g)
      (λ z. all_of (λ s. end s i) (λ s S. X.grows S i l (all-at (λ s. old s i) (rw z at w) S)))) in
      let s : Boards = λ i. occurs i (P.dealer ∷ []) || global P F old i in
      let one = count-more (λ i. false) s P.n (λ i _ z. clash z refl) P.dealer G.dealer-lt refl (rw (eq-eqb P.dealer P.dealer refl)) in
      let old-le = count-mono (global P F old) s P.n (λ i _. or_right (occurs i (P.dealer ∷ [])) (global P F old i)) in
      (omega arith, omega arith)
