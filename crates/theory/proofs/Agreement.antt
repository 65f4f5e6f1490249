-- Byzantine agreement at the end of a session.
-- Assumes nothing.
use Prim.Native.Nat.{ℕ, zero, suc, ◌+◌, ◌*◌, ◌≤◌, ◌<◌}
use mathlib.Core.Path.{◌≡◌, refl, sym, ◌∙◌, ap}
use mathlib.Core.Logic.{◌≢◌}
use mathlib.Core.Bool.{Bool, true, false}
use mathlib.Core.List.{[], ◌∷◌}
use mathlib.Core.Option.{get_or}
use native.Mathlib.Omega.{arith}
use lib.Dec.{eqb}
use borrow.Author.Tests.{eqb-true, eqb-false}
use Rattle.sets.specs.Search.{count}
use Rattle.sets.proofs.Tests.{cases, clash, is_true, is_false}
use Rattle.tree.specs.Labels.{occurs}
use Rattle.theory.specs.Tree.{Boards, Plan, Healthy, root, Good}
use Rattle.theory.specs.Runs.{Cells, Held, all_healthy, global, root_after, Session}
use Rattle.sets.proofs.Only.{count-two}
use Rattle.theory.proofs.Nodes.{sub-cons}
use Rattle.theory.proofs.Uniform.{uniform}
use Rattle.theory.proofs.FullTree.{frontier, full-frontier, full}
use Rattle.theory.proofs.Global.{all-at, one-fails, detects}

module _ {P : Plan} {F : Boards} (G : Good P F) {T value : ℕ} {cells : ℕ → Cells} {lists mids : ℕ → ℕ → Boards}
    (S : Session P F T value cells lists mids) where
  abbrev after : ℕ → ℕ → ℕ
  after = root_after P cells

  -- 003, Lemma 4: what all healthy boards hold at the root as a run starts they hold there after it.
  pub root-stays : (t v : ℕ) → t < T → Held P F (cells t) P.top (P.dealer ∷ []) v → (p : ℕ) → Healthy P F p → after t p ≡ v
  root-stays t v l h p H = ap (λ o. get_or o P.default) (uniform G (S.run t l).flow P.top v (P.dealer ∷ []) h p H root)

  -- 003, Lemma 4, run after run: a root that all healthy boards hold after a run they hold after every later run.
  pub persistence : (t u v : ℕ) → t ≤ u → u < T → ((p : ℕ) → Healthy P F p → after t p ≡ v) → (p : ℕ) → Healthy P F p → after u p ≡ v
  persistence t zero v le l h p H = let z : t ≡ 0 = omega arith in rw z at (h p H)
  persistence t (suc u) v le l h p H =
      let ih = persistence t u v in
      cases (eqb t (suc u))
      (λ e. rw (eqb-true t (suc u) e) at (h p H))
      (λ e. let ne : t ≢ suc u = eqb-false t (suc u) e in
      root-stays (suc u) v l (λ c C _. S.next u l C ∙ ih (omega arith) (omega arith) h c C) p H)

  -- 003, Theorems 1 and 2, validity: all healthy boards hold a healthy dealer's value, from the first run on.
  pub validity : F P.dealer ≡ false → (t p : ℕ) → t < T → Healthy P F p → after t p ≡ value
  validity f t p l H = persistence 0 t value (omega arith) l (root-stays 0 value (omega arith) (S.dealt (omega arith) f)) p H

  module _ (j : ℕ) (e : P.top ≡ suc (suc j)) where
    -- One run without agreement.
    one-run : (t : ℕ) {p q : ℕ} → t < T → Healthy P F p → Healthy P F q → after t p ≢ after t q
        → (1 + j ≤ count (global P F (lists (suc t))) P.n) × (count (global P F (lists t)) P.n + j ≤ count (global P F (lists (suc t))) P.n)
    one-run t {p} {q} l H K ne =
        detects G (S.run t l) H K j e
        (is_true (F P.dealer) (λ f. ne (validity f t p l H ∙ sym (validity f t q l K))))
        (λ x. ne (ap (λ o. get_or o P.default) x))

    -- 003, after Lemma 7: if two roots differ after run t + 1 of a tree cut at j + 3 levels, at least (t + 1) j + 1 boards are on all lists as that run ends.
    pub detection : (t : ℕ) {p q : ℕ} → t < T → Healthy P F p → Healthy P F q → after t p ≢ after t q
        → suc t * j + 1 ≤ count (global P F (lists (suc t))) P.n
    detection zero l H K ne = let (a, b) = one-run zero l H K ne in omega arith
    detection (suc t) {p} {q} l H K ne =
        let (a, b) = one-run (suc t) l H K ne in
        let test : ℕ → Bool = λ s. eqb (after t s) (after t p) in
        cases (all_healthy P F test)
        (λ x. let same = persistence t (suc t) (after t p) (omega arith) l (λ s S. eqb-true (after t s) (after t p) (all-at test x S)) in
        absurd (ne (same p H ∙ sym (same q K))))
        (λ x. let (s, B, d) = one-fails test x in
        let before = detection t (omega arith) B H (eqb-false (after t s) (after t p) d) in
        omega arith)

  -- 003, Theorem 2, agreement: after c + 1 runs of a tree cut at j + 3 levels, c j at least n - 3, all healthy boards hold one root.
  pub cut-agreement : (j c : ℕ) → P.top ≡ suc (suc j) → 0 < j → P.n ≤ c * j + 3 → c < T
      → {p q : ℕ} → Healthy P F p → Healthy P F q → after c p ≡ after c q
  cut-agreement j c e pos enough l {p} {q} H K =
      cases (eqb (after c p) (after c q)) (eqb-true (after c p) (after c q)) (λ x.
      let ne : after c p ≢ after c q = eqb-false (after c p) (after c q) x in
      let many = detection j e c l H K ne in
      let few = count-two (global P F (lists (suc c))) P.n p q H.below K.below (λ z. ne (ap (after c) (sym z))) (unseen H) (unseen K) in
      absurd (omega arith))
    where
      -- No healthy board is on all lists.
      unseen : {p : ℕ} → Healthy P F p → global P F (lists (suc c)) p ≡ false
      unseen {p} H = is_false (global P F (lists (suc c)) p) (λ g.
          clash ((S.run c l).end-sound H p H.below (all-at (λ s. lists (suc c) s p) g H)) H.correct)

  -- 003, Theorem 1, agreement: in a tree that is not cut, that is, where no tolerated set with the dealer has more boards than there are
  -- levels below the root, all healthy boards hold one root after a run.
  pub full-agreement : ((s : Boards) → P.tol s ≡ true → s P.dealer ≡ true → count s P.n ≤ P.top)
      → (t : ℕ) {p q : ℕ} → t < T → Healthy P F p → Healthy P F q → after t p ≡ after t q
  unfolding occurs
  full-agreement size t {p} {q} l H K =
      cases (F P.dealer)
      (λ f. ap (λ o. get_or o P.default)
      (frontier G (full-frontier G (S.run t l).flow H K (full G size) P.top (P.dealer ∷ []) (λ s _. root) (sub-cons P.dealer [] f (λ i _ x. clash x refl)))))
      (λ f. validity f t p l H ∙ sym (validity f t q l K))
