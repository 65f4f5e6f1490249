-- A round writes only the cells of its own level's nodes, and keeps the buffer's length.
-- Assumes nothing.
use Prim.Native.Nat.{ℕ, zero, suc, ◌-◌, ◌≤◌, ◌<◌}
use mathlib.Core.Path.{◌≡◌, refl, sym, ◌∙◌, subst, ap}
use mathlib.Core.Bool.{not, ◌&&◌}
use mathlib.Core.List.{List, [], ◌∷◌, Memᴰ}
use native.Mathlib.Omega.{arith}
use lib.Dec.{eqb}
use lib.ListN.{length}
use Rattle.codec.specs.Codec.{Width}
use Rattle.sets.specs.Sets.{member}
use Rattle.sets.proofs.Tests.{cases}
use Rattle.plan.specs.declared.plan.Plan.{Plan}
use Rattle.schedule.specs.declared.rounds.Run.{Run}
use Rattle.schedule.specs.declared.rounds.Round.{Round}
use Rattle.tree.specs.Labels.{Label, last}
use Rattle.tree.specs.Cells.{cell_at, store}
use Rattle.tree.proofs.Cells.{store_length, store_other}
use Rattle.protocol.specs.declared.records.Record.{Record}
use Rattle.plan.specs.Values.{default}
use Rattle.protocol.specs.Nodes.{nodes, inner, sent, due, frame}
use Rattle.protocol.proofs.Rules.{detect_g-joined, detect_g-kept}
use Rattle.protocol.specs.Detection.{Scan, mask_board, by_cell, passes, detect_g, detect_all_g}
use Rattle.protocol.specs.Rounds.{board_of, fill, fill_missing, copy_own, gather}
use Rattle.protocol.proofs.Nodes.{inner-inv, node-label, node-length, sent-node}
use Rattle.protocol.proofs.Fill.{IsLabel, fill-length, fill-other}
use Rattle.protocol.proofs.Turns.{taken-stays}

module _ (p : Plan) (l : p.dealer < p.n) (i : ℕ) where
  -- Outside the nodes of level k the cells are the same.
  abbrev pub SameOutside : ℕ → List ℕ → List ℕ → Type 0
  SameOutside k cells cells' =
      (b : ℕ) (γ : Label) → IsLabel p l b γ → (Memᴰ γ (nodes p i k) → ⊥) → cell_at p.n cells' γ ≡ cell_at p.n cells γ

  pub fill-outside : (q : ℕ) (k : Round) (vs cells : List ℕ) → 1 ≤ k.0 → q < p.n → SameOutside k.0 cells (fill p q (sent p q i k) vs cells)
  fill-outside q k vs cells low lq b γ m out =
      fill-other p l q k.0 (sent p q i k) vs cells b γ
      (λ α w. node-label p i k.0 (q ∷ α) (sent-node p i q k α low lq w)) m
      (λ α w e. out (subst (λ z. Memᴰ z (nodes p i k.0)) (sym e) (sent-node p i q k α low lq w)))

  pub mask-length : (r : ℕ) (γs : List Label) (cells : List ℕ) → length (mask_board p r γs cells) ≡ length cells
  unfolding mask_board
  mask-length r [] cells = refl
  mask-length r (γ ∷ γs) cells =
      cases (eqb (last γ) r)
      (λ e. rw e (mask-length r γs (store p.n cells γ (default p)) ∙ store_length p.n cells γ (default p)))
      (λ e. rw e (mask-length r γs cells))

  pub mask-outside : (r k : ℕ) (γs : List Label) (cells : List ℕ) → ((γ : Label) → Memᴰ γ γs → Memᴰ γ (nodes p i k))
      → SameOutside k cells (mask_board p r γs cells)
  unfolding mask_board
  mask-outside r k [] cells h b δ m out = refl
  mask-outside r k (γ ∷ γs) cells h b δ m out =
      let rest : SameOutside k cells (mask_board p r γs cells) = mask-outside r k γs cells (λ x w. h x (Memᴰ.tail w)) in
      let cells' = store p.n cells γ (default p) in
      let rest' : SameOutside k cells' (mask_board p r γs cells') = mask-outside r k γs cells' (λ x w. h x (Memᴰ.tail w)) in
      let here = h γ (Memᴰ.head refl) in
      cases (eqb (last γ) r)
      (λ e. rw e (rest' b δ m out
      ∙ store_other p.n p.dealer k b cells γ δ (default p) l (node-label p i k γ here) m (λ z. out (subst (λ x. Memᴰ x (nodes p i k)) (sym z) here))))
      (λ e. rw e (rest b δ m out))

  -- One node of rule G, of level k - 1.
  module _ (run : Run) (round : Round) (k : ℕ) (α : Label) (m : Memᴰ α (inner p i (k - 1))) (low : 1 ≤ k) where
    next_level : suc (length α) ≡ k
    next_level = omega (arith, node-length p i (k - 1) α (inner-inv p i (k - 1) α m).0)

    pub detect_g-outside : (s : Scan) → SameOutside k s.cells (detect_g p i run round α s).cells
    detect_g-outside s b γ w out =
        cases (passes p α (by_cell p s.cells α) s.list)
        (λ e. rw (detect_g-kept p i run round α s e) refl)
        (λ e. rw (detect_g-joined p i run round α s e) (mask-outside (last α) k (nodes p i (suc (length α))) s.cells (λ x h. subst (λ z. Memᴰ x (nodes p i z)) next_level h) b γ w out))

    pub detect_g-length : (s : Scan) → length (detect_g p i run round α s).cells ≡ length s.cells
    detect_g-length s =
        cases (passes p α (by_cell p s.cells α) s.list)
        (λ e. rw (detect_g-kept p i run round α s e) refl)
        (λ e. rw (detect_g-joined p i run round α s e) (mask-length (last α) (nodes p i (suc (length α))) s.cells))

  -- All of rule G.
  pub detect-outside : (run : Run) (round : Round) (k : ℕ) (αs : List Label) (s : Scan) → ((α : Label) → Memᴰ α αs → Memᴰ α (inner p i (k - 1))) → 1 ≤ k
      → SameOutside k s.cells (detect_all_g p i run round αs s).cells
  unfolding detect_all_g
  detect-outside run round k [] s h low b γ m out = refl
  detect-outside run round k (α ∷ αs) s h low b γ m out =
      detect-outside run round k αs (detect_g p i run round α s) (λ β w. h β (Memᴰ.tail w)) low b γ m out
      ∙ detect_g-outside run round k α (h α (Memᴰ.head refl)) low s b γ m out

  pub detect-length : (run : Run) (round : Round) (k : ℕ) (αs : List Label) (s : Scan) → ((α : Label) → Memᴰ α αs → Memᴰ α (inner p i (k - 1))) → 1 ≤ k
      → length (detect_all_g p i run round αs s).cells ≡ length s.cells
  unfolding detect_all_g
  detect-length run round k [] s h low = refl
  detect-length run round k (α ∷ αs) s h low =
      detect-length run round k αs (detect_g p i run round α s) (λ β w. h β (Memᴰ.tail w)) low ∙ detect_g-length run round k α (h α (Memᴰ.head refl)) low s

-- A whole round of a board whose number is below n.
module _ (r : Record) (l : r.plan.dealer < r.plan.n) (low : 1 ≤ r.round.0) (below : r.board < r.plan.n) where
  pub missing-outside : (k : ℕ) (cells : List ℕ) → k ≤ r.plan.n → SameOutside r.plan l r.board r.round.0 cells (fill_missing r.plan r.board r.round r.marks k cells)
  unfolding fill_missing
  missing-outside zero cells h b γ m out = refl
  missing-outside (suc k) cells h b γ m out =
      let before = missing-outside k cells (omega arith) b γ m out in
      cases (member k r.marks)
      (λ t. ap (λ c. cell_at r.plan.n c γ) (taken-stays r k cells t) ∙ before)
      (λ t. cases (due r.plan k r.board r.round)
      (λ d. rw (d, t) (fill-outside r.plan l r.board k r.round [] (fill_missing r.plan r.board r.round r.marks k cells) low h b γ m out ∙ before))
      (λ d. rw d before))

  pub missing-length : (k : ℕ) (cells : List ℕ) → length (fill_missing r.plan r.board r.round r.marks k cells) ≡ length cells
  unfolding fill_missing
  missing-length zero cells = refl
  missing-length (suc k) cells =
      let before = missing-length k cells in
      cases (due r.plan k r.board r.round && not (member k r.marks))
      (λ e. rw e (fill-length r.plan l k (sent r.plan k r.board r.round) [] (fill_missing r.plan r.board r.round r.marks k cells) ∙ before))
      (λ e. rw e before)

  pub own-outside : (cells : List ℕ) → SameOutside r.plan l r.board r.round.0 cells (copy_own r.plan r.board r.round cells)
  unfolding copy_own
  own-outside cells =
      fill-outside r.plan l r.board r.board r.round (frame r.plan r.board r.board r.round cells) cells low below

  pub own-length : (cells : List ℕ) → length (copy_own r.plan r.board r.round cells) ≡ length cells
  unfolding copy_own
  own-length cells =
      fill-length r.plan l r.board (sent r.plan r.board r.board r.round) (frame r.plan r.board r.board r.round cells) cells

  pub gather-outside : (w : Width) (cells : List ℕ) → SameOutside r.plan l r.board r.round.0 cells (gather (board_of w r cells)).cells
  unfolding gather
  gather-outside w cells b γ m out =
      let filled = fill_missing r.plan r.board r.round r.marks r.plan.n cells in
      detect-outside r.plan l r.board r.run r.round r.round.0 (inner r.plan r.board (r.round.0 - 1))
      (record { list = r.list; cells = copy_own r.plan r.board r.round filled }) (λ _ w. w) low b γ m out
      ∙ own-outside filled b γ m out ∙ missing-outside r.plan.n cells (omega arith) b γ m out

  pub gather-length : (w : Width) (cells : List ℕ) → length (gather (board_of w r cells)).cells ≡ length cells
  unfolding gather
  gather-length w cells =
      let filled = fill_missing r.plan r.board r.round r.marks r.plan.n cells in
      detect-length r.plan l r.board r.run r.round r.round.0 (inner r.plan r.board (r.round.0 - 1))
      (record { list = r.list; cells = copy_own r.plan r.board r.round filled }) (λ _ w. w) low
      ∙ own-length filled ∙ missing-length r.plan.n cells
