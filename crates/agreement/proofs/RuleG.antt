-- Rule G over the nodes of a level: lists grow, a cell that changes is masked, a board that is not listed in the end was spared at
-- each of its nodes, and no healthy board is listed.
-- Assumes nothing.
use Prim.Native.Nat.{ℕ, zero, suc, ◌-◌, ◌≤◌, ◌<◌}
use mathlib.Core.Path.{◌≡◌, refl, sym, ◌∙◌, ap, subst}
use mathlib.Core.Logic.{◌⊎◌, inl, inr, ⊎_elim}
use mathlib.Core.Bool.{true, false, not, ◌&&◌, ◌||◌}
use mathlib.Core.List.Memᴰ
use mathlib.Core.List.{List, [], ◌∷◌, Memᴰ}
use mathlib.Core.Option.{Option, some}
use native.Mathlib.Omega.{arith}
use lib.Dec.{eqb}
use lib.ListN.{length}
use borrow.Author.Tests.{eqb-true}
use Rattle.sets.specs.Sets.{member, set_of}
use Rattle.sets.specs.Structure.{tolerated}
use Rattle.sets.specs.Only.{same}
use Rattle.sets.proofs.Tests.{cases, clash, is_false, is_true, and_l, and_r, or-true, or_r, or_left, not_t}
use Rattle.sets.proofs.Search.{any-true}
use Rattle.plan.specs.declared.plan.Plan.{Plan}
use Rattle.plan.specs.Listed.{listed}
use Rattle.plan.specs.Values.{default, value}
use Rattle.schedule.specs.declared.rounds.Run.{Run}
use Rattle.schedule.specs.declared.rounds.Round.{Round}
use Rattle.tree.specs.Labels.{Label, occurs, last}
use Rattle.tree.specs.Places.{cell_count}
use Rattle.tree.specs.Cells.{cell_at, store}
use Rattle.tree.proofs.Cells.{store_length, store_same, store_other}
use Rattle.theory.specs.Tree as T
use Rattle.theory.specs.Runs as R
use Rattle.theory.proofs.Soundness.{spared}
use Rattle.protocol.specs.declared.records.Slot.{Slot}
use Rattle.protocol.specs.Listing.{as_set}
use Rattle.protocol.specs.Nodes.{read, nodes, inner}
use Rattle.protocol.specs.declared.records.Rule.TheVariants as Rule
use Rattle.protocol.specs.Detection.{explained, by_cell, passes, Scan, mask_board, detect_g, detect_all_g}
use Rattle.protocol.proofs.Rules.{detect_g-joined, detect_g-kept}
use Rattle.protocol.proofs.Nodes.{no_node, inner-inv, node-label, node-has}
use Rattle.protocol.proofs.Fill.{IsLabel, label-dec, value-default}
use Rattle.synchronous.proofs.Local.{detect_g-length}
use Rattle.protocol.proofs.Bounds.{inner_below}
use Rattle.protocol.proofs.Listing.{join-has, join-keeps, join-inv}
use Rattle.protocol.proofs.Tolerance.{tol, tol-mono}
use Rattle.agreement.proofs.Instance.{boards_of, list_of, inst}

-- The definitions' test is the theory's.
pub explained-inst : (p : Plan) (α : Label) (f : ℕ → Option ℕ) (s : List Slot) → explained p α f s ≡ R.explained (inst p) α f (list_of s)
unfolding explained R.explained tol
explained-inst p α f s = refl

module _ (p : Plan) (l : p.dealer < p.n) (i : ℕ) where
  -- Masking: a cell stays, or its last board is r and it has the default.
  pub mask-cell : (r a : ℕ) (γs : List Label) (cells : List ℕ) (b : ℕ) (δ : Label) → ((γ : Label) → Memᴰ γ γs → IsLabel p l a γ) → IsLabel p l b δ
      → cell_count p.n ≤ length cells
      → (cell_at p.n (mask_board p r γs cells) δ ≡ cell_at p.n cells δ) ⊎ ((cell_at p.n (mask_board p r γs cells) δ ≡ default p) × (last δ ≡ r))
  unfolding mask_board
  mask-cell r a [] cells b δ h m room = inl refl
  mask-cell r a (γ ∷ γs) cells b δ h m room =
      let here = h γ (Memᴰ.head refl) in
      let rest : (γ : Label) → Memᴰ γ γs → IsLabel p l a γ = λ x w. h x (Memᴰ.tail w) in
      let cells' = store p.n cells γ (default p) in
      cases (eqb (last γ) r)
      (λ e. rw e (⊎_elim
      (λ q. label-dec p l b a δ γ m here
      (λ z. inr (q ∙ ap (cell_at p.n cells') z ∙ store_same p.n p.dealer a cells γ (default p) l room here, ap last z ∙ eqb-true (last γ) r e))
      (λ ne. inl (q ∙ store_other p.n p.dealer a b cells γ δ (default p) l here m ne)))
      inr
      (mask-cell r a γs cells' b δ rest m (rw (store_length p.n cells γ (default p)) room))))
      (λ e. rw e (mask-cell r a γs cells b δ rest m room))

  -- A child of a node is a label of the next level.
  child-label : (k : ℕ) (α : Label) → Memᴰ α (inner p i k) → (c : ℕ) → c < p.n → occurs c α ≡ false → IsLabel p l (suc k) (c ∷ α)
  child-label zero α w c lc a = absurd (no_node p i α (inner-inv p i 0 α w).0)
  child-label (suc j) α w c lc a = node-label p i (suc (suc j)) (c ∷ α) (node-has p i j α c w lc a)

-- The rule of board i, in a run and a round.
module _ (p : Plan) (l : p.dealer < p.n) (few : p.n ≤ 7) (i : ℕ) (run : Run) (round : Round) where
  -- One node.
  module _ (k : ℕ) (α : Label) (w : Memᴰ α (inner p i k)) where
    end_below : last α < 7
    end_below = omega (arith, inner_below p l i k α w)

    pub detect_g-grow : (s : Scan) (r : ℕ) → member r (as_set s.list) ≡ true → member r (as_set (detect_g p i run round α s).list) ≡ true
    detect_g-grow s r h =
        cases (passes p α (by_cell p s.cells α) s.list)
        (λ e. rw (detect_g-kept p i run round α s e) h)
        (λ e. rw (detect_g-joined p i run round α s e) (join-keeps run round (Rule.G (length α)) (last α) s.list r h))

    pub detect_g-cell : (s : Scan) (b : ℕ) (δ : Label) → IsLabel p l b δ → cell_count p.n ≤ length s.cells
        → (read p (detect_g p i run round α s).cells δ ≡ read p s.cells δ) ⊎ ((read p (detect_g p i run round α s).cells δ ≡ default p) × (member (last δ) (as_set (detect_g p i run round α s).list) ≡ true))
    unfolding read
    detect_g-cell s b δ m room =
        cases (passes p α (by_cell p s.cells α) s.list)
        (λ e. inl (rw (detect_g-kept p i run round α s e)))
        (λ e. rw (detect_g-joined p i run round α s e)
        (⊎_elim
        (λ q. inl (ap (value p) q))
        (λ q. inr (ap (value p) q.0 ∙ value-default p, rw q.1 (join-has run round (Rule.G (length α)) (last α) s.list end_below)))
        (mask-cell p l i (last α) (suc (length α)) (nodes p i (suc (length α))) s.cells b δ (λ γ x. node-label p i (suc (length α)) γ x) m room)))

  abbrev Level : ℕ → List Label → Type 0
  Level k αs = (α : Label) → Memᴰ α αs → Memᴰ α (inner p i k)

  module _ (k : ℕ) where
    pub scan-grow : (αs : List Label) (s : Scan) (r : ℕ) → Level k αs → member r (as_set s.list) ≡ true → member r (as_set (detect_all_g p i run round αs s).list) ≡ true
    unfolding detect_all_g
    scan-grow [] s r h t = t
    scan-grow (α ∷ αs) s r h t =
        scan-grow αs (detect_g p i run round α s) r (λ β w. h β (Memᴰ.tail w)) (detect_g-grow k α (h α (Memᴰ.head refl)) s r t)

    same_length : (α : Label) → Memᴰ α (inner p i k) → (s : Scan) → length (detect_g p i run round α s).cells ≡ length s.cells
    same_length α w s =
        let z : suc k - 1 ≡ k = omega arith in
        detect_g-length p l i run round (suc k) α (subst (λ x. Memᴰ α (inner p i x)) (sym z) w) (omega arith) s

    -- What a scan does to a cell: nothing, or it is masked.
    abbrev pub Kept : Scan → Scan → Label → Type 0
    Kept s e δ = (read p e.cells δ ≡ read p s.cells δ) ⊎ ((read p e.cells δ ≡ default p) × (member (last δ) (as_set e.list) ≡ true))

    pub scan-cell : (αs : List Label) (s : Scan) (b : ℕ) (δ : Label) → Level k αs → IsLabel p l b δ → cell_count p.n ≤ length s.cells
        → Kept s (detect_all_g p i run round αs s) δ
    unfolding detect_all_g
    scan-cell [] s b δ h m room = inl refl
    scan-cell (α ∷ αs) s b δ h m room =
        let here = h α (Memᴰ.head refl) in
        let rest : Level k αs = λ β w. h β (Memᴰ.tail w) in
        let s' = detect_g p i run round α s in
        ⊎_elim
        (λ q. ⊎_elim
        (λ x. inl (q ∙ x))
        (λ x. inr (q ∙ x.0, scan-grow αs s' (last δ) rest x.1))
        (detect_g-cell k α here s b δ m room))
        inr
        (scan-cell αs s' b δ rest m (rw (same_length α here s) room))

    -- A board that is not listed in the end was spared at its node, by cells and list as they stand in the end.
    abbrev pub SparedBy : Scan → Label → Type 0
    SparedBy e α = (v : ℕ) × (v < p.span) × (tol p (λ c. not (member c (as_set e.list)) && T.others α (by_cell p e.cells α) v c) ≡ true)

    spared-here : (α : Label) (αs : List Label) (s : Scan) → Memᴰ α (inner p i k) → Level k αs → cell_count p.n ≤ length s.cells
        → member (last α) (as_set (detect_all_g p i run round αs (detect_g p i run round α s)).list) ≡ false → SparedBy (detect_all_g p i run round αs (detect_g p i run round α s)) α
    unfolding passes explained by_cell last tol
    spared-here α αs s w h room u =
        cases (passes p α (by_cell p s.cells α) s.list)
        (λ e. let kept = detect_g-kept p i run round α s e in
        let u' : member (last α) (as_set (detect_all_g p i run round αs s).list) ≡ false = subst (λ x. member (last α) (as_set (detect_all_g p i run round αs x).list) ≡ false) kept u in
        let new : member (last α) (as_set s.list) ≡ false = is_false (member (last α) (as_set s.list)) (λ t. clash (scan-grow αs s (last α) h t) u') in
        let why : explained p α (by_cell p s.cells α) s.list ≡ true =
        ⊎_elim (λ t. clash t new) (λ t. t) (or-true (member (last α) (as_set s.list)) (explained p α (by_cell p s.cells α) s.list) e) in
        let (v, lv, t) = any-true (λ v. tolerated (listed p) (set_of (λ c. (not (occurs c α) && not (same (by_cell p s.cells α c) (some v))) || member c (as_set s.list)) p.n)) p.span why in
        subst (λ x. SparedBy (detect_all_g p i run round αs x) α) (sym kept) (
          v,
          lv,
          tol-mono p (λ c. not (member c (as_set (detect_all_g p i run round αs s).list)) && T.others α (by_cell p (detect_all_g p i run round αs s).cells α) v c)
              (λ c. (not (occurs c α) && not (same (by_cell p s.cells α c) (some v))) || member c (as_set s.list))
              (λ c lc z.
              let e' = detect_all_g p i run round αs s in
              let out = not_t (member c (as_set e'.list)) (and_l (not (member c (as_set e'.list))) (T.others α (by_cell p e'.cells α) v c) z) in
              let oth = and_r (not (member c (as_set e'.list))) (T.others α (by_cell p e'.cells α) v c) z in
              let a = not_t (occurs c α) (and_l (not (occurs c α)) (not (same (by_cell p e'.cells α c) (some v))) oth) in
              let cell : read p e'.cells (c ∷ α) ≡ read p s.cells (c ∷ α) =
              ⊎_elim (λ x. x) (λ x. clash x.1 out) (scan-cell αs s (suc k) (c ∷ α) h (child-label p l i k α w c lc a) room) in
              or_left (not (occurs c α) && not (same (by_cell p s.cells α c) (some v))) (member c (as_set s.list))
              (subst (λ x. (not (occurs c α) && not (same (some x) (some v))) ≡ true) cell oth))
              t,
        ))
        (λ e. let joined = detect_g-joined p i run round α s e in
        clash (scan-grow αs (detect_g p i run round α s) (last α) h (rw joined (join-has run round (Rule.G (length α)) (last α) s.list (end_below k α w)))) u)

    pub scan-spared : (αs : List Label) (s : Scan) (α : Label) → Level k αs → Memᴰ α αs → cell_count p.n ≤ length s.cells
        → member (last α) (as_set (detect_all_g p i run round αs s).list) ≡ false → SparedBy (detect_all_g p i run round αs s) α
    unfolding detect_all_g
    scan-spared [] s α h m room u = absurd (Memᴰ.not-nil m)
    scan-spared (β ∷ αs) s α h m room u =
        let here = h β (Memᴰ.head refl) in
        let rest : Level k αs = λ γ w. h γ (Memᴰ.tail w) in
        ⊎_elim
        (λ e. subst (λ x. SparedBy (detect_all_g p i run round αs (detect_g p i run round β s)) x) (sym e)
        (spared-here β αs s here rest room (subst (λ x. member (last x) (as_set (detect_all_g p i run round αs (detect_g p i run round β s)).list) ≡ false) e u)))
        (λ m'. scan-spared αs (detect_g p i run round β s) α rest m' (rw (same_length β here s) room) u)
        (Memᴰ.cases_cons m)

    -- No healthy board is listed where the healthy children of each node of a healthy board have one value.
    module _ (F : ℕ) (G : T.Good (inst p) (boards_of F)) where
      abbrev pub Minds : Scan → Label → Type 0
      Minds s α = member (last α) F ≡ false
          → (v : ℕ) × (v < p.span) × ((c : ℕ) → T.Healthy (inst p) (boards_of F) c → occurs c α ≡ false → read p s.cells (c ∷ α) ≡ v)

      abbrev pub Sound : Scan → Type 0
      Sound s = T.Sub p.n (list_of s.list) (boards_of F)

      detect_g-sound : (α : Label) (s : Scan) {j : ℕ} → T.Node (inst p) i j α → Memᴰ α (inner p i k) → Minds s α → Sound s → Sound (detect_g p i run round α s)
      unfolding passes by_cell
      detect_g-sound α s N w mind sound q lq t =
          cases (passes p α (by_cell p s.cells α) s.list)
          (λ e. sound q lq (subst (λ x. member q (as_set x.list) ≡ true) (detect_g-kept p i run round α s e) t))
          (λ e. ⊎_elim
          (λ x. is_true (member q F) (λ out.
          let (v, lv, same-value) = mind (subst (λ z. member z F ≡ false) x out) in
          clash (explained-inst p α (by_cell p s.cells α) s.list
          ∙ spared G v (by_cell p s.cells α) (list_of s.list) N lv (λ c C a. ap some (same-value c C a)) sound)
          (or_r (member (last α) (as_set s.list)) (explained p α (by_cell p s.cells α) s.list) e)))
          (sound q lq)
          (join-inv run round (Rule.G (length α)) (last α) s.list q (subst (λ x. member q (as_set x.list) ≡ true) (detect_g-joined p i run round α s e) t)))

      pub scan-sound : (αs : List Label) (s : Scan) {j : ℕ} → ((α : Label) → Memᴰ α αs → T.Node (inst p) i j α) → Level k αs
          → cell_count p.n ≤ length s.cells → ((α : Label) → Memᴰ α αs → Minds s α) → Sound s → Sound (detect_all_g p i run round αs s)
      unfolding detect_all_g last
      scan-sound [] s N h room minds sound = sound
      scan-sound (α ∷ αs) s N h room minds sound =
          let here = h α (Memᴰ.head refl) in
          let s' = detect_g p i run round α s in
          let sound' : Sound s' = detect_g-sound α s (N α (Memᴰ.head refl)) here (minds α (Memᴰ.head refl)) sound in
          scan-sound αs s' (λ β w. N β (Memᴰ.tail w)) (λ β w. h β (Memᴰ.tail w)) (rw (same_length α here s) room)
          (λ β w out. let (v, lv, u) = minds β (Memᴰ.tail w) out in (
            v,
            lv,
            λ c C a. ⊎_elim
                (λ x. x ∙ u c C a)
                (λ x. clash (sound' c C.below x.1) C.correct)
                (detect_g-cell k α here s (suc k) (c ∷ β) (child-label p l i k β (h β (Memᴰ.tail w)) c C.below a) room),
          ))
          sound'
