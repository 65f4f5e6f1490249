-- Rule C over the levels: lists grow, a board that is not listed in the end was spared at each of its nodes, and no healthy board is listed.
-- Assumes nothing.
use Prim.Native.Nat.{ℕ, zero, suc, ◌-◌, ◌≤◌, ◌<◌}
use mathlib.Core.Path.{◌≡◌, refl, sym, ◌∙◌, subst}
use mathlib.Core.Logic.{◌≢◌, ⊎_elim}
use mathlib.Core.Bool.{true, false, not, ◌&&◌, ◌||◌}
use mathlib.Core.List.Memᴰ
use mathlib.Core.List.{List, [], ◌∷◌, Memᴰ}
use mathlib.Core.Option.{some}
use native.Mathlib.Omega.{arith}
use lib.Dec.{eqb}
use lib.ListN.{length}
use borrow.Author.Tests.{eqb-true, eqb-false}
use Rattle.sets.specs.Sets.{member, set_of}
use Rattle.sets.specs.Structure.{tolerated}
use Rattle.sets.specs.Only.{same}
use Rattle.sets.proofs.Tests.{cases, clash, is_false, is_true, or-true, or_r, or_left, or_right}
use Rattle.sets.proofs.Search.{any-true}
use Rattle.plan.specs.declared.plan.Plan.{Plan}
use Rattle.plan.specs.Listed.{listed}
use Rattle.schedule.specs.declared.rounds.Run.{Run}
use Rattle.schedule.specs.declared.rounds.Round.{Round}
use Rattle.schedule.specs.Schedule.{rounds}
use Rattle.tree.specs.Labels.{Label, occurs, last}
use Rattle.theory.specs.Tree as T
use Rattle.theory.proofs.Soundness.{spared}
use Rattle.protocol.specs.declared.records.Slot.{Slot}
use Rattle.protocol.specs.Listing.{as_set}
use Rattle.protocol.specs.Nodes.{inner}
use Rattle.protocol.specs.declared.records.Rule.TheVariants as Rule
use Rattle.protocol.specs.Detection.{resolve_root, Scan, explained, by_resolving, passes, detect_c, detect_all_c, detect_levels}
use Rattle.protocol.specs.Records.{run_ended}
use Rattle.protocol.specs.Rounds.{Board, root_only, convert}
use Rattle.protocol.proofs.Rules.{detect_c-joined, detect_c-kept}
use Rattle.protocol.proofs.Tolerance.{tol, tol-mono}
use Rattle.protocol.proofs.Listing.{join-has, join-keeps, join-inv}
use Rattle.agreement.proofs.Instance.{inst, boards_of, list_of}
use Rattle.agreement.proofs.RuleG.{explained-inst}

module _ (p : Plan) (i : ℕ) (run : Run) (round : Round) (cells : List ℕ) where
  detect_c-grow : (α : Label) (s : List Slot) (r : ℕ) → member r (as_set s) ≡ true → member r (as_set (detect_c p i run round cells α s)) ≡ true
  detect_c-grow α s r h =
      cases (passes p α (by_resolving p i cells α) s) (λ e. rw (detect_c-kept p i run round α cells s e) h) (λ e. rw (detect_c-joined p i run round α cells s e) (join-keeps run round (Rule.C (length α)) (last α) s r h))

  level-grow : (αs : List Label) (s : List Slot) (r : ℕ) → member r (as_set s) ≡ true → member r (as_set (detect_all_c p i run round cells αs s)) ≡ true
  unfolding detect_all_c
  level-grow [] s r h = h
  level-grow (α ∷ αs) s r h = level-grow αs (detect_c p i run round cells α s) r (detect_c-grow α s r h)

  pub levels-grow : (k : ℕ) (s : List Slot) (r : ℕ) → member r (as_set s) ≡ true → member r (as_set (detect_levels p i run round cells k s)) ≡ true
  unfolding detect_levels
  levels-grow zero s r h = h
  levels-grow (suc k) s r h = levels-grow k (detect_all_c p i run round cells (inner p i (suc k)) s) r (level-grow (inner p i (suc k)) s r h)

  -- Some value leaves a tolerated set of children with another, and of listed boards.
  abbrev pub SparedBy : List Slot → Label → Type 0
  SparedBy s α = (v : ℕ) × (v < p.span) × (tol p (λ c. T.others α (by_resolving p i cells α) v c || member c (as_set s)) ≡ true)

  -- Spared with a longer list, spared with a shorter one.
  fewer : (α : Label) (s t : List Slot) → ((r : ℕ) → member r (as_set s) ≡ true → member r (as_set t) ≡ true) → SparedBy t α → SparedBy s α
  fewer α s t h x =
      let (v, l, e) = x in (
        v,
        l,
        tol-mono p (λ c. T.others α (by_resolving p i cells α) v c || member c (as_set s)) (λ c. T.others α (by_resolving p i cells α) v c || member c (as_set t))
            (λ c _ z. ⊎_elim
            (λ a. or_left (T.others α (by_resolving p i cells α) v c) (member c (as_set t)) a)
            (λ b. or_right (T.others α (by_resolving p i cells α) v c) (member c (as_set t)) (h c b))
            (or-true (T.others α (by_resolving p i cells α) v c) (member c (as_set s)) z)) e,
      )

  spared-here : (α : Label) (s : List Slot) → last α < 7 → member (last α) (as_set (detect_c p i run round cells α s)) ≡ false → SparedBy s α
  unfolding passes explained tol
  spared-here α s below u =
      cases (passes p α (by_resolving p i cells α) s)
      (λ e. let new = subst (λ x. member (last α) (as_set x) ≡ false) (detect_c-kept p i run round α cells s e) u in
      let why : explained p α (by_resolving p i cells α) s ≡ true =
      ⊎_elim (λ t. clash t new) (λ t. t) (or-true (member (last α) (as_set s)) (explained p α (by_resolving p i cells α) s) e) in
      any-true (λ v. tolerated (listed p) (set_of (λ c. (not (occurs c α) && not (same (by_resolving p i cells α c) (some v))) || member c (as_set s)) p.n)) p.span why)
      (λ e. clash (join-has run round (Rule.C (length α)) (last α) s below) (subst (λ x. member (last α) (as_set x) ≡ false) (detect_c-joined p i run round α cells s e) u))

  level-spared : (αs : List Label) (s : List Slot) (α : Label) → Memᴰ α αs → last α < 7 → member (last α) (as_set (detect_all_c p i run round cells αs s)) ≡ false → SparedBy s α
  unfolding detect_all_c
  level-spared [] s α m below u = absurd (Memᴰ.not-nil m)
  level-spared (β ∷ αs) s α m below u =
      let s' = detect_c p i run round cells β s in
      ⊎_elim
      (λ e. subst (SparedBy s) (sym e) (spared-here β s (subst (λ x. last x < 7) e below) (is_false (member (last β) (as_set s')) (λ t.
      clash (level-grow αs s' (last β) t) (subst (λ x. member (last x) (as_set (detect_all_c p i run round cells αs s')) ≡ false) e u)))))
      (λ m'. fewer α s s' (detect_c-grow β s) (level-spared αs s' α m' below u))
      (Memᴰ.cases_cons m)

  pub levels-spared : (k : ℕ) (s : List Slot) (j : ℕ) (α : Label) → 1 ≤ j → j ≤ k → Memᴰ α (inner p i j) → last α < 7 → member (last α) (as_set (detect_levels p i run round cells k s)) ≡ false → SparedBy s α
  unfolding detect_levels
  levels-spared zero s j α low high m below u = absurd (omega arith)
  levels-spared (suc k) s j α low high m below u =
      let s' = detect_all_c p i run round cells (inner p i (suc k)) s in
      cases (eqb j (suc k))
      (λ e. level-spared (inner p i (suc k)) s α (subst (λ x. Memᴰ α (inner p i x)) (eqb-true j (suc k) e) m) below
      (is_false (member (last α) (as_set s')) (λ t. clash (levels-grow k s' (last α) t) u)))
      (λ e. let ne : j ≢ suc k = eqb-false j (suc k) e in
      fewer α s s' (level-grow (inner p i (suc k)) s) (levels-spared k s' j α low (omega arith) m below u))

  -- No healthy board is listed where the healthy children of each node of a healthy board resolve to one value.
  module _ (F : ℕ) (G : T.Good (inst p) (boards_of F)) where
    abbrev pub Minds : Label → Type 0
    Minds α = member (last α) F ≡ false
        → (v : ℕ) × (v < p.span) × ((c : ℕ) → T.Healthy (inst p) (boards_of F) c → occurs c α ≡ false → by_resolving p i cells α c ≡ some v)

    abbrev pub Sound : List Slot → Type 0
    Sound s = T.Sub p.n (list_of s) (boards_of F)

    detect_c-sound : (α : Label) (s : List Slot) {j : ℕ} → T.Node (inst p) i j α → Minds α → Sound s → Sound (detect_c p i run round cells α s)
    unfolding passes
    detect_c-sound α s N mind sound q lq t =
        cases (passes p α (by_resolving p i cells α) s)
        (λ e. sound q lq (subst (λ x. member q (as_set x) ≡ true) (detect_c-kept p i run round α cells s e) t))
        (λ e. ⊎_elim
        (λ x. is_true (member q F) (λ out.
        let (v, lv, u) = mind (subst (λ z. member z F ≡ false) x out) in
        clash (explained-inst p α (by_resolving p i cells α) s ∙ spared G v (by_resolving p i cells α) (list_of s) N lv u sound)
        (or_r (member (last α) (as_set s)) (explained p α (by_resolving p i cells α) s) e)))
        (sound q lq)
        (join-inv run round (Rule.C (length α)) (last α) s q (subst (λ x. member q (as_set x) ≡ true) (detect_c-joined p i run round α cells s e) t)))

    level-sound : (αs : List Label) (s : List Slot) → ((α : Label) → Memᴰ α αs → (left : ℕ) × T.Node (inst p) i left α × Minds α) → Sound s
        → Sound (detect_all_c p i run round cells αs s)
    unfolding detect_all_c
    level-sound [] s f sound = sound
    level-sound (α ∷ αs) s f sound =
        let (left, N, mind) = f α (Memᴰ.head refl) in
        level-sound αs (detect_c p i run round cells α s) (λ β w. f β (Memᴰ.tail w)) (detect_c-sound α s N mind sound)

    pub levels_sound : (k : ℕ) (s : List Slot) → ((j : ℕ) (α : Label) → 1 ≤ j → j ≤ k → Memᴰ α (inner p i j) → (left : ℕ) × T.Node (inst p) i left α × Minds α)
        → Sound s → Sound (detect_levels p i run round cells k s)
    unfolding detect_levels
    levels_sound zero s h sound = sound
    levels_sound (suc k) s h sound =
        levels_sound k (detect_all_c p i run round cells (inner p i (suc k)) s) (λ j α low high m. h j α low (omega arith) m)
        (level-sound (inner p i (suc k)) s (λ α m. h (suc k) α (omega arith) (omega arith) m) sound)

-- 01: "L stays" when a run ends.
pub convert-grow : (b : Board) (s : Scan) (q : ℕ) → member q (as_set s.list) ≡ true → member q (as_set (convert b s).rec.list) ≡ true
unfolding convert run_ended
convert-grow b s q h = let r = b.rec in levels-grow r.plan r.board r.run r.round s.cells ((rounds r.plan).0 - 1) s.list q h

-- 01: "The resolved root becomes the root cell", in every run.
pub convert-cells : (b : Board) (s : Scan) → let r = b.rec in (convert b s).cells ≡ root_only b.width r.plan.n (resolve_root r.plan r.board s.cells) s.cells
unfolding convert run_ended
convert-cells b s = refl
