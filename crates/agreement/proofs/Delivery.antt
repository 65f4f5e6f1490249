-- One step of the session: what healthy boards hear of one another, and that none of them is listed by rule G.
-- Assumes nothing.
use Prim.Native.Nat.{ℕ, suc, ◌-◌, ◌≤◌, ◌<◌}
use mathlib.Core.Path.{◌≡◌, refl, sym, ◌∙◌, ap, subst}
use mathlib.Core.Logic.{◌≢◌}
use mathlib.Core.Bool.{true, false, not, ◌&&◌}
use mathlib.Core.List.{List, [], ◌∷◌, map, Memᴰ}
use mathlib.Core.Option.{some}
use native.Mathlib.Omega.{arith}
use lib.Dec.{eqb, ltb}
use lib.ListN.{length}
use borrow.Author.Tests.{eqb-true, eqb-false, eq-eqb, ne_eqb, lt-ltb}
use Rattle.sets.specs.Sets.{member}
use Rattle.sets.proofs.Tests.{cases, and-true, true-not}
use Rattle.plan.specs.declared.plan.Plan.{Plan}
use Rattle.plan.specs.Values.{value}
use Rattle.schedule.specs.declared.rounds.Round.{Round}
use Rattle.schedule.specs.Schedule.{steps, step_run, step_round}
use Rattle.tree.specs.Labels.{Label, occurs}
use Rattle.tree.specs.Cells.{cell_at}
use Rattle.theory.specs.Tree as T
use Rattle.protocol.specs.Listing.{as_set}
use Rattle.protocol.specs.Nodes.{read, nodes, inner, sent, due, frame}
use Rattle.protocol.specs.Detection.{Scan, detect_all_g}
use Rattle.protocol.specs.Calls.{frame_of}
use Rattle.protocol.specs.Session.{Adversary, Setting, hears, at, keeper, Sound}
use Rattle.protocol.specs.declared.records.Record.{Record}
use Rattle.protocol.proofs.Nodes.{sent-same, sent-has, inner-inv, node-label}
use Rattle.protocol.proofs.Fill.{IsLabel}
use Rattle.synchronous.proofs.Local.{detect-outside}
use Rattle.protocol.proofs.Judgement.{plan-facts, plan-default, Good, good-dealer}
use Rattle.protocol.proofs.Bounds.{read_small}
use Rattle.synchronous.proofs.Reached.{other-level}
use Rattle.synchronous.proofs.Hearing.{filled, filled-outside, delivered, copied}
use Rattle.synchronous.proofs.Synchronous.{told, keeper-facts, Standing, standing, canon}
use Rattle.agreement.proofs.Instance.{inst, inst-good, boards_of}
use Rattle.agreement.proofs.Healthy.{tolerated-below, is-keeper}

module _ (s : Setting) (a : Adversary) (sound : Sound s) where
  abbrev plan : Plan
  plan = s.plan

  abbrev F : ℕ
  F = s.faulty

  pub most-boards : plan.n ≤ 7
  most-boards = (plan-facts plan sound.accepted).admission.most-boards

  pub good : T.Good (inst plan) (boards_of F)
  good = inst-good plan F sound.accepted (tolerated-below plan sound.accepted F sound.tolerable) sound.tolerable

  pub healthy : (i : ℕ) → keeper s i ≡ true → T.Healthy (inst plan) (boards_of F) i
  healthy i k = let (l, f, ne) = keeper-facts s a sound i k in record { below = l; correct = f; keeper = ne }

  pub healthy-keeper : (i : ℕ) → T.Healthy (inst plan) (boards_of F) i → keeper s i ≡ true
  healthy-keeper i H = is-keeper s i H.below H.correct H.keeper

  -- What a healthy board that keeps cells sends is heard as it is.
  pub told-frame : (j i q : ℕ) → keeper s q ≡ true → j < steps plan
      → told s a i j q ≡ some (map (read plan (at s a j q).cells) (sent plan q i (step_round plan (suc j))))
  unfolding hears frame_of frame at
  told-frame j i q k l =
      let (lq, f, ne) = keeper-facts s a sound q k in
      let b = at s a j q in
      let as-record : frame_of b ≡ frame plan q q (step_round plan (suc j)) b.cells =
      ap (λ (x : Record). frame x.plan x.board x.board x.round b.cells) (standing s a sound j q k l).shape in
      rw (f, ne_eqb q plan.dealer ne) (ap some (as-record ∙ ap (map (read plan b.cells)) (sent-same plan q q i (step_round plan (suc j)))))

  -- A healthy dealer's value is heard in round 1.
  pub told-word : (j i : ℕ) → member plan.dealer F ≡ false → told s a i j plan.dealer ≡ some (s.word ∷ [])
  unfolding hears
  told-word j i f = rw (f, eq-eqb plan.dealer plan.dealer refl)

  -- A node's child by a board that is not on it is due from that board.
  pub is-due : (q i e : ℕ) (k : Round) (α : Label) → q < plan.n → i < plan.n → q ≢ i → i ≢ plan.dealer → k.0 ≡ suc (suc e)
      → Memᴰ α (inner plan i (suc e)) → occurs q α ≡ false → Memᴰ α (sent plan q i k) × (due plan q i k ≡ true)
  unfolding due
  is-due q i e k α lq li ne nd ek m out =
      let w : Memᴰ α (sent plan q i k) =
      sent-has plan i q k α (λ z. let y : ⊥ = omega arith in y) (subst (λ x. Memᴰ α (inner plan i x)) (let z : suc e ≡ k.0 - 1 = omega arith in z) m) out in (
        w,
        and-true (ltb q plan.n && ltb i plan.n) (not (eqb q i) && (not (eqb i plan.dealer) && ltb 0 (length (sent plan q i k))))
            (and-true (ltb q plan.n) (ltb i plan.n) (lt-ltb q plan.n lq) (lt-ltb i plan.n li))
            (and-true (not (eqb q i)) (not (eqb i plan.dealer) && ltb 0 (length (sent plan q i k))) (true-not (eqb q i) (ne_eqb q i ne))
            (and-true (not (eqb i plan.dealer)) (ltb 0 (length (sent plan q i k))) (true-not (eqb i plan.dealer) (ne_eqb i plan.dealer nd))
            (lt-ltb 0 (length (sent plan q i k)) (some-entry (sent plan q i k) w)))),
      )
    where
      some-entry : (αs : List Label) → Memᴰ α αs → 0 < length αs
      some-entry [] w = absurd (mathlib.Core.List.Memᴰ.not-nil w)
      some-entry (β ∷ αs) w = omega arith

  -- In step j, board i when all frames are stored.
  module _ (j i : ℕ) (ki : keeper s i ≡ true) (l : j < steps plan) where
    abbrev pub st : Standing s a sound j i
    st = standing s a sound j i ki l

    abbrev pub rec : Record
    rec = canon s a sound i j (at s a j i).rec.list

    pub rec-good : Good rec
    rec-good = subst Good st.shape st.good

    abbrev pub stored-cells : List ℕ
    stored-cells = filled rec rec-good refl (told s a i j) (at s a j i).cells st.room

    -- The list and the cells after rule G.
    abbrev pub scanned : Scan
    scanned = detect_all_g plan i (step_run plan (suc j)) (step_round plan (suc j)) (inner plan i ((step_round plan (suc j)).0 - 1)) (record { list = (at s a j i).rec.list; cells = stored-cells })

    -- What board i has of a healthy board q, or of itself, is that board's cell.
    pub stored-healthy : (q e : ℕ) (α : Label) → keeper s q ≡ true → member q (as_set (at s a j i).rec.list) ≡ false → (step_round plan (suc j)).0 ≡ suc (suc e)
        → Memᴰ α (inner plan i (suc e)) → occurs q α ≡ false → read plan stored-cells (q ∷ α) ≡ read plan (at s a j q).cells α
    stored-healthy q e α kq out ek m a-out =
        let (lq, fq, nq) = keeper-facts s a sound q kq in
        let (li, fi, ni) = keeper-facts s a sound i ki in
        let k = step_round plan (suc j) in
        let default_below = plan-default plan sound.accepted in
        cases (eqb q i)
        (λ x. let z = eqb-true q i x in
        let w : Memᴰ α (sent plan i i k) =
        sent-has plan i i k α (λ y. let b : ⊥ = omega arith in b) (subst (λ y. Memᴰ α (inner plan i y)) (let y : suc e ≡ k.0 - 1 = omega arith in y) m)
        (subst (λ y. occurs y α ≡ false) z a-out) in
        let here = node-label plan i (suc e) α (inner-inv plan i (suc e) α m).0 in
        subst (λ y. read plan stored-cells (y ∷ α) ≡ read plan (at s a j y).cells α) (sym z)
        (copied rec rec-good refl (told s a i j) (at s a j i).cells st.room α (suc e) w here
        (λ y. let b = other-level plan (good-dealer rec rec-good) i (suc e) k.0 α here y in let c : ⊥ = omega arith in c) default_below))
        (λ x. let ne : q ≢ i = eqb-false q i x in
        let (w, d) = is-due q i e k α lq li ne ni ek m a-out in
        delivered rec rec-good refl (told s a i j) (at s a j i).cells st.room q α lq w (read plan (at s a j q).cells) ne d out
        (told-frame j i q kq l) (read_small plan default_below (at s a j q).cells α))

    -- Cells of other levels than the round's stay in this step.
    pub scanned-cell : (b : ℕ) (γ : Label) → IsLabel plan (good-dealer rec rec-good) b γ → b ≢ (step_round plan (suc j)).0
        → cell_at plan.n scanned.cells γ ≡ cell_at plan.n (at s a j i).cells γ
    scanned-cell b γ w ne =
        let out : Memᴰ γ (nodes plan i (step_round plan (suc j)).0) → ⊥ = λ y. ne (other-level plan (good-dealer rec rec-good) i b (step_round plan (suc j)).0 γ w y) in
        detect-outside plan (good-dealer rec rec-good) i (step_run plan (suc j)) (step_round plan (suc j)) (step_round plan (suc j)).0 (inner plan i ((step_round plan (suc j)).0 - 1))
        (record { list = (at s a j i).rec.list; cells = stored-cells }) (λ _ y. y) rec-good.position.round-low b γ w out
        ∙ filled-outside rec rec-good refl (told s a i j) (at s a j i).cells st.room b γ w out

    pub scanned-other : (b : ℕ) (γ : Label) → IsLabel plan (good-dealer rec rec-good) b γ → b ≢ (step_round plan (suc j)).0
        → read plan scanned.cells γ ≡ read plan (at s a j i).cells γ
    unfolding read
    scanned-other b γ w ne = ap (value plan) (scanned-cell b γ w ne)
