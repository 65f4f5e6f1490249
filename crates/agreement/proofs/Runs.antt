-- A run of the session: lists grow, cells of closed rounds stay, listed boards are masked, and what the rules leave.
-- Assumes nothing.
use Prim.Native.Nat.{ℕ, zero, suc, ◌+◌, ◌-◌, ◌≤◌, ◌<◌}
use mathlib.Core.Path.{◌≡◌, refl, sym, ◌∙◌, ap, subst}
use mathlib.Core.Logic.{◌≢◌, ⊎_elim}
use mathlib.Core.Bool.{true, false, not, ◌&&◌, ◌||◌}
use mathlib.Core.List.{[], ◌∷◌, Memᴰ}
use mathlib.Core.Option.{some}
use native.Mathlib.Omega.{arith}
use lib.Dec.{ltb}
use lib.ListN.{length, get_or}
use borrow.Author.Tests.{ltb-true, ltb-false}
use Rattle.sets.specs.Sets.{member}
use Rattle.sets.specs.Only.{same}
use Rattle.sets.proofs.Tests.{cases, clash, is_false, and_l, and_r, and-true, not_t, true-not}
use Rattle.plan.specs.declared.plan.Plan.{Plan}
use Rattle.plan.specs.Values.{default}
use Rattle.schedule.specs.declared.rounds.Round.{Round}
use Rattle.schedule.specs.Schedule.{rounds, steps, step, step_run, step_round}
use Rattle.schedule.proofs.Steps.{Has, round-of-step}
use Rattle.tree.specs.Labels.{Label, occurs, last}
use Rattle.tree.proofs.Labels.{root-has}
use Rattle.tree.proofs.Cells.{root-cell}
use Rattle.theory.specs.Tree as T
use Rattle.protocol.specs.Listing.{as_set}
use Rattle.protocol.specs.Nodes.{read, inner}
use Rattle.protocol.specs.Detection.{Scan, by_cell, by_resolving, resolve, detect_levels}
use Rattle.protocol.specs.Records.{run_ended}
use Rattle.protocol.specs.Rounds.{Board, gather, next_round, convert}
use Rattle.protocol.specs.Session.{Adversary, Setting, at, take_all, keeper, Sound}
use Rattle.protocol.proofs.Bounds.{inner_below}
use Rattle.protocol.proofs.Nodes.{node-label, node-has}
use Rattle.protocol.proofs.Fill.{IsLabel}
use Rattle.protocol.proofs.Tolerance.{tol, tol-mono}
use Rattle.synchronous.proofs.Hearing.{silenced}
use Rattle.synchronous.proofs.Synchronous.{told, keeper-facts, standing, position, number, next-position}
use Rattle.agreement.proofs.Instance.{inst, resolve-inst}
use Rattle.agreement.proofs.RuleG.{scan-grow, scan-cell, scan-spared, SparedBy}
use Rattle.agreement.proofs.RuleC.{levels-spared, convert-grow}
use Rattle.agreement.proofs.Delivery.{most-boards, is-due, st, rec, rec-good, scanned, scanned-cell, scanned-other}
use Rattle.agreement.proofs.Soundness.{open-round, inv, scan-is, within-run, run_ends, room, dealer-below, lists-within}

module _ (s : Setting) (a : Adversary) (sound : Sound s) where
  abbrev plan : Plan
  plan = s.plan

  abbrev R : ℕ
  R = (rounds plan).0

  -- The list and the cells of board i in step j, after rule G.
  abbrev pub scan : ℕ → ℕ → Scan
  scan j i = gather (take_all (told s a i j) (at s a j i) plan.n)

  module _ (j i : ℕ) (ki : keeper s i ≡ true) (l : j < steps plan) where
    is-scanned : scan j i ≡ scanned s a sound j i ki l
    is-scanned = scan-is s a sound j l (inv s a sound j l) i ki

    -- Rule G only adds to the list.
    pub scan-more : (r : ℕ) → member r (as_set (at s a j i).rec.list) ≡ true → member r (as_set (scan j i).list) ≡ true
    scan-more r t =
        subst (λ x. member r (as_set x.list) ≡ true) (sym is-scanned)
        (scan-grow plan (dealer-below s a sound j l (inv s a sound j l)) (most-boards s a sound) i (step_run plan (suc j)) (step_round plan (suc j)) (open-round s a sound j - 1) (inner plan i (open-round s a sound j - 1)) _ r (λ _ m. m) t)

    pub next-board : open-round s a sound j < R → ((at s a (suc j) i).rec.list ≡ (scan j i).list) × ((at s a (suc j) i).cells ≡ (scan j i).cells)
    unfolding next_round
    next-board h =
        let e = within-run s a sound j l (inv s a sound j l) i ki h in
        (ap (λ (b : Board). b.rec.list) e, ap (λ (b : Board). b.cells) e)

    pub ended-board : R ≤ open-round s a sound j
        → (at s a (suc j) i).rec.list ≡ detect_levels plan i (step_run plan (suc j)) (step_round plan (suc j)) (scan j i).cells (R - 1) (scan j i).list
    unfolding convert run_ended
    ended-board h = ap (λ (b : Board). b.rec.list) (run_ends s a sound j l (inv s a sound j l) i ki h)

    -- So does a step.
    pub step-more : (r : ℕ) → member r (as_set (scan j i).list) ≡ true → member r (as_set (at s a (suc j) i).rec.list) ≡ true
    step-more r t =
        cases (ltb (open-round s a sound j) R)
        (λ e. subst (λ x. member r (as_set x) ≡ true) (sym (next-board (ltb-true (open-round s a sound j) R e)).0) t)
        (λ e. subst (λ (b : Board). member r (as_set b.rec.list) ≡ true)
        (sym (run_ends s a sound j l (inv s a sound j l) i ki (ltb-false (open-round s a sound j) R e))) (convert-grow _ (scan j i) r t))

    -- Cells of other levels stay in a step.
    pub scan-other : (b : ℕ) (γ : Label) → IsLabel plan (dealer-below s a sound j l (inv s a sound j l)) b γ → b ≢ open-round s a sound j
        → read plan (scan j i).cells γ ≡ read plan (at s a j i).cells γ
    scan-other b γ w ne = ap (λ x. read plan x.cells γ) is-scanned ∙ scanned-other s a sound j i ki l b γ w ne

    -- So past round 1 does the first cell, the root's.
    pub scan-first : 2 ≤ open-round s a sound j → get_or (scan j i).cells 0 0 ≡ get_or (at s a j i).cells 0 0
    scan-first later =
        let n = plan.n in
        let d = plan.dealer in
        ap (λ x. get_or x.cells 0 0) is-scanned ∙ sym (root-cell n d (scanned s a sound j i ki l).cells)
        ∙ scanned-cell s a sound j i ki l 1 (d ∷ []) (root-has n d) (let z : 1 ≢ open-round s a sound j = omega arith in z)
        ∙ root-cell n d (at s a j i).cells

    -- The next round of the run.
    pub next-open : open-round s a sound j < R → open-round s a sound (suc j) ≡ open-round s a sound j + 1
    next-open h =
        let x = standing s a sound j i ki l in
        let turn = next-position plan (step_run plan (suc j)) (step_round plan (suc j)) (position s a sound j i ki x l) h in
        ap (λ z. (step_round plan (suc z)).0) (sym (number s a sound j i ki x l)) ∙ ap (λ (k : Round). k.0) turn.1

  module _ (i : ℕ) (ki : keeper s i ≡ true) where
    -- Lists grow from step to step.
    pub lists-grow : (m j : ℕ) → j + m ≤ steps plan → (r : ℕ) → member r (as_set (at s a j i).rec.list) ≡ true → member r (as_set (at s a (j + m) i).rec.list) ≡ true
    lists-grow zero j h r t = subst (λ x. member r (as_set (at s a x i).rec.list) ≡ true) (let z : j ≡ j + 0 = omega arith in z) t
    lists-grow (suc m) j h r t =
        let l : j < steps plan = omega arith in
        subst (λ x. member r (as_set (at s a x i).rec.list) ≡ true) (let z : suc j + m ≡ j + suc m = omega arith in z)
        (lists-grow m (suc j) (omega arith) r (step-more j i ki l r (scan-more j i ki l r t)))

    -- From step j to the end of its run, m steps on: lists grow, and cells of closed rounds stay.
    pub run-grows : (m j : ℕ) → open-round s a sound j + m ≡ R → j + m < steps plan → (r : ℕ)
        → member r (as_set (scan j i).list) ≡ true → member r (as_set (scan (j + m) i).list) ≡ true
    run-grows zero j e h r t = subst (λ x. member r (as_set (scan x i).list) ≡ true) (let z : j ≡ j + 0 = omega arith in z) t
    run-grows (suc m) j e h r t =
        let l : j < steps plan = omega arith in
        let lt : open-round s a sound j < R = omega arith in
        let next = next-open j i ki l lt in
        subst (λ x. member r (as_set (scan x i).list) ≡ true) (let z : suc j + m ≡ j + suc m = omega arith in z)
        (run-grows m (suc j) (omega arith) (omega arith) r (scan-more (suc j) i ki (omega arith) r (step-more j i ki l r t)))

    pub run-keeps : (m j : ℕ) → open-round s a sound j + m ≡ R → j + m < steps plan → (ld : plan.dealer < plan.n) (b : ℕ) (γ : Label) → IsLabel plan ld b γ
        → b ≤ open-round s a sound j → read plan (scan (j + m) i).cells γ ≡ read plan (scan j i).cells γ
    run-keeps zero j e h ld b γ w le = ap (λ x. read plan (scan x i).cells γ) (let z : j + 0 ≡ j = omega arith in z)
    run-keeps (suc m) j e h ld b γ w le =
        let l : j < steps plan = omega arith in
        let l' : suc j < steps plan = omega arith in
        let lt : open-round s a sound j < R = omega arith in
        let next = next-open j i ki l lt in
        ap (λ x. read plan (scan x i).cells γ) (let z : j + suc m ≡ suc j + m = omega arith in z)
        ∙ run-keeps m (suc j) (omega arith) (omega arith) ld b γ w (omega arith)
        ∙ scan-other (suc j) i ki l' b γ w (let z : b ≢ open-round s a sound (suc j) = omega arith in z)
        ∙ ap (λ c. read plan c γ) (next-board j i ki l lt).1

    -- The first cell stays from a round past the first to a later one of the run, m steps on.
    pub first-stays : (m j : ℕ) → 2 ≤ open-round s a sound j → open-round s a sound j + m ≤ R → j + m < steps plan
        → get_or (at s a (j + m) i).cells 0 0 ≡ get_or (at s a j i).cells 0 0
    first-stays zero j later e h = ap (λ x. get_or (at s a x i).cells 0 0) (let z : j + 0 ≡ j = omega arith in z)
    first-stays (suc m) j later e h =
        let l : j < steps plan = omega arith in
        let lt : open-round s a sound j < R = omega arith in
        let next = next-open j i ki l lt in
        ap (λ x. get_or (at s a x i).cells 0 0) (let z : j + suc m ≡ suc j + m = omega arith in z)
        ∙ first-stays m (suc j) (omega arith) (omega arith) (omega arith)
        ∙ ap (λ c. get_or c 0 0) (next-board j i ki l lt).1 ∙ scan-first j i ki l later

  -- The end of a run: step j_e, which closes round R.
  module _ (j_e : ℕ) (l_e : j_e < steps plan) (end : open-round s a sound j_e ≡ R) (i : ℕ) (ki : keeper s i ≡ true) where
    -- The step of this run that closes round k, R - k steps before.
    pub round-step : (k : ℕ) → 2 ≤ k → k ≤ R → (j : ℕ) × (j + (R - k) ≡ j_e) × (open-round s a sound j ≡ k)
    unfolding step
    round-step k low high =
        let x = standing s a sound j_e i ki l_e in
        let t = step_run plan (suc j_e) in
        let h = position s a sound j_e i ki x l_e in
        let q : Round = record { 0 = k } in
        let h' : Has plan t q = record {
          run-low = h.run-low;
          run-high = h.run-high;
          round-low = omega arith;
          round-later = λ _. low;
          round-high = high;
        } in
        let e = number s a sound j_e i ki x l_e in
        let j = step plan t q - 1 in
        let one : suc j ≡ step plan t q = omega arith in
        (j, omega arith, ap (λ z. (step_round plan z).0) one ∙ ap (λ (y : Round). y.0) (round-of-step plan t q h'))

    -- A board that is listed when its frame comes is masked.
    pub masked : (r e : ℕ) (α : Label) → r < plan.n → Memᴰ α (inner plan i (suc e)) → occurs r α ≡ false → suc (suc e) ≤ R
        → (j₀ : ℕ) → j₀ + (R - 2) ≤ j_e → member r (as_set (at s a j₀ i).rec.list) ≡ true → read plan (scan j_e i).cells (r ∷ α) ≡ default plan
    unfolding last
    masked r e α lr m out high j₀ before t =
        let (j, back, ek) = round-step (suc (suc e)) (omega arith) high in
        let lj : j < steps plan = omega arith in
        let I = inv s a sound j lj in
        let ld = dealer-below s a sound j lj I in
        let (li, fi, ni) = keeper-facts s a sound i ki in
        let on : member r (as_set (at s a j i).rec.list) ≡ true =
        subst (λ x. member r (as_set (at s a x i).rec.list) ≡ true) (let z : j₀ + (j - j₀) ≡ j = omega arith in z) (lists-grow i ki (j - j₀) j₀ (omega arith) r t) in
        let ne : r ≢ i = λ z. clash (lists-within s a sound j i (omega arith) ki r lr on) (subst (λ x. member x s.faulty ≡ false) (sym z) fi) in
        let (w, d) = is-due s a sound r i e (step_round plan (suc j)) α lr li ne ni ek m out in
        let stored-default = silenced (rec s a sound j i ki lj) (rec-good s a sound j i ki lj) refl (told s a i j) (at s a j i).cells (st s a sound j i ki lj).room r α lr w ne d on in
        let label = node-label plan i (suc (suc e)) (r ∷ α) (node-has plan i e α r m lr out) in
        let here : read plan (scan j i).cells (r ∷ α) ≡ default plan =
        ap (λ x. read plan x.cells (r ∷ α)) (is-scanned j i ki lj)
        ∙ ⊎_elim (λ x. x ∙ stored-default) (λ x. x.0)
        (scan-cell plan ld (most-boards s a sound) i (step_run plan (suc j)) (step_round plan (suc j)) (open-round s a sound j - 1) (inner plan i (open-round s a sound j - 1)) _ (suc (suc e)) (r ∷ α) (λ _ y. y) label (room s a sound j lj I i ki)) in
        ap (λ x. read plan (scan x i).cells (r ∷ α)) (sym back)
        ∙ run-keeps i ki (R - suc (suc e)) j (omega arith) (omega arith) ld (suc (suc e)) (r ∷ α) label (omega arith) ∙ here

    -- What rule G leaves of a board that is not listed.
    pub spared-g : (e : ℕ) (β : Label) → Memᴰ β (inner plan i (suc e)) → suc (suc e) ≤ R → member (last β) (as_set (scan j_e i).list) ≡ false
        → (v : ℕ) × (v < plan.span)
        × (tol plan (λ c. not (member c (as_set (scan j_e i).list)) && T.others β (λ q. some (read plan (scan j_e i).cells (q ∷ β))) v c) ≡ true)
    unfolding by_cell
    spared-g e β m high u =
        let (j, back, ek) = round-step (suc (suc e)) (omega arith) high in
        let lj : j < steps plan = omega arith in
        let I = inv s a sound j lj in
        let ld = dealer-below s a sound j lj I in
        let m' : Memᴰ β (inner plan i (open-round s a sound j - 1)) = subst (λ x. Memᴰ β (inner plan i x)) (let z : suc e ≡ open-round s a sound j - 1 = omega arith in z) m in
        let more : (c : ℕ) → member c (as_set (scan j i).list) ≡ true → member c (as_set (scan j_e i).list) ≡ true =
        λ c t. subst (λ x. member c (as_set (scan x i).list) ≡ true) back (run-grows i ki (R - suc (suc e)) j (omega arith) (omega arith) c t) in
        let u' : member (last β) (as_set (scan j i).list) ≡ false = is_false (member (last β) (as_set (scan j i).list)) (λ t. clash (more (last β) t) u) in
        let (v, lv, t) = subst (λ x. SparedBy plan ld (most-boards s a sound) i (step_run plan (suc j)) (step_round plan (suc j)) (open-round s a sound j - 1) x β) (sym (is-scanned j i ki lj))
        (scan-spared plan ld (most-boards s a sound) i (step_run plan (suc j)) (step_round plan (suc j)) (open-round s a sound j - 1) (inner plan i (open-round s a sound j - 1)) _ β (λ _ y. y) m' (room s a sound j lj I i ki)
        (subst (λ x. member (last β) (as_set x.list) ≡ false) (is-scanned j i ki lj) u')) in (
          v,
          lv,
          tol-mono plan
              (λ c. not (member c (as_set (scan j_e i).list)) && T.others β (λ q. some (read plan (scan j_e i).cells (q ∷ β))) v c)
              (λ c. not (member c (as_set (scan j i).list)) && T.others β (λ q. some (read plan (scan j i).cells (q ∷ β))) v c)
              (λ c lc z.
              let out = not_t (member c (as_set (scan j_e i).list)) (and_l (not (member c (as_set (scan j_e i).list))) (T.others β (λ q. some (read plan (scan j_e i).cells (q ∷ β))) v c) z) in
              let oth = and_r (not (member c (as_set (scan j_e i).list))) (T.others β (λ q. some (read plan (scan j_e i).cells (q ∷ β))) v c) z in
              let b-out = not_t (occurs c β) (and_l (not (occurs c β)) (not (same (some (read plan (scan j_e i).cells (c ∷ β))) (some v))) oth) in
              let label = node-label plan i (suc (suc e)) (c ∷ β) (node-has plan i e β c m lc b-out) in
              let cell : read plan (scan j_e i).cells (c ∷ β) ≡ read plan (scan j i).cells (c ∷ β) =
              ap (λ x. read plan (scan x i).cells (c ∷ β)) (sym back) ∙ run-keeps i ki (R - suc (suc e)) j (omega arith) (omega arith) ld (suc (suc e)) (c ∷ β) label (omega arith) in
              and-true (not (member c (as_set (scan j i).list))) (T.others β (λ q. some (read plan (scan j i).cells (q ∷ β))) v c)
              (true-not (member c (as_set (scan j i).list)) (is_false (member c (as_set (scan j i).list)) (λ y. clash (more c y) out)))
              (subst (λ x. (not (occurs c β) && not (same (some x) (some v))) ≡ true) cell oth))
              t,
        )

    -- And what rule C leaves of one.
    pub spared-c : (e k : ℕ) (β : Label) → Memᴰ β (inner plan i (suc e)) → suc (suc e) + k ≡ R → length β ≡ suc e → member (last β) (as_set (at s a (suc j_e) i).rec.list) ≡ false
        → (v : ℕ) × (v < plan.span)
        × (tol plan (λ c. T.others β (λ q. T.resolve (inst plan) i (read plan (scan j_e i).cells) k (q ∷ β)) v c || member c (as_set (scan j_e i).list)) ≡ true)
    unfolding by_resolving
    spared-c e k β m eq size u =
        let cells = (scan j_e i).cells in
        let (v, lv, t) = levels-spared plan i (step_run plan (suc j_e)) (step_round plan (suc j_e)) cells (R - 1) (scan j_e i).list (suc e) β (omega arith) (omega arith) m
        (omega (arith, most-boards s a sound, inner_below plan (dealer-below s a sound j_e l_e (inv s a sound j_e l_e)) i (suc e) β m))
        (subst (λ x. member (last β) (as_set x) ≡ false) (ended-board j_e i ki l_e (omega arith)) u) in
        let left : R - suc (length β) ≡ k = omega arith in (
          v,
          lv,
          tol-mono plan
              (λ c. T.others β (λ q. T.resolve (inst plan) i (read plan cells) k (q ∷ β)) v c || member c (as_set (scan j_e i).list))
              (λ c. T.others β (by_resolving plan i cells β) v c || member c (as_set (scan j_e i).list))
              (λ c _ z. subst (λ o. ((not (occurs c β) && not (same o (some v))) || member c (as_set (scan j_e i).list)) ≡ true)
              (sym (ap (λ x. resolve plan i cells x (c ∷ β)) left ∙ resolve-inst plan i cells k (c ∷ β))) z)
              t,
        )
