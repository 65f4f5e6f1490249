-- The synchronous session agrees: it is a session of the theory, for every accepted plan, tolerated F and adversary.
-- Assumes nothing.
use Prim.Native.Nat.{ℕ, zero, suc, ◌+◌, ◌-◌, ◌*◌, ◌≤◌, ◌<◌}
use mathlib.Core.Path.{◌≡◌, sym, ◌∙◌, ap, subst}
use mathlib.Core.Logic.{◌≢◌}
use mathlib.Core.Bool.{true}
use mathlib.Core.List.{[], ◌∷◌, Memᴰ}
use mathlib.Core.Option.{get_or}
use native.Mathlib.Omega.{arith}
use native.Mathlib.Nat.{suc-mul, zero-mul}
use lib.ListN.{length}
use Rattle.sets.specs.Sets.{member, size}
use Rattle.plan.specs.declared.plan.Plan.{Plan}
use Rattle.plan.specs.Values.{default}
use Rattle.schedule.specs.declared.rounds.Run.{Run}
use Rattle.schedule.specs.declared.rounds.Round.{Round}
use Rattle.schedule.specs.Schedule.{rounds, runs, steps, step, step_run, step_round}
use Rattle.schedule.proofs.Levels.{rounds-pos}
use Rattle.schedule.proofs.Steps.{Has, run-of-step, round-of-step, step-high, later-rounds}
use Rattle.tree.specs.Labels.{Label, last}
use Rattle.tree.proofs.Labels.{root-has}
use Rattle.theory.specs.Tree as T
use Rattle.theory.specs.Tree.{Node}
use Rattle.theory.specs.Runs as U
use Rattle.protocol.specs.Listing.{as_set}
use Rattle.protocol.specs.Nodes.{read, internal, inner}
use Rattle.protocol.specs.Detection.{resolve_root}
use Rattle.protocol.specs.Rounds.{Board, root_only}
use Rattle.protocol.specs.Session.{Adversary, Setting, at, keeper, Sound}
use Rattle.protocol.proofs.Nodes.{inner-has}
use Rattle.protocol.proofs.Bounds.{root-small}
use Rattle.agreement.proofs.Instance.{inst, node-mem, node-level, resolve-inst, node-size, boards_of, list_of}
use Rattle.agreement.proofs.RuleC.{convert-cells}
use Rattle.agreement.proofs.Delivery.{healthy-keeper}
use Rattle.protocol.proofs.Judgement.{plan-default}
use Rattle.agreement.proofs.Soundness.{open-round, inv, flow, scan-is, scan-lists, scan-root, run_ends, dealer-below, lists-within, root-read}
use Rattle.agreement.proofs.Runs.{scan, scan-other, lists-grow, run-keeps, round-step, masked, spared-g, spared-c}

module _ (s : Setting) (a : Adversary) (sound : Sound s) where
  abbrev plan : Plan
  plan = s.plan

  abbrev F : ℕ
  F = s.faulty

  abbrev R : ℕ
  R = (rounds plan).0

  -- The step, from 0, that closes round R of run t, from 0.
  abbrev pub last_step : ℕ → ℕ
  last_step t = suc t * (R - 1)

  module _ (t : ℕ) (lt : t < (runs plan).0) where
    ended : Has plan (record { 0 = suc t }) (rounds plan)
    ended = record {
      run-low = omega arith;
      run-high = lt;
      round-low = rounds-pos plan;
      round-later = λ ne. later-rounds plan sound.accepted (let z : suc t ≢ 1 = ne in omega arith);
      round-high = omega arith;
    }

    pub number : step plan (record { 0 = suc t }) (rounds plan) ≡ suc (last_step t)
    unfolding step
    number = let z : suc t - 1 ≡ t = omega arith in ap (λ x. x * (R - 1) + R) z ∙ omega (arith, suc-mul t (R - 1), rounds-pos plan)

    pub in-time : last_step t < steps plan
    in-time = let h = step-high plan (record { 0 = suc t }) (rounds plan) ended in omega (arith, number)

    pub at-end : open-round s a sound (last_step t) ≡ R
    at-end = ap (λ z. (step_round plan z).0) (sym number) ∙ ap (λ (k : Round). k.0) (round-of-step plan (record { 0 = suc t }) (rounds plan) ended)

    pub run-number : (step_run plan (suc (last_step t))).0 ≡ suc t
    run-number = ap (λ z. (step_run plan z).0) (sym number) ∙ ap (λ (k : Run). k.0) (run-of-step plan (record { 0 = suc t }) (rounds plan) ended)

  -- The session in the theory's terms: cells as conversion begins, lists before a run and as conversion begins.
  abbrev pub cells : ℕ → U.Cells
  cells t i α = read plan (scan s a sound (last_step t) i).cells α

  abbrev pub mids : ℕ → ℕ → T.Boards
  mids t i = list_of (scan s a sound (last_step t) i).list

  -- The number of steps before a run.
  abbrev pub first_step : ℕ → ℕ
  first_step zero = 0
  first_step (suc t) = suc (last_step t)

  abbrev pub lists : ℕ → ℕ → T.Boards
  lists t i = list_of (at s a (first_step t) i).rec.list

  -- A run's first frames after round 1 come R - 2 steps before its end.
  room-before : (t : ℕ) → t < (runs plan).0 → first_step t + (R - 2) ≤ last_step t
  room-before zero lt = omega (arith, suc-mul 0 (R - 1), zero-mul (R - 1))
  room-before (suc t) lt =
      let two = later-rounds plan sound.accepted (omega arith) in
      omega (arith, suc-mul (suc t) (R - 1))

  -- A node of the theory that is internal, as the definitions have it.
  inner-node : {i k : ℕ} {α : Label} → Node (inst plan) i (suc k) α → internal plan i α ≡ true
      → Memᴰ α (inner plan i (suc (length α - 1))) × (suc (suc (length α - 1)) + k ≡ R) × (length α ≡ suc (length α - 1))
  inner-node {i} {k} {α} N inn =
      let size = node-size plan N in
      let level = node-level plan N in
      (subst (λ x. Memᴰ α (inner plan i x)) size (inner-has plan i (length α) α (node-mem plan N) inn), omega arith, size)

  pub run : (t : ℕ) → t < (runs plan).0 → U.Run (inst plan) (boards_of F) (cells t) (lists t) (mids t) (lists (suc t))
  run t lt = record {
    flow = flow s a sound (last_step t) (in-time t lt) (inv s a sound (last_step t) (in-time t lt)) (at-end t lt);
    mask = λ {p = i} {r} {k} {α} H N inn lr out on.
        let ki = healthy-keeper s a sound i H in
        let (m, eq, size) = inner-node N inn in
        masked s a sound (last_step t) (in-time t lt) (at-end t lt) i ki r (length α - 1) α lr m out (omega arith) (first_step t) (room-before t lt) on;
    mid-sound = λ {p = i} H.
        let ki = healthy-keeper s a sound i H in
        let I = inv s a sound (last_step t) (in-time t lt) in
        subst (λ x. T.Sub plan.n (list_of x.list) (boards_of F)) (sym (scan-is s a sound (last_step t) (in-time t lt) I i ki))
        (scan-lists s a sound (last_step t) (in-time t lt) I i ki);
    end-sound = λ {p = i} H. lists-within s a sound (suc (last_step t)) i (in-time t lt) (healthy-keeper s a sound i H);
    grows = λ {p = i} H r lr on.
        let ki = healthy-keeper s a sound i H in
        let far = room-before t lt in
        subst (λ x. member r (as_set (at s a x i).rec.list) ≡ true) (let z : first_step t + (suc (last_step t) - first_step t) ≡ suc (last_step t) = omega arith in z)
        (lists-grow s a sound i ki (suc (last_step t) - first_step t) (first_step t) (let h = in-time t lt in omega arith) r on);
    rule-g = λ {p = i} {r} {k} {α} H N inn nd u.
        let ki = healthy-keeper s a sound i H in
        let (m, eq, size) = inner-node N inn in
        spared-g s a sound (last_step t) (in-time t lt) (at-end t lt) i ki (length (r ∷ α) - 1) (r ∷ α) m (omega arith) (unfold last in u);
    rule-c = λ {p = i} {r} {k} {α} H N inn u.
        let ki = healthy-keeper s a sound i H in
        let (m, eq, size) = inner-node N inn in
        spared-c s a sound (last_step t) (in-time t lt) (at-end t lt) i ki (length (r ∷ α) - 1) k (r ∷ α) m eq size (unfold last in u);
  }

  -- The root that the end of a run leaves.
  abbrev pub roots : ℕ → ℕ → ℕ
  roots = U.root_after (inst plan) cells

  pub resolved : (t i : ℕ) → resolve_root plan i (scan s a sound (last_step t) i).cells ≡ roots t i
  unfolding resolve_root
  resolved t i = ap (λ o. get_or o (default plan)) (resolve-inst plan i (scan s a sound (last_step t) i).cells (R - 1) (plan.dealer ∷ []))

  module _ (t : ℕ) (lt : t < (runs plan).0) (i : ℕ) (ki : keeper s i ≡ true) where
    pub left-root : (at s a (suc (last_step t)) i).cells ≡ root_only (at s a (last_step t) i).width plan.n (roots t i) (scan s a sound (last_step t) i).cells
    left-root =
        let l = in-time t lt in
        ap (λ (b : Board). b.cells) (run_ends s a sound (last_step t) l (inv s a sound (last_step t) l) i ki (let z : R ≤ open-round s a sound (last_step t) = omega (arith, at-end t lt) in z))
        ∙ convert-cells _ _ ∙ ap (λ x. root_only (at s a (last_step t) i).width plan.n x (scan s a sound (last_step t) i).cells) (resolved t i)

    root-value : roots t i < plan.span
    root-value =
        subst (λ x. x < plan.span) (resolved t i) (root-small plan (plan-default plan sound.accepted) i (scan s a sound (last_step t) i).cells)

  pub session : U.Session (inst plan) (boards_of F) (runs plan).0 s.word cells lists mids
  session = record {
    run = run;
    dealt = λ some f i H _.
        let ki = healthy-keeper s a sound i H in
        let l = in-time 0 some in
        let I = inv s a sound (last_step 0) l in
        ap (λ x. read plan x.cells (plan.dealer ∷ [])) (scan-is s a sound (last_step 0) l I i ki) ∙ scan-root s a sound (last_step 0) l I f i ki;
    next = λ {p = i} t lt H. passed_on t lt i (healthy-keeper s a sound i H);
  }
    where
      passed_on : (t : ℕ) → suc t < (runs plan).0 → (i : ℕ) → keeper s i ≡ true → cells (suc t) i (plan.dealer ∷ []) ≡ roots t i
      passed_on t lt i ki =
          let two = later-rounds plan sound.accepted (omega arith) in
          let l_e = in-time (suc t) lt in
          let (j, back, ek) = round-step s a sound (last_step (suc t)) l_e (at-end (suc t) lt) i ki 2 (omega arith) two in
          let here : j ≡ suc (last_step t) = omega (arith, suc-mul (suc t) (R - 1)) in
          let lj : j < steps plan = omega arith in
          let ld = dealer-below s a sound j lj (inv s a sound j lj) in
          let w = root-has plan.n plan.dealer in
          ap (λ x. read plan (scan s a sound x i).cells (plan.dealer ∷ [])) (sym back)
          ∙ run-keeps s a sound i ki (R - 2) j (omega arith) (omega arith) ld 1 (plan.dealer ∷ []) w (omega arith)
          ∙ scan-other s a sound j i ki lj 1 (plan.dealer ∷ []) w (let z : 1 ≢ open-round s a sound j = omega arith in z)
          ∙ ap (λ x. read plan (at s a x i).cells (plan.dealer ∷ [])) here
          ∙ ap (λ x. read plan x (plan.dealer ∷ [])) (left-root t (omega arith) i ki)
          ∙ root-read s a sound (at s a (last_step t) i).width (roots t i) (scan s a sound (last_step t) i).cells (root-value t (omega arith) i ki)
