-- Agreement of the synchronous session, for every accepted plan, tolerated F and adversary.
-- Assumes nothing.
use Prim.Native.Nat.{ℕ, zero, suc, ◌+◌, ◌-◌, ◌*◌, ◌≤◌, ◌<◌, ◌^◌}
use mathlib.Core.Path.{◌≡◌, sym, ◌∙◌, ap, subst}
use mathlib.Core.Logic.{◌≢◌}
use mathlib.Core.Bool.{true, false, not, ◌&&◌, and_assoc}
use native.Mathlib.Omega.{arith}
use native.Mathlib.Nat.{suc-mul}
use lib.Dec.{eqb, ltb}
use lib.ListN.{get_or}
use borrow.Author.Tests.{eq-eqb, lt-ltb}
use Rattle.sets.specs.Search.{count}
use Rattle.sets.specs.Sets.{member, set_of}
use Rattle.sets.proofs.Tests.{cases, and-true}
use Rattle.sets.proofs.Search.{any_same}
use Rattle.sets.proofs.Count.{count_same}
use Rattle.sets.proofs.Member.{member-within, member-set_of, set_of-below, size-count}
use Rattle.plan.specs.declared.plan.Plan.{Plan}
use Rattle.heights.specs.Levels.{depth_of, is_cut}
use Rattle.schedule.specs.declared.rounds.Round.{Round}
use Rattle.schedule.specs.Schedule.{rounds, runs, steps, step, step_run, step_round}
use Rattle.schedule.proofs.Levels.{rounds-pos, runs-pos, rounds-full, rounds-cut}
use Rattle.heights.proofs.Heights.{height-most}
use Rattle.schedule.proofs.Steps.{Has, run-split, step-has, step-of-round, round-of-step, runs-enough, cut-four}
use Rattle.theory.specs.Tree as T
use Rattle.theory.specs.Runs as U
use Rattle.theory.proofs.Agreement.{persistence, validity, detection, cut-agreement, full-agreement}
use Rattle.protocol.specs.declared.records.Record.{Record}
use Rattle.protocol.specs.Listing.{as_set}
use Rattle.protocol.specs.Records.{run_ended}
use Rattle.protocol.specs.Rounds.{Board, root_only, convert, close}
use Rattle.protocol.specs.Session.{Adversary, Setting, at, keeper, Sound}
use Rattle.protocol.proofs.Judgement.{plan-facts}
use Rattle.protocol.proofs.Tolerance.{tol}
use Rattle.synchronous.proofs.Reached.{close-good, close-plan}
use Rattle.synchronous.proofs.Synchronous.{standing, ready, ready-open, after-step}
use Rattle.agreement.specs.Lists.{on_every}
use Rattle.agreement.specs.Claims.{ended, root_after, list_ended, SessionAgreement, Synchronous}
use Rattle.agreement.proofs.Instance.{inst, boards_of}
use Rattle.agreement.proofs.Delivery.{good, healthy, healthy-keeper, st}
use Rattle.agreement.proofs.Soundness.{open-round, inv, run_ends, lists-within}
use Rattle.agreement.proofs.Runs.{first-stays}
use Rattle.agreement.proofs.TheorySession.{last_step, in-time, at-end, number, run-number, lists, roots, resolved, left-root, session}

module _ (s : Setting) (a : Adversary) (sound : Sound s) where
  abbrev plan : Plan
  plan = s.plan

  abbrev F : ℕ
  F = s.faulty

  abbrev last-run : ℕ
  last-run = (runs plan).0 - 1

  in-runs : last-run < (runs plan).0
  in-runs = omega (arith, runs-pos plan)

  -- The session's last step.
  last-of-all : suc (last_step s a sound last-run) ≡ steps plan
  unfolding steps
  last-of-all = let z : suc last-run ≡ (runs plan).0 = omega (arith, runs-pos plan) in omega (arith, suc-mul last-run ((rounds plan).0 - 1), rounds-pos plan)

  -- Lists name boards below n.
  list-below : (j i : ℕ) → j ≤ steps plan → keeper s i ≡ true → as_set (at s a j i).rec.list < 2 ^ plan.n
  list-below zero i h ki =
      let x = standing s a sound 0 i ki (omega (arith, last-of-all)) in
      subst (λ (r : Record). as_set (at s a 0 i).rec.list < 2 ^ r.plan.n) x.shape x.good.list-good.below
  list-below (suc j) i h ki =
      let x = st s a sound j i ki h in
      let b = ready s a sound j i ki x h in
      subst (λ (c : Board). as_set c.rec.list < 2 ^ plan.n) (sym (after-step s a sound j i ki x h))
      (subst (λ (p : Plan). as_set (close b).rec.list < 2 ^ p.n) (close-plan b) (close-good b (ready-open s a sound j i ki x h).good).list-good.below)

  root-after : (t : ℕ) → t < (runs plan).0 → (i : ℕ) → keeper s i ≡ true → root_after s a (suc t) i ≡ roots s a sound t i
  unfolding root_after ended root_only
  root-after t lt i ki =
      ap (λ x. get_or (at s a x i).cells 0 0) (number s a sound t lt) ∙ ap (λ c. get_or c 0 0) (left-root s a sound t lt i ki)

  decision : (i : ℕ) (ki : keeper s i ≡ true)
      → ((at s a (steps plan) i).rec.decided ≡ true) × ((at s a (steps plan) i).rec.decision ≡ roots s a sound last-run i)
  unfolding convert run_ended
  decision i ki =
      let j = last_step s a sound last-run in
      let l = in-time s a sound last-run in-runs in
      let e = run_ends s a sound j l (inv s a sound j l) i ki (let z : (rounds plan).0 ≤ open-round s a sound j = omega (arith, at-end s a sound last-run in-runs) in z) in
      let last : eqb (step_run plan (suc j)).0 (runs plan).0 ≡ true =
      eq-eqb (step_run plan (suc j)).0 (runs plan).0 (run-number s a sound last-run in-runs ∙ (let z : suc last-run ≡ (runs plan).0 = omega (arith, runs-pos plan) in z)) in (
        ap (λ x. (at s a x i).rec.decided) (sym last-of-all) ∙ ap (λ (b : Board). b.rec.decided) e ∙ last,
        ap (λ x. (at s a x i).rec.decision) (sym last-of-all) ∙ ap (λ (b : Board). b.rec.decision) e ∙ rw last (resolved s a sound last-run i),
      )

  -- The decision is the root after the last run.
  pub root-decided : (i : ℕ) → keeper s i ≡ true → (at s a (steps plan) i).rec.decision ≡ root_after s a (runs plan).0 i
  root-decided i ki =
      let z : suc last-run ≡ (runs plan).0 = omega (arith, runs-pos plan) in
      (decision i ki).1 ∙ sym (root-after last-run in-runs i ki) ∙ ap (λ x. root_after s a x i) z

  -- A healthy dealer's value is the root after every run.
  pub dealers-root : member plan.dealer F ≡ false → (t i : ℕ) → 1 ≤ t → t ≤ (runs plan).0 → keeper s i ≡ true → root_after s a t i ≡ s.word
  dealers-root f t i low high ki =
      let lt : t - 1 < (runs plan).0 = omega arith in
      ap (λ x. root_after s a x i) (let z : t ≡ suc (t - 1) = omega arith in z) ∙ root-after (t - 1) lt i ki
      ∙ validity (good s a sound) (session s a sound) f (t - 1) i lt (healthy s a sound i ki)

  -- In the run after t a board is past step 1, and its first cell is the root after run t.
  pub root-shown : (t j i : ℕ) → 1 ≤ t → j < steps plan → (step_run plan (suc j)).0 ≡ t + 1 → keeper s i ≡ true
      → (0 < j) × (get_or (at s a j i).cells 0 0 ≡ root_after s a t i)
  unfolding root_after ended step
  root-shown t j i low l in-run ki =
      let w = (rounds plan).0 - 1 in
      let k = open-round s a sound j in
      let h = step-has plan (suc j) (omega arith) (omega arith) in
      let later : 2 ≤ k = h.round-later (let z : (step_run plan (suc j)).0 ≢ 1 = omega (arith, in-run) in z) in
      let start = step plan (record { 0 = t }) (rounds plan) in
      let split = run-split t w low in
      let back : t + 1 - 1 ≡ t = omega arith in
      let second : Has plan (record { 0 = t + 1 }) (record { 0 = 2 }) = record {
        run-low = omega arith;
        run-high = omega (arith, in-run, h.run-high);
        round-low = omega arith;
        round-later = λ _. omega arith;
        round-high = omega (arith, h.round-high);
      } in
      let next : suc start ≡ step plan (record { 0 = t + 1 }) (record { 0 = 2 }) = omega (arith, rounds-pos plan, ap (λ x. x * w) back) in
      let opens : open-round s a sound start ≡ 2 =
      ap (λ x. (step_round plan x).0) next ∙ ap (λ (r : Round). r.0) (round-of-step plan (record { 0 = t + 1 }) (record { 0 = 2 }) second) in
      let number_of : ((step_run plan (suc j)).0 - 1) * w + k ≡ suc j = step-of-round plan (suc j) (omega arith) (omega arith) in
      let here : start + (k - 2) ≡ j = omega (arith, rounds-pos plan, ap (λ x. (x - 1) * w) in-run, ap (λ x. x * w) back) in (
        omega arith,
        ap (λ x. get_or (at s a x i).cells 0 0) (sym here)
            ∙ first-stays s a sound i ki (k - 2) start (omega arith) (omega (arith, h.round-high)) (omega arith),
      )

  -- A tolerated set with the dealer has fewer boards than a tree that is not cut has levels.
  small-sets : is_cut plan ≡ false → (b : T.Boards) → tol plan b ≡ true → b plan.dealer ≡ true → count b plan.n ≤ (rounds plan).0 - 1
  unfolding tol
  small-sets full b t d =
      let f = plan-facts plan sound.accepted in
      let h = height-most plan (set_of b plan.n) t
      (member-set_of b plan.n plan.dealer ∙ and-true (ltb plan.dealer plan.n) (b plan.dealer) (lt-ltb plan.dealer plan.n f.dealer-below) d) in
      let e = ap (λ x. x.0) (rounds-full plan full) in
      let c = size-count plan.n (set_of b plan.n) (set_of-below b plan.n) (omega (arith, f.admission.most-boards)) in
      let same = count_same (λ i. member i (set_of b plan.n)) b plan.n (λ i l. member-set_of b plan.n i ∙ rw (lt-ltb i plan.n l)) in
      omega arith

  agreed : (i k : ℕ) → keeper s i ≡ true → keeper s k ≡ true → roots s a sound last-run i ≡ roots s a sound last-run k
  agreed i k ki kk =
      let G = good s a sound in
      let S = session s a sound in
      cases (is_cut plan)
      (λ e. let four = cut-four plan sound.accepted e in
      let r = ap (λ x. x.0) (rounds-cut plan e) in
      cut-agreement G S (depth_of plan - 3) last-run (let z : (rounds plan).0 - 1 ≡ suc (suc (depth_of plan - 3)) = omega arith in z) (omega arith)
      (runs-enough plan sound.accepted e) in-runs (healthy s a sound i ki) (healthy s a sound k kk))
      (λ e. full-agreement G S (small-sets e) last-run in-runs (healthy s a sound i ki) (healthy s a sound k kk))

  -- The boards on every list, as the theory has them.
  every-list : (t : ℕ) → t < (runs plan).0 → (r : ℕ) → U.global (inst plan) (boards_of F) (lists s a sound (suc t)) r ≡ on_every s (list_ended s a (suc t)) r
  unfolding U.all_healthy on_every list_ended ended keeper
  every-list t lt r =
      ap not (any_same
      (U.fails (inst plan) (boards_of F) (λ i. lists s a sound (suc t) i r))
      (λ i. keeper s i && not (member r (as_set (ended s a (suc t) i).rec.list))) plan.n
      (λ i l. rw (lt-ltb i plan.n l, number s a sound t lt) (sym (and_assoc (not (member i F)) (not (eqb i plan.dealer)) _))))

  pub session-agreement : SessionAgreement s a
  session-agreement = record {
    sound = λ j i h ki. member-within plan.n (as_set (at s a j i).rec.list) F (list-below j i h ki) (lists-within s a sound j i h ki);
    decided = λ i ki. (decision i ki).0;
    equal = λ i k ki kk. (decision i ki).1 ∙ agreed i k ki kk ∙ sym (decision k kk).1;
    dealers = λ f i ki. root-decided i ki ∙ dealers-root f (runs plan).0 i (runs-pos plan) (omega arith) ki;
    stays = λ t u v low le high h i ki. stay (t - 1) (u - 1) v t u (omega arith) (omega arith) le high h i ki;
    bound = λ e t low high i k ki kk ne. bounded e (t - 1) t (omega arith) high i k ki kk ne;
  }
    where
      stay : (t u v t' u' : ℕ) → t' ≡ suc t → u' ≡ suc u → t' ≤ u' → u' ≤ (runs plan).0 → ((i : ℕ) → keeper s i ≡ true → root_after s a t' i ≡ v)
          → (i : ℕ) → keeper s i ≡ true → root_after s a u' i ≡ v
      stay t u v t' u' et eu le high h i ki =
          ap (λ x. root_after s a x i) eu ∙ root-after u (omega arith) i ki
          ∙ persistence (good s a sound) (session s a sound) t u v (omega arith) (omega arith)
          (λ k H. let kk = healthy-keeper s a sound k H in sym (root-after t (omega arith) k kk) ∙ ap (λ x. root_after s a x k) (sym et) ∙ h k kk)
          i (healthy s a sound i ki)

      bounded : is_cut plan ≡ true → (t t' : ℕ) → t' ≡ suc t → t' ≤ (runs plan).0 → (i k : ℕ) → keeper s i ≡ true → keeper s k ≡ true
          → root_after s a t' i ≢ root_after s a t' k → t' * (depth_of plan - 3) + 1 ≤ count (on_every s (list_ended s a t')) plan.n
      bounded e t t' et high i k ki kk ne =
          let four = cut-four plan sound.accepted e in
          let r = ap (λ x. x.0) (rounds-cut plan e) in
          let lt : t < (runs plan).0 = omega arith in
          let many = detection (good s a sound) (session s a sound) (depth_of plan - 3) (let z : (rounds plan).0 - 1 ≡ suc (suc (depth_of plan - 3)) = omega arith in z)
          t lt (healthy s a sound i ki) (healthy s a sound k kk)
          (λ z. ne (subst (λ x. root_after s a x i ≡ root_after s a x k) (sym et) (root-after t lt i ki ∙ z ∙ sym (root-after t lt k kk)))) in
          let same = count_same (U.global (inst plan) (boards_of F) (lists s a sound (suc t))) (on_every s (list_ended s a (suc t))) plan.n (λ q _. every-list t lt q) in
          subst (λ x. x * (depth_of plan - 3) + 1 ≤ count (on_every s (list_ended s a x)) plan.n) (sym et) (omega arith)

pub synchronous : Synchronous
synchronous = session-agreement
