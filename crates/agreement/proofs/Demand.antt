-- Demand 3: every fair list of calls agrees.
-- Assumes nothing.
use Prim.Native.Nat.{ℕ, suc, ◌+◌, ◌-◌, ◌*◌, ◌≤◌, ◌<◌}
use mathlib.Core.Path.{◌≡◌, refl, sym, subst, ap, ap₂, ◌∙◌}
use mathlib.Core.Logic.{◌≢◌}
use mathlib.Core.Bool.{true, false, not, ◌&&◌, cond}
use mathlib.Core.List.{List, [], ◌∷◌, ◌++◌}
use native.Mathlib.Omega.{arith}
use lib.Dec.{eqb}
use lib.ListN.{get_or}
use borrow.Author.Tests.{eq-eqb, eqb-false}
use Rattle.sets.specs.Search.{count}
use Rattle.sets.specs.Sets.{member, within}
use Rattle.sets.proofs.Tests.{cases, clash, and_l, and_r, and-true, not_t, true-not, is_false}
use Rattle.sets.proofs.Member.{within-member, member-within, within-empty}
use Rattle.sets.specs.Structure.{holder}
use Rattle.sets.proofs.Tolerated.{holder-empty}
use Rattle.plan.specs.Listed.{listed}
use Rattle.sets.proofs.Search.{any_same, any-true, any_of}
use Rattle.sets.proofs.Count.{count_same, count-mono}
use Rattle.refusals.specs.Outcome.{Outcome, taken, refused, and_then}
use Rattle.refusals.proofs.Outcomes.{both-taken, taken-first}
use Rattle.plan.specs.declared.plan.Plan.{Plan}
use Rattle.plan.specs.Calls.{judged}
use Rattle.schedule.specs.declared.rounds.Run.{Run}
use Rattle.schedule.specs.declared.rounds.Round.{Round}
use Rattle.heights.specs.Levels.{depth_of, is_cut}
use Rattle.schedule.specs.Schedule.{rounds, runs, steps, step_run}
use Rattle.schedule.specs.Schedule as S
use Rattle.schedule.proofs.Steps.{step-has, step-of-round}
use Rattle.protocol.specs.declared.records.Record.{Record}
use Rattle.protocol.specs.declared.records.Slot.{Slot}
use Rattle.protocol.specs.Listing.{as_set}
use Rattle.protocol.specs.Rounds.{Board}
use Rattle.protocol.specs.Calls.{judge_open, judge_record, judge_board, judge_beginning, deciding}
use Rattle.protocol.specs.Session.{Adversary, Setting, begun, at, keeper, Sound}
use Rattle.protocol.proofs.Judgement.{open-taken, record-taken, board-taken, cells-taken, Good}
use Rattle.synchronous.proofs.Reached.{reached-begun}
use Rattle.synchronous.proofs.Synchronous.{keeper-facts}
use Rattle.protocol.proofs.Taken.{open-closing}
use Rattle.agreement.specs.Lists.{Call, closes, decides, caller, answers, state, Prefix, Stands, Fair, closings, PastLast, EndsRun, root, list, on_every, list_after, healthy_list, Agreement, Demand3}
use Rattle.agreement.specs.Claims.{SessionAgreement, ended, root_after, list_ended}
use Rattle.agreement.proofs.Runs.{lists-grow}
use Rattle.agreement.proofs.Session.{root-decided, dealers-root, root-shown, synchronous}
use Rattle.agreement.proofs.Prefixes.{prefix_refl, prefix_trans, stands-prefix, stands-next}
use Rattle.agreement.proofs.Called.{reached-after}
use Rattle.agreement.proofs.Healthy.{is-keeper, list-placed}
use Rattle.agreement.proofs.InStep.{adversary, InStep, in_step, below-or-end, closings-mono, closings-next, closed-state}

-- What a decision that was read says.
deciding-facts : (r : Record) (v : ℕ) → deciding r ≡ taken (v ∷ []) → (r.decided ≡ true) × (r.decision ≡ v)
unfolding deciding
deciding-facts r v e =
    let (e1, e2) = both-taken (judge_record r) _ (ap (λ (o : Outcome). o.number) e) in
    let whole = sym (taken-first (judge_record r) (cond r.decided (taken (r.decision ∷ [])) (refused 19)) e1) ∙ e in
    let d : r.decided ≡ true = cases r.decided (λ x. x) (λ x. absurd (let z : 19 ≡ 0 = rw x at e2 in let y : ⊥ = omega arith in y)) in
    (d, ap (λ (o : Outcome). get_or o.values 0 0) (sym (ap (λ b. cond b (taken (r.decision ∷ [])) (refused 19)) d) ∙ whole))

-- Who stands on all lists stands on all longer ones.
every-mono : (s : Setting) (lists more : ℕ → List Slot) (r : ℕ)
    → ((i : ℕ) → keeper s i ≡ true → member r (as_set (lists i)) ≡ true → member r (as_set (more i)) ≡ true)
    → on_every s lists r ≡ true → on_every s more r ≡ true
unfolding on_every
every-mono s lists more r f all =
    true-not _ (is_false _ (λ y.
    let (i, l, x) = any-true (λ i. keeper s i && not (member r (as_set (more i)))) s.plan.n y in
    let ki = and_l (keeper s i) _ x in
    let off : member r (as_set (lists i)) ≡ false = is_false _ (λ on. clash (f i ki on) (not_t _ (and_r (keeper s i) _ x))) in
    clash (any_of (λ i. keeper s i && not (member r (as_set (lists i)))) s.plan.n i l (and-true _ _ ki (true-not _ off))) (not_t _ all)))

module _ (s : Setting) (calls : List Call) (sound : Sound s) (fair : Fair s calls) where
  abbrev plan : Plan
  plan = s.plan

  -- What the faulty boards hand in, and what is known of the synchronous session with it.
  abbrev faulty : Adversary
  faulty = adversary s calls sound fair

  agreed : SessionAgreement s faulty
  agreed = synchronous s faulty sound

  -- After a prefix of the list.
  module _ (before : List Call) (pre : Prefix before calls) (i : ℕ) (ki : keeper s i ≡ true) where
    here : InStep s calls sound fair before i
    here = in_step s calls sound fair before pre i ki

    abbrev count_of : ℕ
    count_of = closings (begun s) i before

    -- Decided exactly after the last step.
    last_step : (state s before i).rec.decided ≡ true → count_of ≡ steps plan
    last_step d = below-or-end count_of (steps plan) here.most (λ l. clash d (here.opened l).undecided) (λ z. z)

    -- Until then no closing is turned down.
    still_open : count_of < steps plan → (judge_open (state s before i)).number ≡ 0
    still_open l = ap (λ (o : Outcome). o.number) (open-taken (state s before i) (here.opened l))

    -- A record of the list is good.
    rec-good : Good (state s before i).rec
    unfolding state begun judge_beginning
    rec-good =
        let (l, _, ne) = keeper-facts s faulty sound i ki in
        let ok : (judge_beginning plan i (s.buffer i)).number ≡ 0 =
        ap (λ (o : Outcome). o.number) (taken-first (judged plan) _ sound.accepted ∙ taken-first (judge_board plan i) _ (ap (λ (o : Outcome). o.number) (board-taken plan i l ne))
        ∙ cells-taken plan (s.buffer i) (sound.cells-enough i ki)) in
        (reached-after before (begun s) i (reached-begun s.width plan i (s.buffer i) ok)).good

    readable-there : (state s before i).rec.decided ≡ true → deciding (state s before i).rec ≡ taken ((state s before i).rec.decision ∷ [])
    unfolding deciding and_then
    readable-there d = rw (record-taken (state s before i).rec rec-good, d) refl

  -- Lists only grow.
  grow : (i : ℕ) (before now : List Call) → keeper s i ≡ true → Prefix before now → Prefix now calls
      → within (as_set (list_after s before i)) (as_set (list_after s now i)) ≡ true
  unfolding list_after
  grow i before now ki p q =
      let early = prefix_trans before now calls p q in
      let j = closings (begun s) i before in
      let c = closings (begun s) i now in
      let le : j ≤ c = closings-mono s i before now p in
      let z : j + (c - j) ≡ c = omega arith in
      member-within (state s before i).rec.plan.n (as_set (list_after s before i)) (as_set (list_after s now i)) (rec-good before early i ki).list-good.below
      (λ r _ on. subst (λ x. member r (as_set x) ≡ true) (sym (here now q i ki).list)
      (subst (λ x. member r (as_set (at s faulty x i).rec.list) ≡ true) z
      (lists-grow s faulty sound i ki (c - j) j (omega (arith, (here now q i ki).most)) r
      (subst (λ x. member r (as_set x) ≡ true) (here before early i ki).list on))))

  -- A decision that was read is that of the session.
  read_is : (i : ℕ) (before : List Call) (v : ℕ) → Stands (decides i) before calls → answers (decides i) (state s before i) ≡ taken (v ∷ [])
      → (keeper s i ≡ true) × (v ≡ (at s faulty (steps plan) i).rec.decision)
  unfolding answers caller
  read_is i before v st e =
      let ki = fair.callers (decides i) before st in
      let pre = stands-prefix (decides i) before calls st in
      let (d, x) = deciding-facts (state s before i).rec v e in
      (ki, sym x ∙ (here before pre i ki).decision (last_step before pre i ki d))

  -- A closing of the last round of run t.
  module _ (t i : ℕ) (before : List Call) (ki : keeper s i ≡ true) (run_ends : EndsRun s t i before calls) where
    pre : Prefix before calls
    pre = stands-prefix (closes i) before calls run_ends.stands

    abbrev closed : List Call
    closed = before ++ (closes i ∷ [])

    abbrev j : ℕ
    j = closings (begun s) i before

    was : InStep s calls sound fair before i
    was = here before pre i ki

    is : InStep s calls sound fair closed i
    is = here closed (stands-next (closes i) before calls run_ends.stands) i ki

    one_more : closings (begun s) i closed ≡ suc j
    one_more = closings-next s i before run_ends.taken

    low : j < steps plan
    low = omega (arith, one_more, is.most)

    run_is : step_run plan (suc j) ≡ record { 0 = t }
    run_is = ap (λ x. record { 0 = x }) (ap (λ (u : Run). u.0) (sym (was.run low)) ∙ run_ends.run)

    step_is : suc j ≡ S.step plan (record { 0 = t }) (rounds plan)
    step_is =
        sym (step-of-round plan (suc j) (omega arith) (omega (arith, low)))
        ∙ ap₂ (λ (u : Run) (k : Round). S.step plan u k) run_is (sym (was.round low) ∙ run_ends.round)

    run_in : (1 ≤ t) × (t ≤ (runs plan).0)
    run_in =
        let h = step-has plan (suc j) (omega arith) (omega (arith, low)) in
        let z = ap (λ (u : Run). u.0) run_is in
        (omega (arith, z, h.run-low), omega (arith, z, h.run-high))

    -- The root and the list that it left are those of the session.
    root_is : root s i before ≡ root_after s faulty t i
    unfolding root root_after ended
    root_is =
        ap (λ (b : Board). get_or b.cells 0 0) (sym (closed-state s i before)) ∙ is.root (omega (arith, one_more))
        ∙ ap (λ m. get_or (at s faulty m i).cells 0 0) (one_more ∙ step_is)

    list-is : list s i before ≡ list_ended s faulty t i
    unfolding list list_after list_ended ended
    list-is =
        ap (λ (b : Board). b.rec.list) (sym (closed-state s i before)) ∙ is.list
        ∙ ap (λ m. (at s faulty m i).rec.list) (one_more ∙ step_is)

  -- The boards on every list, as those closings left them.
  every : (t : ℕ) (before : ℕ → List Call) → ((i : ℕ) → keeper s i ≡ true → EndsRun s t i (before i) calls) → (r : ℕ)
      → on_every s (list_ended s faulty t) r ≡ on_every s (λ i. list s i (before i)) r
  unfolding on_every
  every t before e r =
      ap not (any_same
      (λ i. keeper s i && not (member r (as_set (list_ended s faulty t i))))
      (λ i. keeper s i && not (member r (as_set (list s i (before i))))) plan.n
      (λ i _. cases (keeper s i)
      (λ k. ap (λ l. keeper s i && not (member r (as_set l))) (sym (list-is t i (before i) k (e i k))))
      (λ k. rw k refl)))

  bounded : is_cut plan ≡ true → (t : ℕ) (before : ℕ → List Call) → ((i : ℕ) → keeper s i ≡ true → EndsRun s t i (before i) calls)
      → (i k : ℕ) → keeper s i ≡ true → keeper s k ≡ true → root s i (before i) ≢ root s k (before k)
      → t * (depth_of plan - 3) + 1 ≤ count (on_every s (λ i. list s i (before i))) plan.n
  bounded cut t before e i k ki kk ne =
      let (low-t, high-t) = run_in t i (before i) ki (e i ki) in
      let roots : (m : ℕ) (km : keeper s m ≡ true) → root s m (before m) ≡ root_after s faulty t m = λ m km. root_is t m (before m) km (e m km) in
      subst (λ x. t * (depth_of plan - 3) + 1 ≤ x)
      (count_same (on_every s (list_ended s faulty t)) (on_every s (λ i. list s i (before i))) plan.n (λ r _. every t before e r))
      (agreed.bound cut t low-t high-t i k ki kk (λ z. ne (roots i ki ∙ z ∙ sym (roots k kk))))

  -- While an undecided board stands in run t + 1, its first cell is its root after run t.
  first_cell : (t i : ℕ) (before : List Call) → keeper s i ≡ true → Prefix before calls → 1 ≤ t
      → (state s before i).rec.decided ≡ false → (state s before i).rec.run.0 ≡ t + 1 → get_or (state s before i).cells 0 0 ≡ root_after s faulty t i
  first_cell t i before ki pre low-t undecided in-run =
      let there = here before pre i ki in
      let j = closings (begun s) i before in
      let l : j < steps plan = below-or-end j (steps plan) there.most (λ l. l) (λ z. clash (there.decided z) undecided) in
      let (past, held) = root-shown s faulty sound t j i low-t l (ap (λ (u : Run). u.0) (sym (there.run l)) ∙ in-run) ki in
      there.root past ∙ held

  -- A board that has closed the last run is past its last round.
  past-last : (i : ℕ) (before : List Call) → keeper s i ≡ true → EndsRun s (runs plan).0 i before calls → PastLast s calls i
  unfolding S.step steps
  past-last i before ki e =
      omega (
        arith,
        one_more (runs plan).0 i before ki e,
        step_is (runs plan).0 i before ki e,
        (here calls (prefix_refl calls) i ki).most,
        closings-mono s i (before ++ (closes i ∷ [])) calls (stands-next (closes i) before calls e.stands),
      )

  -- The list that a closing left is the board's list after it.
  list_left : (i : ℕ) (before : List Call) → list s i before ≡ list_after s (before ++ (closes i ∷ [])) i
  unfolding list list_after
  list_left i before = ap (λ (b : Board). b.rec.list) (sym (closed-state s i before))

  -- Who stands on all lists that the closings left stands on all of them after the whole list.
  bounded-now : is_cut plan ≡ true → (t : ℕ) (before : ℕ → List Call) → ((i : ℕ) → keeper s i ≡ true → EndsRun s t i (before i) calls)
      → (i k : ℕ) → keeper s i ≡ true → keeper s k ≡ true → root s i (before i) ≢ root s k (before k)
      → t * (depth_of plan - 3) + 1 ≤ count (on_every s (list_after s calls)) plan.n
  bounded-now cut t before e i k ki kk ne =
      let then : ℕ → List Slot = λ i. list s i (before i) in
      let more = count-mono (on_every s then) (on_every s (list_after s calls)) plan.n (λ r _. every-mono s then (list_after s calls) r
      (λ m km on. within-member (as_set (list_after s (before m ++ (closes m ∷ [])) m)) (as_set (list_after s calls m))
      (grow m (before m ++ (closes m ∷ [])) calls km (stands-next (closes m) (before m) calls (e m km).stands) (prefix_refl calls)) r
      (subst (λ x. member r (as_set x) ≡ true) (list_left m (before m)) on))) in
      let h = bounded cut t before e i k ki kk ne in
      omega arith

  -- After the whole list.
  now : (i : ℕ) → keeper s i ≡ true → InStep s calls sound fair calls i
  now i ki = here calls (prefix_refl calls) i ki

  -- Every list of a board outside F lies within F.
  within-faulty : (i : ℕ) → keeper s i ≡ true → within (as_set (list_after s calls i)) s.faulty ≡ true
  unfolding list_after
  within-faulty i ki = subst (λ x. within (as_set x) s.faulty ≡ true) (sym (now i ki).list) (agreed.sound (closings (begun s) i calls) i (now i ki).most ki)

  -- So it has a place.
  healthy-within : (i : ℕ) → i < plan.n → member i s.faulty ≡ false → within (healthy_list s calls i) s.faulty ≡ true
  unfolding healthy_list
  healthy-within i l out =
      cases (eqb i plan.dealer)
      (λ d. rw d (within-empty s.faulty))
      (λ d. rw d (within-faulty i (is-keeper s i l out (eqb-false i plan.dealer d))))

  dealer-empty : healthy_list s calls plan.dealer ≡ 0
  unfolding healthy_list
  dealer-empty = rw (eq-eqb plan.dealer plan.dealer refl) refl

  agreement : Agreement s calls
  unfolding answers caller
  agreement = record {
    grows = grow;
    sound = within-faulty;
    placed = λ i l out. list-placed s (healthy_list s calls i) sound (healthy-within i l out);
    dealer-placed = λ _. ap (holder (listed plan)) dealer-empty ∙ holder-empty (listed plan);
    decided = λ i ki. (last_step calls (prefix_refl calls) i ki, (now i ki).decided);
    until = λ i before st l.
        open-closing (state s before i) (still_open before (stands-prefix (closes i) before calls st) i (fair.callers (closes i) before st) l);
    readable = λ i ki d. readable-there calls (prefix_refl calls) i ki d;
    same = λ i k ki kk z z'. (now i ki).decision z ∙ agreed.equal i k ki kk ∙ sym ((now k kk).decision z');
    valid = λ f i ki z. (now i ki).decision z ∙ agreed.dealers f i ki;
    equal = λ i k before before' v v' st st' e e'.
        let (ki, x) = read_is i before v st e in
        let (kk, y) = read_is k before' v' st' e' in
        x ∙ agreed.equal i k ki kk ∙ sym y;
    dealers = λ f i before v st e.
        let (ki, x) = read_is i before v st e in
        x ∙ agreed.dealers f i ki;
    bound = bounded;
    bound-now = bounded-now;
    stays = λ t u v before i later e one le ki e'.
        let (low-t, _) = run_in t i (before i) ki (e i ki) in
        let (_, high-u) = run_in u i later ki e' in
        root_is u i later ki e' ∙ agreed.stays t u v low-t le high-u (λ k kk. sym (root_is t k (before k) kk (e k kk)) ∙ one k kk) i ki;
    dealers-root = λ f t i before ki e.
        let (low-t, high-t) = run_in t i before ki e in
        root_is t i before ki e ∙ dealers-root s faulty sound f t i low-t high-t ki;
    root-shown = λ t i before later ki e pre undecided in-run.
        first_cell t i later ki pre (run_in t i before ki e).0 undecided in-run ∙ sym (root_is t i before ki e);
    root-decided = λ i before ki e.
        (now i ki).decision (past-last i before ki e) ∙ root-decided s faulty sound i ki ∙ sym (root_is (runs plan).0 i before ki e);
  }

pub demand3 : Demand3
demand3 = agreement
