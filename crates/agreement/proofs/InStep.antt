-- The boards of the protocol under the reduction: what they do, one by one; that a fair list is fair for it; and so where each board stands after every
-- prefix of a fair list (`InStep`): its list, its root, whether it is open and what it decided are those of the synchronous session that has the
-- list's frames for an adversary, after as many steps as closings of it were taken.
-- Assumes nothing.
use Prim.Native.Nat.{ℕ, suc, ◌+◌, ◌-◌, ◌≤◌, ◌<◌}
use mathlib.Core.Path.{◌≡◌, refl, sym, subst, ap, ap₂, ◌∙◌}
use mathlib.Core.Logic.{inl, inr}
use mathlib.Core.Bool.{Bool, true, false, not, ◌&&◌, cond}
use mathlib.Core.List.{List, [], ◌∷◌, ◌++◌}
use mathlib.Core.Option
use mathlib.Core.Option.{Option, some, none, some-injective, none-ne-some}
use native.Mathlib.Omega.{arith}
use lib.Dec.{eqb, leb, ltb}
use lib.ListN.{get_or}
use borrow.Author.Tests.{eqb-true, eqb-false, eq-eqb, ne_eqb, ltb-true, ltb-false, lt-leb}
use Rattle.codec.specs.Codec.{encode, decode}
use Rattle.codec.proofs.Codec.{decode-encode}
use Rattle.sets.specs.Sets.{member}
use Rattle.sets.proofs.Tests.{cases, clash, is_false, and_l, not_t, not_f}
use Rattle.refusals.specs.Outcome.{Outcome, taken, refused, and_then}
use Rattle.refusals.proofs.Outcomes.{taken-first}
use Rattle.plan.specs.declared.plan.Plan.{Plan}
use Rattle.plan.specs.Calls.{judged}
use Rattle.schedule.specs.declared.rounds.Run.{Run}
use Rattle.schedule.specs.declared.rounds.Round.{Round}
use Rattle.schedule.specs.Schedule.{steps, step_run, step_round}
use Rattle.schedule.specs.Schedule as S
use Rattle.schedule.proofs.Levels.{rounds-pos}
use Rattle.schedule.proofs.Steps.{step-of-round}
use Rattle.protocol.specs.declared.records.Record.{Record}
use Rattle.protocol.specs.Records.{with_marks}
use Rattle.protocol.specs.Nodes.{sent, due}
use Rattle.protocol.specs.Rounds.{onto, Board, counted, receive}
use Rattle.protocol.specs.Calls.{is_taken, judge_open, judge_receiving, taking, receiving, frame_of, wire_of, sending, closing, dealing}
use Rattle.protocol.specs.Session.{Adversary, Setting, begun, hears, at, keeper, Sound}
use Rattle.protocol.proofs.Judgement.{is-taken, taken_is, Good, Open, open-facts}
use Rattle.protocol.proofs.Taken.{receiving-facts, due-sender, taking-taken, taking-refused, closing-refused, sending-open, sending-gives, closing-open, open-closing}
use Rattle.synchronous.proofs.Hearing.{marks, heard_cells, accepts, content, is_given, heard-open, hear-shape}
use Rattle.synchronous.proofs.Synchronous.{canon, Standing, standing, keeper-facts, at-start, at_next, told}
use Rattle.synchronous.proofs.AnyOrder.{update, heard-more, heard-taken, heard-same, heard-none, heard-frame, heard-root}
use Rattle.agreement.specs.Lists.{Call, is_closing, receives, sends, closes, decides, caller, leaves, answers, World, state, Prefix, Stands, Taken, Fair, closings, list_after}
use Rattle.agreement.specs.Lists as L
use Rattle.agreement.proofs.Healthy.{is-keeper}
use Rattle.agreement.proofs.Reduction.{Entry, Letter, Boards, Session, Laws}
use Rattle.agreement.proofs.Reduction as R
use Rattle.agreement.proofs.Session.{synchronous}
use Rattle.agreement.proofs.Called.{state-width}

-- The boards

-- The step, from 0, in which a board stands.
step_of : Plan → Board → ℕ
step_of p b = S.step p b.rec.run b.rec.round - 1

takes_of : Plan → Call → Board → Option (Entry (List ℕ))
takes_of p (receives i q f) b = cond (is_taken (judge_receiving b q)) (some (record { sender = q; step = step_of p b; frame = decode b.width f })) none
takes_of p (sends i out) b = none
takes_of p (closes i) b = none
takes_of p (decides i) b = none

-- What is written is the same for all receivers.
writes_of : Plan → Call → ℕ → Board → Option (Letter (List ℕ))
writes_of p (receives i q f) x b = none
writes_of p (sends i out) x b = cond (is_taken (sending b out).answer) (some (record { step = step_of p b; frame = frame_of b })) none
writes_of p (closes i) x b = none
writes_of p (decides i) x b = none

ends_of : Call → Board → Bool
ends_of c b = is_closing c && is_taken (answers c b)

abbrev boards : Plan → Boards Board Call (List ℕ)
boards p = record { caller = caller; leaves = leaves; takes = takes_of p; writes = writes_of p; ends = ends_of }

-- What is taken is a handing in.
takes-facts : (p : Plan) (c : Call) (b : Board) (e : Entry (List ℕ)) → takes_of p c b ≡ some e
    → ((judge_receiving b e.sender).number ≡ 0) × (e.step ≡ step_of p b) × (leaves c b ≡ receive e.sender e.frame b)
unfolding takes_of leaves receiving
takes-facts p (receives i q f) b e h =
    cases (is_taken (judge_receiving b q))
    (λ x. let t = is-taken (judge_receiving b q) x in
    let z = some-injective _ _ (rw x at h) in
    subst (λ (e : Entry (List ℕ)). ((judge_receiving b e.sender).number ≡ 0) × (e.step ≡ step_of p b) × ((taking b q (decode b.width f)).board ≡ receive e.sender e.frame b)) z
    (t, refl, taking-taken b q (decode b.width f) t))
    (λ x. absurd (none-ne-some e (rw x at h)))
takes-facts p (sends i out) b e h = absurd (none-ne-some e h)
takes-facts p (closes i) b e h = absurd (none-ne-some e h)
takes-facts p (decides i) b e h = absurd (none-ne-some e h)

taken-takes : (p : Plan) (i q : ℕ) (f : List ℕ) (b : Board) → (receiving b q f).answer.number ≡ 0
    → takes_of p (receives i q f) b ≡ some (record { sender = q; step = step_of p b; frame = decode b.width f })
unfolding takes_of receiving taking
taken-takes p i q f b e = rw (taken_is (judge_receiving b q) e)

writes-facts : (p : Plan) (c : Call) (x : ℕ) (b : Board) (l : Letter (List ℕ)) → writes_of p c x b ≡ some l → Open b × (l.step ≡ step_of p b) × (l.frame ≡ frame_of b)
unfolding writes_of
writes-facts p (receives i q f) x b l h = absurd (none-ne-some l h)
writes-facts p (sends i out) x b l h =
    cases (is_taken (sending b out).answer)
    (λ t. let z = some-injective _ _ (rw t at h) in
    subst (λ (l : Letter (List ℕ)). Open b × (l.step ≡ step_of p b) × (l.frame ≡ frame_of b)) z
    (sending-open b out (is-taken (sending b out).answer t), refl, refl))
    (λ t. absurd (none-ne-some l (rw t at h)))
writes-facts p (closes i) x b l h = absurd (none-ne-some l h)
writes-facts p (decides i) x b l h = absurd (none-ne-some l h)

taken-writes : (p : Plan) (q x : ℕ) (out : List ℕ) (b : Board) → (sending b out).answer.number ≡ 0
    → writes_of p (sends q out) x b ≡ some (record { step = step_of p b; frame = frame_of b })
unfolding writes_of
taken-writes p q x out b e = rw (taken_is (sending b out).answer e)

-- What ends a step is a closing.
ends-facts : (c : Call) (b : Board) → ends_of c b ≡ true → (c ≡ closes (caller c)) × ((closing b).answer.number ≡ 0) × (leaves c b ≡ (closing b).board)
unfolding ends_of is_closing answers leaves caller
ends-facts (receives i q f) b e = clash e refl
ends-facts (sends i out) b e = clash e refl
ends-facts (closes i) b e = (refl, is-taken (closing b).answer e, refl)
ends-facts (decides i) b e = clash e refl

idle-call : (p : Plan) (c : Call) (b : Board) → takes_of p c b ≡ none → ends_of c b ≡ false → leaves c b ≡ b
unfolding takes_of ends_of is_closing answers leaves receiving
idle-call p (receives i q f) b n e =
    cases (is_taken (judge_receiving b q)) (λ x. absurd (none-ne-some _ (sym (rw x at n)))) (λ x. taking-refused b q (decode b.width f) x)
idle-call p (sends i out) b n e = refl
idle-call p (closes i) b n e =
    closing-refused b (is_false (is_taken (judge_open b)) (λ t. clash (taken_is (closing b).answer (open-closing b (is-taken (judge_open b) t))) e))
idle-call p (decides i) b n e = refl

apart-call : (p : Plan) (c : Call) (b : Board) → ends_of c b ≡ true → takes_of p c b ≡ none
unfolding takes_of ends_of is_closing
apart-call p (receives i q f) b e = clash e refl
apart-call p (sends i out) b e = refl
apart-call p (closes i) b e = refl
apart-call p (decides i) b e = refl

-- On a board that has decided nothing is taken, ended or written.
module _ (b : Board) (d : b.rec.decided ≡ true) where
  shut-takes : (p : Plan) (c : Call) → takes_of p c b ≡ none
  shut-takes p c = go (takes_of p c b) refl
    where
      go : (o : Option (Entry (List ℕ))) → takes_of p c b ≡ o → takes_of p c b ≡ none
      go none h = h
      go (some e) h = let (t, _, _) = takes-facts p c b e h in clash d (receiving-facts b e.sender t).0.undecided

  shut-ends : (c : Call) → ends_of c b ≡ false
  shut-ends c = is_false (ends_of c b) (λ t. clash d (open-facts b (closing-open b (ends-facts c b t).1)).undecided)

  shut-writes : (p : Plan) (c : Call) (x : ℕ) → writes_of p c x b ≡ none
  shut-writes p c x = go (writes_of p c x b) refl
    where
      go : (o : Option (Letter (List ℕ))) → writes_of p c x b ≡ o → writes_of p c x b ≡ none
      go none h = h
      go (some l) h = let (o, _, _) = writes-facts p c x b l h in clash d o.undecided

-- Lists of calls are those of the reduction.
after_same : (p : Plan) (w : World) (cs : List Call) → R.after (boards p) w cs ≡ L.after w cs
unfolding R.after L.after R.after_one L.after_one
after_same p w [] = refl
after_same p w (c ∷ cs) = after_same p (L.after_one w c) cs

closings-same : (p : Plan) (w : World) (i : ℕ) (cs : List Call) → R.closings (boards p) w i cs ≡ closings w i cs
unfolding R.closings closings R.after_one L.after_one ends_of is_taken
closings-same p w i [] = refl
closings-same p w i (c ∷ cs) =
    ap₂ ◌+◌ (ap (λ b. cond b 1 0) (swap (eqb i (caller c)) (is_closing c) (eqb (answers c (w i)).number 0))) (closings-same p (L.after_one w c) i cs)
  where
    swap : (a b c : Bool) → (a && (b && c)) ≡ (b && (a && c))
    swap true true c = refl
    swap true false c = refl
    swap false true c = refl
    swap false false c = refl

-- The session

module _ (s : Setting) (a : Adversary) (sound : Sound s) where
  abbrev plan : Plan
  plan = s.plan

  -- Board i after j steps, and its record.
  abbrev base : ℕ → ℕ → Board
  base j i = at s a j i

  abbrev rec_at : ℕ → ℕ → Record
  rec_at j i = canon s a sound i j (base j i).rec.list

  -- The board with the frames that it has taken in the step.
  abbrev hearing : ℕ → ℕ → (ℕ → Option (List ℕ)) → Board
  hearing j i msg =
      let r = rec_at j i in
      onto (base j i) (with_marks r (marks r.plan r.board r.round r.list msg plan.n))
      (heard_cells r.plan r.board r.round r.list msg (base j i).cells plan.n)

  -- A step that is not yet closed.
  module _ (j i : ℕ) (ki : keeper s i ≡ true) (l : j < steps plan) where
    st : Standing s a sound j i
    st = standing s a sound j i ki l

    rec-good : Good (rec_at j i)
    rec-good = subst Good st.shape st.good

    base-is : base j i ≡ onto (base j i) (rec_at j i) (base j i).cells
    base-is = ap (λ (r : Record). onto (base j i) r (base j i).cells) st.shape

    hearing-open : (msg : ℕ → Option (List ℕ)) → Open (hearing j i msg)
    hearing-open msg = heard-open (base j i).width (rec_at j i) rec-good refl msg (base j i).cells st.room plan.n (omega arith)

    -- Only due frames matter.
    hearing-same : (msg msg' : ℕ → Option (List ℕ)) → ((q : ℕ) → due plan q i (step_round plan (suc j)) ≡ true → msg q ≡ msg' q)
        → hearing j i msg ≡ hearing j i msg'
    unfolding accepts content
    hearing-same msg msg' h =
        heard-same (base j i).width (rec_at j i) rec-good refl (base j i).cells st.room msg msg'
        (λ q lq. cases (due plan q i (step_round plan (suc j)))
        (λ d. ap (λ o. due plan q i (step_round plan (suc j)) && is_given o) (h q d))
        (λ d. rw d refl))
        (λ q lq t. ap (λ o. counted (rec_at j i).list q (sent plan q i (step_round plan (suc j))) (Option.get_or o []))
        (h q (and_l (due plan q i (step_round plan (suc j))) (is_given (msg q)) t)))

    -- A frame more: it is due, and the first of its sender.
    hearing-taken : (msg : ℕ → Option (List ℕ)) (q : ℕ) → (judge_receiving (hearing j i msg) q).number ≡ 0
        → (q < plan.n) × (due plan q i (step_round plan (suc j)) ≡ true) × (msg q ≡ none)
    hearing-taken msg q e = heard-taken (base j i).width (rec_at j i) rec-good refl (base j i).cells st.room msg q e

    hearing-more : (msg : ℕ → Option (List ℕ)) (q : ℕ) (f : List ℕ) → (judge_receiving (hearing j i msg) q).number ≡ 0
        → receive q f (hearing j i msg) ≡ hearing j i (update msg q f)
    hearing-more msg q f e =
        let (lq, d, free) = hearing-taken msg q e in
        heard-more (base j i).width (rec_at j i) rec-good refl (base j i).cells st.room msg q f lq d free

    hearing-nothing : (msg : ℕ → Option (List ℕ)) → ((q : ℕ) → msg q ≡ none) → hearing j i msg ≡ base j i
    hearing-nothing msg h = heard-none (base j i).width (rec_at j i) rec-good refl (base j i).cells st.room msg (λ q _. h q) ∙ sym base-is

    -- A board that has heard what the session tells it.
    hearing-told : (closing (hearing j i (told s a i j))).board ≡ base (suc j) i
    hearing-told =
        let (li, _, _) = keeper-facts s a sound i ki in
        ap (λ b. (closing b).board) (sym (hear-shape (base j i).width (rec_at j i) rec-good refl (told s a i j) (base j i).cells st.room (base j i) base-is plan.n (omega arith)))
        ∙ sym (at_next s a i j li)

    hearing-frame : (msg : ℕ → Option (List ℕ)) → frame_of (hearing j i msg) ≡ frame_of (base j i)
    hearing-frame msg = heard-frame (base j i).width (rec_at j i) rec-good refl (base j i).cells st.room msg ∙ ap frame_of (sym base-is)

    -- Past the first step hearing leaves the root alone.
    hearing-root : (msg : ℕ → Option (List ℕ)) → 0 < j → get_or (hearing j i msg).cells 0 0 ≡ get_or (base j i).cells 0 0
    unfolding step_round
    hearing-root msg low =
        heard-root (base j i).width (rec_at j i) rec-good refl (base j i).cells st.room msg (rw (lt-leb (suc j) 1 (omega arith)) (omega arith))

  hearing-step : (j i : ℕ) (msg : ℕ → Option (List ℕ)) → j < steps plan → step_of plan (hearing j i msg) ≡ j
  unfolding step_of
  hearing-step j i msg l = omega (arith, step-of-round plan (suc j) (omega arith) (omega arith))

  decided-end : (i : ℕ) → keeper s i ≡ true → (base (steps plan) i).rec.decided ≡ true
  decided-end i ki = (synchronous s a sound).decided i ki

  -- What a healthy board that keeps cells, and the dealer, tell.
  told-keeper : (i q j : ℕ) → keeper s q ≡ true → told s a i j q ≡ some (frame_of (base j q))
  unfolding hears at
  told-keeper i q j kq =
      let (_, f, ne) = keeper-facts s a sound q kq in
      rw (f, ne_eqb q plan.dealer ne) refl

  told-dealer : (i q j : ℕ) → member q s.faulty ≡ false → q ≡ plan.dealer → told s a i j q ≡ some (s.word ∷ [])
  unfolding hears
  told-dealer i q j f e = rw (f, eq-eqb q plan.dealer e) refl

  told-faulty : (i q j : ℕ) → member q s.faulty ≡ true → told s a i j q ≡ a i j q
  unfolding hears
  told-faulty i q j f = rw f refl

  some-step : 0 < steps plan
  unfolding steps
  some-step = omega (arith, rounds-pos plan)

  -- No frame is taken ahead.
  abbrev in_steps : Session Board (List ℕ)
  in_steps = record {
    steps = steps plan;
    early = false;
    keeper = keeper s;
    healthy = λ q. not (member q s.faulty);
    due = λ i j q. due plan q i (step_round plan (suc j));
    told = told s a;
    mid = λ j i x y. hearing j i x;
    final = base (steps plan);
  }

  laws : Laws (boards plan) (begun s) in_steps
  laws = record {
    idle = idle-call plan;
    apart = apart-call plan;
    start = λ i ki. sym (at-start s a i (keeper-facts s a sound i ki).0) ∙ sym (hearing-nothing 0 i ki some-step (λ q. none) (λ q. refl));
    some-step = some-step;
    same = λ j i ki l x x' y y' h _. hearing-same j i ki l x x' (λ q _. h q);
    near = λ j i ki l x y c e h. inl ((takes-facts plan c (hearing j i x) e h).1 ∙ hearing-step j i x l);
    now = λ j i ki l x y c e h _.
        let (t, _, left) = takes-facts plan c (hearing j i x) e h in
        ((hearing-taken j i ki l x e.sender t).2, left ∙ hearing-more j i ki l x e.sender e.frame t);
    next = λ j i ki l x y c e h z. absurd (let u = (takes-facts plan c (hearing j i x) e h).1 ∙ hearing-step j i x l in let v : ⊥ = omega arith in v);
    close = λ j i ki l x y c e h nothing.
        let left = (ends-facts c (hearing j i x) e).2 ∙ ap (λ b. (closing b).board) (hearing-same j i ki l x (told s a i j) h) ∙ hearing-told j i ki l in
        (λ more. left ∙ sym (hearing-nothing (suc j) i ki more y (nothing refl)), λ end. left ∙ ap (λ k. base k i) end);
    over = λ i ki c. (shut-takes (base (steps plan) i) (decided-end i ki) plan c, shut-ends (base (steps plan) i) (decided-end i ki) c);
    silent = λ q kq c i. shut-writes (base (steps plan) q) (decided-end q kq) plan c i;
    written = λ j q kq l x y c i w h.
        let (_, st, fr) = writes-facts plan c i (hearing j q x) w h in
        (st ∙ hearing-step j q x l, told-keeper i q j kq ∙ ap some (sym (fr ∙ hearing-frame j q kq l x)));
  }

-- Fair lists

-- A number that is at most t is below it, or is it.
pub below-or-end : {C : Type 0} (j t : ℕ) → j ≤ t → (j < t → C) → (j ≡ t → C) → C
below-or-end j t h f g = cases (ltb j t) (λ x. f (ltb-true j t x)) (λ x. g (omega (arith, ltb-false j t x)))

module _ (s : Setting) (calls : List Call) (sound : Sound s) (fair : Fair s calls) where
  -- What the faulty boards hand in, read off the whole list.
  pub adversary : Adversary
  adversary i j q = R.took (boards s.plan) (begun s) i j q calls

  abbrev N : Session Board (List ℕ)
  N = in_steps s adversary sound

  now-is : (before : List Call) (i : ℕ) → R.after (boards s.plan) (begun s) before i ≡ state s before i
  unfolding state
  now-is before i = ap (λ (w : World). w i) (after_same s.plan (begun s) before)

  same-steps : (q : ℕ) (then : List Call) (i : ℕ) (now : List Call) → L.SameRound s q then i now → step_of s.plan (state s then q) ≡ step_of s.plan (state s now i)
  unfolding step_of
  same-steps q then i now h = ap₂ (λ (t : Run) (k : Round). S.step s.plan t k - 1) h.run h.round

  -- The dealer's frame holds its value.
  dealt-read : member s.plan.dealer s.faulty ≡ false → decode s.width (dealing s.width s.plan s.word).values ≡ s.word ∷ []
  unfolding dealing
  dealt-read f =
      let word : leb s.plan.span s.word ≡ false = lt-leb s.plan.span s.word (sound.word_below f) in
      let judgement = cond (leb s.plan.span s.word) (refused 18) (taken (encode s.width (s.word ∷ []))) in
      let deals : and_then (judged s.plan) judgement ≡ judgement = taken-first (judged s.plan) judgement sound.accepted in
      let accepted : judgement ≡ taken (encode s.width (s.word ∷ [])) = rw word refl in
      ap (λ (o : Outcome). decode s.width o.values) (deals ∙ accepted) ∙ decode-encode s.width (s.word ∷ [])

  -- What a writing gave is the frame of its board.
  wrote_it : (before : List Call) (i q j : ℕ) (f : List ℕ) → keeper s q ≡ true → step_of s.plan (state s before i) ≡ j → L.Written s before i q f
      → R.Written (boards s.plan) (begun s) N before i j q (decode s.width f)
  unfolding answers wire_of
  wrote_it before i q j f kq ej w =
      let b = state s w.earlier q in
      record {
        keeps = kq;
        earlier = w.earlier;
        call = sends q w.out;
        letter = record { step = step_of s.plan b; frame = frame_of b };
        stands = w.stands;
        wrote = ap (writes_of s.plan (sends q w.out) i) (now-is w.earlier q) ∙ taken-writes s.plan q i w.out b (ap (λ (o : Outcome). o.number) w.wrote);
        in_step = same-steps q w.earlier i before w.same ∙ ej;
        gave = ap (decode s.width) (w.gave ∙ (sending-gives b w.out w.size w.wrote).frame ∙ ap (λ x. encode x (frame_of b)) (state-width s w.earlier q))
            ∙ decode-encode s.width (frame_of b);
      }

  -- A fair list of 01 is fair for the reduction.
  heard : (c : Call) (before : List Call) → Stands c before calls → (i : ℕ) → i ≡ caller c → keeper s i ≡ true
      → ends_of c (R.after (boards s.plan) (begun s) before i) ≡ true → (j : ℕ) → j < steps s.plan
      → (x : ℕ → Option (List ℕ)) → R.after (boards s.plan) (begun s) before i ≡ hearing s adversary sound j i x
      → (q : ℕ) → not (member q s.faulty) ≡ true → due s.plan q i (step_round s.plan (suc j)) ≡ true → R.HandedIn (boards s.plan) (begun s) N before i j q
  unfolding answers caller
  heard c before st i own ki ok j l x is q hq d =
      let here : state s before i ≡ hearing s adversary sound j i x = sym (now-is before i) ∙ is in
      let (c-is, shut, _) = ends-facts c (state s before i) (ap (ends_of c) (sym (now-is before i)) ∙ ok) in
      let st' = subst (λ z. Stands z before calls) (c-is ∙ ap closes (sym own)) st in
      let k-is : (state s before i).rec.round ≡ step_round s.plan (suc j) = ap (λ (b : Board). b.rec.round) here in
      let fq = not_t (member q s.faulty) hq in
      let brought = fair.heard i before st' shut q fq (subst (λ k. due s.plan q i k ≡ true) (sym k-is) d) in
      let h = brought.handed in
      let f = h.frame in
      let in_step : step_of s.plan (state s h.earlier i) ≡ j =
      same-steps i h.earlier i before h.same ∙ ap (step_of s.plan) here ∙ hearing-step s adversary sound j i x l in
      record {
        earlier = h.earlier;
        call = receives i q f;
        entry = record { sender = q; step = step_of s.plan (state s h.earlier i); frame = decode s.width f };
        stands = h.stands;
        own = refl;
        entered = ap (takes_of s.plan (receives i q f)) (now-is h.earlier i) ∙ taken-takes s.plan i q f (state s h.earlier i) h.taken
            ∙ ap (λ x. some (record { sender = q; step = step_of s.plan (state s h.earlier i); frame = decode x f })) (state-width s h.earlier i);
        from = refl;
        for = in_step;
        as-sent = cases (eqb q s.plan.dealer)
            (λ y. let z = eqb-true q s.plan.dealer y in
            let word = dealt-read (subst (λ y. member y s.faulty ≡ false) z fq) in
            inl (told-dealer s adversary sound i q j fq z ∙ ap some (sym (ap (decode s.width) (brought.as-sent.dealt z) ∙ word))))
            (λ y. let ne = eqb-false q s.plan.dealer y in
            inr (wrote_it h.earlier i q j f (is-keeper s q (due-sender s.plan q i (step_round s.plan (suc j)) d) fq ne) in_step (brought.as-sent.written ne)));
      }

  fair-steps : R.Fair (boards s.plan) (begun s) N calls
  unfolding adversary
  fair-steps = record {
    adversary = λ i j q h. told-faulty s adversary sound i q j (not_f (member q s.faulty) h);
    heard = λ c before st i own ki ok l x y is q hq d. heard c before st i own ki ok (R.closings (boards s.plan) (begun s) i before) l x is q hq d;
  }

  -- Board i after the calls `before`, against the session after as many steps as closings of it were taken.
  pub record InStep (before : List Call) (i : ℕ) : Type 0 where
    pub most : closings (begun s) i before ≤ steps s.plan
    pub list : list_after s before i ≡ (at s adversary (closings (begun s) i before) i).rec.list
    -- past the first step
    pub root : 0 < closings (begun s) i before → get_or (state s before i).cells 0 0 ≡ get_or (at s adversary (closings (begun s) i before) i).cells 0 0
    -- before the last step is closed
    pub opened : closings (begun s) i before < steps s.plan → Open (state s before i)
    pub run : closings (begun s) i before < steps s.plan → (state s before i).rec.run ≡ step_run s.plan (suc (closings (begun s) i before))
    pub round : closings (begun s) i before < steps s.plan → (state s before i).rec.round ≡ step_round s.plan (suc (closings (begun s) i before))
    -- and after it
    pub decided : closings (begun s) i before ≡ steps s.plan → (state s before i).rec.decided ≡ true
    pub decision : closings (begun s) i before ≡ steps s.plan → (state s before i).rec.decision ≡ (at s adversary (steps s.plan) i).rec.decision

  pub in_step : (before : List Call) → Prefix before calls → (i : ℕ) → keeper s i ≡ true → InStep before i
  unfolding list_after
  in_step before pre i ki =
      let w = R.whereabouts (boards s.plan) (begun s) N (laws s adversary sound) calls fair-steps before pre i ki in
      let j = closings (begun s) i before in
      let count = closings-same s.plan (begun s) i before in
      let msg : ℕ → Option (List ℕ) = λ q. R.took (boards s.plan) (begun s) i j q before in
      let here : j < steps s.plan → state s before i ≡ hearing s adversary sound j i msg = λ l. sym (now-is before i) ∙ w.here j count l in
      let done : j ≡ steps s.plan → state s before i ≡ at s adversary (steps s.plan) i = λ z. sym (now-is before i) ∙ w.done (count ∙ z) in
      let most : j ≤ steps s.plan = omega (arith, w.most) in
      record {
        most = most;
        list = below-or-end j (steps s.plan) most (λ l. ap (λ (b : Board). b.rec.list) (here l)) (λ z. ap (λ (b : Board). b.rec.list) (done z ∙ ap (λ k. at s adversary k i) (sym z)));
        root = λ low. below-or-end j (steps s.plan) most
            (λ l. ap (λ (b : Board). get_or b.cells 0 0) (here l) ∙ hearing-root s adversary sound j i ki l msg low)
            (λ z. ap (λ (b : Board). get_or b.cells 0 0) (done z ∙ ap (λ k. at s adversary k i) (sym z)));
        opened = λ l. subst Open (sym (here l)) (hearing-open s adversary sound j i ki l msg);
        run = λ l. ap (λ (b : Board). b.rec.run) (here l);
        round = λ l. ap (λ (b : Board). b.rec.round) (here l);
        decided = λ z. ap (λ (b : Board). b.rec.decided) (done z) ∙ decided-end s adversary sound i ki;
        decision = λ z. ap (λ (b : Board). b.rec.decision) (done z);
      }

-- Closings of any list.
module _ (s : Setting) (i : ℕ) where
  pub closings-mono : (a b : List Call) → Prefix a b → closings (begun s) i a ≤ closings (begun s) i b
  closings-mono a b p = omega (arith, R.closings-mono (boards s.plan) (begun s) i a b p, closings-same s.plan (begun s) i a, closings-same s.plan (begun s) i b)

  -- A closing that is taken counts, and leaves the board closed.
  pub closings-next : (before : List Call) → Taken s (closes i) before → closings (begun s) i (before ++ (closes i ∷ [])) ≡ suc (closings (begun s) i before)
  unfolding ends_of is_closing caller answers state
  closings-next before ok =
      let p = s.plan in
      let now = ap (λ (w : World). w i) (after_same p (begun s) before) in
      let ends : R.closes_now (boards p) (R.after (boards p) (begun s) before) i (closes i) ≡ true =
      rw (eq-eqb i i refl) (ap (λ b. is_taken (closing b).answer) now ∙ taken_is (closing (state s before i)).answer ok) in
      omega (
        arith,
        closings-same p (begun s) i (before ++ (closes i ∷ [])),
        closings-same p (begun s) i before,
        R.closings-next (boards p) (begun s) i before (closes i) true ends,
      )

  pub closed-state : (before : List Call) → state s (before ++ (closes i ∷ [])) i ≡ (closing (state s before i)).board
  unfolding state leaves caller
  closed-state before =
      let p = s.plan in
      let same : (cs : List Call) → L.after (begun s) cs i ≡ R.after (boards p) (begun s) cs i = λ cs. ap (λ (w : World). w i) (sym (after_same p (begun s) cs)) in
      same (before ++ (closes i ∷ [])) ∙ R.own-next (boards p) (begun s) before (closes i) i refl ∙ ap (λ b. (closing b).board) (sym (same before))
