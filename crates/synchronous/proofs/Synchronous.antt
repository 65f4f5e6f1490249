-- The synchronous session, step by step: where each healthy board stands, and what it is after the next step.
-- Assumes nothing.
use Prim.Native.Nat.{ℕ, zero, suc, ◌+◌, ◌-◌, ◌*◌, ◌≤◌, ◌<◌}
use mathlib.Core.Path.{◌≡◌, refl, sym, ◌∙◌, ap, ap₂, subst, subst₂}
use mathlib.Core.Logic.{◌≢◌}
use mathlib.Core.Bool.{true, false, not, ◌&&◌}
use mathlib.Core.List.{List}
use mathlib.Core.Option.{Option, some, none}
use native.Mathlib.Omega.{arith}
use native.Mathlib.Nat.{zero-mul}
use lib.Dec.{eqb, ltb}
use lib.ListN.{length, get_or-eq_default}
use borrow.Author.Tests.{eqb-false, ne_eqb, ltb-true, ltb-false, lt-ltb, le-ltb, eqb-true}
use Rattle.sets.specs.Sets.{member}
use Rattle.sets.proofs.Tests.{cases, and_l, and_r, not_t}
use Rattle.refusals.proofs.Outcomes.{taken-first}
use Rattle.plan.specs.declared.plan.Plan.{Plan}
use Rattle.plan.specs.Calls.{judged}
use Rattle.schedule.specs.declared.rounds.Run.{Run}
use Rattle.schedule.specs.declared.rounds.Round.{Round}
use Rattle.schedule.specs.Schedule.{rounds, runs, steps, step, step_run, step_round}
use Rattle.schedule.proofs.Steps.{Has, run-split, run-of-step, round-of-step, step-has, step-of-round, later-rounds}
use Rattle.schedule.proofs.Levels.{rounds-pos, runs-pos}
use Rattle.tree.specs.Places.{cell_count}
use Rattle.protocol.specs.declared.records.Slot.{Slot}
use Rattle.protocol.specs.declared.records.Record.{Record}
use Rattle.protocol.specs.Records.{standing_at, run_ended, with_marks}
use Rattle.protocol.specs.Rounds.{board_of, onto, Board, gather, next_round, convert, close, cleared}
use Rattle.protocol.specs.Calls.{is_taken, judge_board, judge_beginning, fresh_record, beginning, taking, closing}
use Rattle.sets.proofs.Tabulated.{tabulate-length, tabulate-at}
use Rattle.protocol.specs.Session.{Adversary, Setting, Boards, nobody, board_at, begun, hears, hand_in, hear_all, session, at, take_all, keeper, Sound}
use Rattle.protocol.proofs.Judgement.{Good, Open, open-taken, board-taken, cells-taken, taken_is}
use Rattle.protocol.proofs.Taken.{closing-taken, taking-width, closing-width}
use Rattle.synchronous.proofs.Reached.{fresh-good, close-good, close-length}
use Rattle.synchronous.proofs.Hearing.{marks, heard_cells, heard-open, hear-shape}
use Rattle.protocol.specs.Detection.{detect_levels}
use Rattle.protocol.proofs.Turns.{begun-length}

module _ (s : Setting) (a : Adversary) where
  pub at-start : (i : ℕ) → i < s.plan.n → at s a 0 i ≡ begun s i
  unfolding at session board_at
  at-start i l = tabulate-at (begun s) s.plan.n i nobody l

  pub hear-all : (w : Boards) (i j k : ℕ) → hear_all s a w i j k ≡ take_all (hears s a w i j) (board_at w i) k
  unfolding hear_all
  hear-all w i j k = refl

  -- What board i is told in step j.
  abbrev pub told : ℕ → ℕ → ℕ → Option (List ℕ)
  told i j = hears s a (session s a j) i j

  pub at_next : (i j : ℕ) → i < s.plan.n → at s a (suc j) i ≡ (closing (take_all (told i j) (at s a j i) s.plan.n)).board
  unfolding at session board_at
  at_next i j l =
      let f : ℕ → Board = λ i. (closing (hear_all s a (session s a j) i j s.plan.n)).board in
      tabulate-at f s.plan.n i nobody l
      ∙ ap (λ b. (closing b).board) (hear-all (session s a j) i j s.plan.n)

  session-length : (j : ℕ) → length (session s a j) ≡ s.plan.n
  unfolding session
  session-length zero = tabulate-length (begun s) 0 s.plan.n
  session-length (suc j) = tabulate-length _ 0 s.plan.n

  -- Past the boards there is none.
  pub at-past : (j i : ℕ) → s.plan.n ≤ i → at s a j i ≡ nobody
  unfolding at board_at
  at-past j i l = get_or-eq_default (session s a j) nobody {n = i} (omega (arith, session-length j))

-- Two sessions side by side: what handing in the same values and closing keep between two boards holds all along.
module _ (R : Board → Board → Type 0)
    (takes : (b c : Board) (q : ℕ) (vs : List ℕ) → R b c → R (taking b q vs).board (taking c q vs).board)
    (closes : (b c : Board) → R b c → R (closing b).board (closing c).board) where
  hand-related : (q : ℕ) (o : Option (List ℕ)) (b c : Board) → R b c → R (hand_in q o b) (hand_in q o c)
  unfolding hand_in
  hand-related q none b c h = h
  hand-related q (some vs) b c h = takes b c q vs h

  all-related : (f g : ℕ → Option (List ℕ)) (b c : Board) (k : ℕ) → ((q : ℕ) → q < k → f q ≡ g q) → R b c → R (take_all f b k) (take_all g c k)
  unfolding take_all
  all-related f g b c zero e h = h
  all-related f g b c (suc k) e h =
      subst (λ m. R (hand_in k (f k) (take_all f b k)) (hand_in k m (take_all g c k))) (e k (omega arith))
      (hand-related k (f k) (take_all f b k) (take_all g c k) (all-related f g b c k (λ q l. e q (omega arith)) h))

  -- Of the boards in K, if they begin so and all boards are told the same.
  module _ (s r : Setting) (a : Adversary) (n : s.plan.n ≡ r.plan.n) (K : ℕ → Type 0)
      (starts : (i : ℕ) → i < s.plan.n → K i → R (begun s i) (begun r i))
      (tells : (j : ℕ) → ((i : ℕ) → i < s.plan.n → K i → R (at s a j i) (at r a j i)) → (i q : ℕ) → q < s.plan.n → told s a i j q ≡ told r a i j q) where
    pub at-related : (j i : ℕ) → i < s.plan.n → K i → R (at s a j i) (at r a j i)
    at-related zero i l k = subst₂ R (sym (at-start s a i l)) (sym (at-start r a i (subst (λ m. i < m) n l))) (starts i l k)
    at-related (suc j) i l k =
        subst₂ R (sym (at_next s a i j l)) (sym (at_next r a i j (subst (λ m. i < m) n l)))
        (closes _ _
        (subst (λ m. R (take_all (told s a i j) (at s a j i) s.plan.n) (take_all (told r a i j) (at r a j i) m)) n
        (all-related (told s a i j) (told r a i j) (at s a j i) (at r a j i) s.plan.n (tells j (at-related j) i) (at-related j i l k))))

-- What handing in and closing keep of one board holds all along the session.
pub at-keeps : (P : Board → Type 0)
    → ((b : Board) (q : ℕ) (vs : List ℕ) → P b → P (taking b q vs).board) → ((b : Board) → P b → P (closing b).board)
    → (s : Setting) (a : Adversary) → ((i : ℕ) → P (begun s i)) → (j i : ℕ) → i < s.plan.n → P (at s a j i)
at-keeps P takes closes s a h j i l =
    at-related (λ b _. P b) (λ b _ q vs p. takes b q vs p) (λ b _ p. closes b p) s s a refl (λ i. i ≡ i) (λ i _ _. h i) (λ _ _ _ _ _. refl) j i l refl

-- A board keeps the width that it was begun with.
pub begun-width : (s : Setting) (i : ℕ) → (begun s i).width ≡ s.width
unfolding begun beginning
begun-width s i = cases (is_taken (judge_beginning s.plan i (s.buffer i))) (λ e. rw e) (λ e. rw e)

pub at_width : (s : Setting) (a : Adversary) (j i : ℕ) → i < s.plan.n → (at s a j i).width ≡ s.width
at_width s a =
    at-keeps (λ b. b.width ≡ s.width) (λ b q vs h. taking-width b q vs ∙ h) (λ b h. closing-width b ∙ h) s a (begun-width s)

-- Positions: the round after a round.
module _ (p : Plan) where
  -- Within a run.
  pub next-position : (t : Run) (k : Round) → Has p t k → k.0 < (rounds p).0
      → (step_run p (suc (step p t k)) ≡ t) × (step_round p (suc (step p t k)) ≡ record { 0 = k.0 + 1 })
  unfolding step
  next-position t k h l =
      let k' : Round = record { 0 = k.0 + 1 } in
      let h' : Has p t k' = record {
        run-low = h.run-low;
        run-high = h.run-high;
        round-low = omega arith;
        round-later = λ _. omega (arith, h.round-low);
        round-high = omega arith;
      } in
      let z : step p t k' ≡ suc (step p t k) = omega arith in
      (ap (step_run p) (sym z) ∙ run-of-step p t k' h', ap (step_round p) (sym z) ∙ round-of-step p t k' h')

  -- From the last round of a run to round 2 of the next.
  pub next-run : (t : Run) (k : Round) → (judged p).number ≡ 0 → Has p t k → k.0 ≡ (rounds p).0 → t.0 < (runs p).0
      → (step_run p (suc (step p t k)) ≡ record { 0 = t.0 + 1 }) × (step_round p (suc (step p t k)) ≡ record { 0 = 2 })
  unfolding step
  next-run t k e h last l =
      let low = h.run-low in
      let two = later-rounds p e (omega arith) in
      let t' : Run = record { 0 = t.0 + 1 } in
      let k' : Round = record { 0 = 2 } in
      let h' : Has p t' k' = record {
        run-low = omega arith;
        run-high = omega arith;
        round-low = omega arith;
        round-later = λ _. omega arith;
        round-high = two;
      } in
      let w = (rounds p).0 - 1 in
      let split : t.0 * w ≡ (t.0 - 1) * w + w = run-split t.0 w low in
      let less : t.0 + 1 - 1 ≡ t.0 = omega arith in
      let z : step p t' k' ≡ suc (step p t k) = ap (λ x. x * w + 2) less ∙ omega arith in
      (ap (step_run p) (sym z) ∙ run-of-step p t' k' h', ap (step_round p) (sym z) ∙ round-of-step p t' k' h')

-- Where a healthy board that keeps cells stands before the last step.
module _ (s : Setting) (a : Adversary) (sound : Sound s) where
  abbrev plan : Plan
  plan = s.plan

  -- The record of board i in step j, counted from 0, with a list.
  abbrev pub canon : ℕ → ℕ → List Slot → Record
  canon i j list = standing_at plan i (step_run plan (suc j)) (step_round plan (suc j)) list

  pub record Standing (j i : ℕ) : Type 0 where
    pub shape : (at s a j i).rec ≡ canon i j (at s a j i).rec.list
    pub good : Good (at s a j i).rec
    pub room : cell_count plan.n ≤ length (at s a j i).cells

  pub keeper-facts : (i : ℕ) → keeper s i ≡ true → (i < plan.n) × (member i s.faulty ≡ false) × (i ≢ plan.dealer)
  unfolding keeper
  keeper-facts i e =
      let b = ltb i plan.n in
      let f = not (member i s.faulty) in
      let d = not (eqb i plan.dealer) in
      let rest = and_r b (f && d) e in
      (ltb-true i plan.n (and_l b (f && d) e), not_t (member i s.faulty) (and_l f d rest), eqb-false i plan.dealer (not_t (eqb i plan.dealer) (and_r f d rest)))

  -- A board that keeps cells was begun.
  pub begins : (i : ℕ) → keeper s i ≡ true → (judge_beginning plan i (s.buffer i)).number ≡ 0
  unfolding judge_beginning
  begins i k =
      let (l, _, ne) = keeper-facts i k in
      ap (λ o. o.number) (taken-first (judged plan) _ sound.accepted ∙ taken-first (judge_board plan i) _ (ap (λ o. o.number) (board-taken plan i l ne))
      ∙ cells-taken plan (s.buffer i) (sound.cells-enough i k))

  -- Board i as its beginning left it.
  pub begun-shape : (i : ℕ) → keeper s i ≡ true
      → begun s i ≡ board_of s.width (fresh_record plan i) (cleared s.width plan.n (s.buffer i))
  unfolding begun beginning
  begun-shape i k = rw (taken_is (judge_beginning plan i (s.buffer i)) (begins i k))

  first-position : (step_run plan 1 ≡ record { 0 = 1 }) × (step_round plan 1 ≡ record { 0 = 1 })
  unfolding step
  first-position =
      let t : Run = record { 0 = 1 } in
      let k : Round = record { 0 = 1 } in
      let h : Has plan t k = record {
        run-low = omega arith;
        run-high = runs-pos plan;
        round-low = omega arith;
        round-later = λ x. absurd (x refl);
        round-high = rounds-pos plan;
      } in
      let z : step plan t k ≡ 1 = omega (arith, zero-mul ((rounds plan).0 - 1)) in
      (ap (step_run plan) (sym z) ∙ run-of-step plan t k h, ap (step_round plan) (sym z) ∙ round-of-step plan t k h)

  pub standing-start : (i : ℕ) → keeper s i ≡ true → Standing 0 i
  unfolding fresh_record
  standing-start i k =
      let (l, _, ne) = keeper-facts i k in
      let e = at-start s a i l ∙ begun-shape i k in
      let cells = cleared s.width plan.n (s.buffer i) in
      let b : Board = board_of s.width (fresh_record plan i) cells in
      record {
        shape = subst (λ x. x.rec ≡ canon i 0 x.rec.list) (sym e)
            (ap₂ (λ (t : Run) (q : Round). standing_at plan i t q (fresh_record plan i).list) (sym first-position.0) (sym first-position.1));
        good = subst (λ x. Good x.rec) (sym e) (fresh-good plan i sound.accepted l ne);
        room = subst (λ x. cell_count plan.n ≤ length x.cells) (sym e)
            (rw (begun-length s.width plan.n (s.buffer i) (sound.cells-enough i k)) (sound.cells-enough i k));
      }

  -- The board in step j when it has heard all frames.
  module _ (j i : ℕ) (k : keeper s i ≡ true) (st : Standing j i) (more : j < steps plan) where
    abbrev pub r : Record
    r = canon i j (at s a j i).rec.list

    abbrev pub cells : List ℕ
    cells = (at s a j i).cells

    pub good-r : Good r
    good-r = subst Good st.shape st.good

    -- The record with its marks, and the cells, as closing begins.
    abbrev pub ready : Board
    ready = onto (at s a j i) (with_marks r (marks r.plan r.board r.round r.list (told s a i j) plan.n)) (heard_cells r.plan r.board r.round r.list (told s a i j) cells plan.n)

    pub ready-open : Open ready
    ready-open = heard-open (at s a j i).width r good-r refl (told s a i j) cells st.room plan.n (omega arith)

    pub heard_all : take_all (told s a i j) (at s a j i) plan.n ≡ ready
    heard_all =
        hear-shape (at s a j i).width r good-r refl (told s a i j) cells st.room (at s a j i)
        (ap (λ (x : Record). onto (at s a j i) x cells) st.shape) plan.n (omega arith)

    pub after-step : at s a (suc j) i ≡ close ready
    after-step =
        at_next s a i j (keeper-facts i k).0 ∙ ap (λ b. (closing b).board) heard_all
        ∙ closing-taken ready (ap (λ o. o.number) (open-taken ready ready-open))

    pub position : Has plan (step_run plan (suc j)) (step_round plan (suc j))
    position = step-has plan (suc j) (omega arith) more

    pub number : step plan (step_run plan (suc j)) (step_round plan (suc j)) ≡ suc j
    number = step-of-round plan (suc j) (omega arith) more

    -- Within a run.
    pub close-next : (step_round plan (suc j)).0 < (rounds plan).0 → close ready ≡ next_round ready (gather ready)
    unfolding close
    close-next l = rw (lt-ltb (step_round plan (suc j)).0 (rounds plan).0 l)

    pub close-last : (rounds plan).0 ≤ (step_round plan (suc j)).0 → close ready ≡ convert ready (gather ready)
    unfolding close
    close-last l = rw (le-ltb (step_round plan (suc j)).0 (rounds plan).0 l)

    same-record : (list : List Slot) {t t' : Run} {q q' : Round} → t ≡ t' → q ≡ q' → standing_at plan i t q list ≡ standing_at plan i t' q' list
    same-record list e f = ap₂ (λ (t : Run) (q : Round). standing_at plan i t q list) e f

    -- Where a step follows the last round of a run, so does a run.
    pub more-runs : suc j < steps plan → (step_round plan (suc j)).0 ≡ (rounds plan).0 → (step_run plan (suc j)).0 < (runs plan).0
    unfolding step steps
    more-runs h y =
        cases (eqb (step_run plan (suc j)).0 (runs plan).0)
        (λ e. let x = eqb-true (step_run plan (suc j)).0 (runs plan).0 e in
        let m : ((step_run plan (suc j)).0 - 1) * ((rounds plan).0 - 1) ≡ ((runs plan).0 - 1) * ((rounds plan).0 - 1) = ap (λ z. (z - 1) * ((rounds plan).0 - 1)) x in
        absurd (omega (arith, number)))
        (λ e. let ne : (step_run plan (suc j)).0 ≢ (runs plan).0 = eqb-false (step_run plan (suc j)).0 (runs plan).0 e in omega (arith, position.run-high))

    pub next-shape : suc j < steps plan → (close ready).rec ≡ canon i (suc j) (close ready).rec.list
    unfolding next_round convert run_ended
    next-shape l =
        let t = step_run plan (suc j) in
        let q = step_round plan (suc j) in
        cases (ltb q.0 (rounds plan).0)
        (λ e. let lt = ltb-true q.0 (rounds plan).0 e in
        let (x, y) = next-position plan t q position lt in
        rw (close-next lt) (same-record (gather ready).list (sym (ap (λ z. step_run plan (suc z)) (sym number) ∙ x)) (sym (ap (λ z. step_round plan (suc z)) (sym number) ∙ y))))
        (λ e. let ge = ltb-false q.0 (rounds plan).0 e in
        let last : q.0 ≡ (rounds plan).0 = omega (arith, position.round-high) in
        let before = more-runs l last in
        let (x, y) = next-run plan t q sound.accepted position last before in
        rw (close-last ge, ne_eqb t.0 (runs plan).0 (omega arith))
        (same-record (detect_levels plan i t q (gather ready).cells ((rounds plan).0 - 1) (gather ready).list)
        (sym (ap (λ z. step_run plan (suc z)) (sym number) ∙ x)) (sym (ap (λ z. step_round plan (suc z)) (sym number) ∙ y))))

    pub standing-next : suc j < steps plan → Standing (suc j) i
    standing-next l = record {
      shape = subst (λ b. b.rec ≡ canon i (suc j) b.rec.list) (sym after-step) (next-shape l);
      good = subst (λ b. Good b.rec) (sym after-step) (close-good ready ready-open.good);
      room = subst (λ b. cell_count plan.n ≤ length b.cells) (sym after-step) (rw (close-length ready ready-open) ready-open.room);
    }

  pub standing : (j i : ℕ) → keeper s i ≡ true → j < steps plan → Standing j i
  standing zero i k l = standing-start i k
  standing (suc j) i k l = standing-next j i k (standing j i k (omega arith)) (omega arith) l
