-- The boards on the stage are those of the session, after every step.
-- Assumes nothing.
use Prim.Native.Nat.{ℕ, zero, suc, ◌*◌, ◌≤◌, ◌<◌}
use mathlib.Core.Path.{◌≡◌, refl, sym, ap, ap₂, subst, subst₂, ◌∙◌}
use mathlib.Core.Logic.{◌≢◌, ◌⊎◌, inl, inr, ⊎_elim}
use mathlib.Core.Bool.{true, false, cond}
use mathlib.Core.List.{List, [], ◌∷◌}
use native.Mathlib.Omega.{arith}
use lib.Dec.{eqb, ltb}
use lib.ListN.{length, get_or, set, take, drop, replicate, length-set, length-replicate, get_or-replicate}
use lib.Seq.{get_or-set_same, get_or-set_other}
use borrow.Author.Tests.{eqb-true, eqb-false, eq-eqb, ne_eqb, ltb-true, ltb-false, lt-ltb, le-ltb, lt-leb}
use Rattle.codec.specs.Codec.{current, encode, decode}
use Rattle.codec.proofs.Codec.{decode-encode}
use Rattle.sets.specs.Sets.{member}
use Rattle.sets.proofs.Tests.{cases, clash, and_l}
use Rattle.schedule.specs.Schedule.{rounds, steps, step_run, step_round}
use Rattle.refusals.specs.Outcome.{Outcome, taken, refused}
use Rattle.plan.specs.Calls.{judged}
use Rattle.refusals.proofs.Outcomes.{taken-first}
use Rattle.tree.specs.Places.{cell_count}
use Rattle.sets.specs.Search.{any}
use Rattle.protocol.specs.Limits.{cells_needed, frame_room}
use Rattle.protocol.specs.Nodes.{due}
use Rattle.protocol.specs.Rounds.{board_of, board_with, Board}
use Rattle.protocol.specs.Calls.{is_taken, void_record, judge_open, judge_sending, dealing, taking, receiving, sending, frame_of, wire_of}
use Rattle.protocol.specs.Session.{Adversary, Setting, board_at, begun, hears, hand_in, at, take_all, keeper, Sound}
use Rattle.sheet.specs.declared.head.Head.{Head}
use Rattle.sheet.specs.Sheet.{Frame}
use Rattle.sheet.specs.Playing.{find_frame, decoded, sheet_adversary, part, replace_part, setting, final_cells, final_boards}
use Rattle.synchronous.proofs.Synchronous.{at-start, at_next, at_width, told, keeper-facts}
use Rattle.synchronous.proofs.PartHeard.{MidStep, part-heard, cells-kept}
use Rattle.protocol.proofs.Judgement.{Open, open-taken}
use Rattle.protocol.proofs.Few.{sends, unsent}
use Rattle.protocol.proofs.Taken.{sending-gives}
use Rattle.sheet.proofs.Sheets.{GoodHead, few-boards, parts-most, part_length}
use Rattle.stage.specs.Stage.{Stage, no_record, board_on, keeps, put_board, on_stage}
use Rattle.outgoing.specs.Outgoing.{dealt_frame, frame_from}
use Rattle.hearing.specs.Hearing.{hear_from}
use Rattle.exchange.specs.Exchange.{hear_sender, hear_senders}
use Rattle.session.specs.Steps.{begins, closes, play_step, frames_left, play_steps}
use Rattle.walk.proofs.Whole.{rounds-most}
use Rattle.outgoing.proofs.Sender.{from-dealer, from-sender}
use Rattle.hearing.proofs.Sender.{told-faulty, told-healthy}
use Rattle.session.proofs.Steps.{sought-left}
use Rattle.tree.proofs.Parts.{replace, laid, laid_same, laid-own, laid-part, laid-replace}

-- Nothing is due from the board to anybody: writing is refused.
silent : (b : Board) (out : List ℕ) → Open b → any (λ i. due b.rec.plan b.rec.board i b.rec.round) b.rec.plan.n ≡ false
    → (sending b out).answer.number ≡ 16
unfolding sending judge_sending
silent b out o x =
    let e : judge_sending b out ≡ refused 16 = taken-first (judge_open b) _ (ap (λ (y : Outcome). y.number) (open-taken b o)) ∙ rw x refl in
    ap (λ (y : Outcome). y.number) e

module _ (h : Head) (good : GoodHead h) (cells₀ : List ℕ) (room : cells_needed ≤ length cells₀) where
  abbrev s : Setting
  s = setting current h cells₀

  abbrev n : ℕ
  n = h.plan.n

  abbrev c : ℕ
  c = cell_count n

  few : n ≤ 7
  few = few-boards h good

  enough : n * c ≤ length cells₀
  enough = omega (arith, parts-most n few)

  kept-below : (i : ℕ) → keeper s i ≡ true → i < n
  unfolding keeper setting
  kept-below i k = ltb-true i n (and_l (ltb i n) _ k)

  keeps-kept : (i : ℕ) → i < n → keeper s i ≡ keeps h i
  unfolding keeper keeps setting
  keeps-kept i l = rw (lt-ltb i n l) refl

  -- A board of the code's width, with the cells of its part.
  pub record Fit (b : Board) : Type 0 where
    pub width : b.width ≡ current
    pub size : length b.cells ≡ c

  fit_same : (b d : Board) → b ≡ d → Fit d → Fit b
  fit_same b d e = subst Fit (sym e)

  -- The stage holds these boards.
  pub record Holds (w : ℕ → Board) (st : Stage) : Type 0 where
    pub recs : (i : ℕ) → keeper s i ≡ true → get_or st.recs i no_record ≡ (w i).rec
    pub seven : length st.recs ≡ 7
    pub cells : st.cells ≡ laid (keeper s) c (λ i. (w i).cells) n cells₀
    pub fits : (i : ℕ) → keeper s i ≡ true → Fit (w i)

  pub holds_same : (w w' : ℕ → Board) (st : Stage) → ((i : ℕ) → keeper s i ≡ true → w i ≡ w' i) → Holds w st → Holds w' st
  holds_same w w' st e x = record {
    recs = λ i k. x.recs i k ∙ ap (λ (b : Board). b.rec) (e i k);
    seven = x.seven;
    cells = x.cells ∙ laid_same (keeper s) c (λ i. (w i).cells) (λ i. (w' i).cells) n cells₀ (λ i _ k. ap (λ (b : Board). b.cells) (e i k));
    fits = λ i k. subst Fit (e i k) (x.fits i k);
  }

  -- A board on the stage.
  pub look : (w : ℕ → Board) (st : Stage) → Holds w st → (i : ℕ) → keeper s i ≡ true → board_on n st i ≡ w i
  unfolding board_on part
  look w st x i k =
      let e : take c (drop (i * c) st.cells) ≡ (w i).cells =
      ap (λ y. take c (drop (i * c) y)) x.cells ∙ laid-part (keeper s) c (λ j. (w j).cells) (λ j kj. (x.fits j kj).size) i n cells₀ (kept-below i k) k enough in
      ap₂ (λ r y. board_with r y) (x.recs i k) e ∙ ap (λ v. board_of v (w i).rec (w i).cells) (sym (x.fits i k).width)

  abbrev updated : (ℕ → Board) → ℕ → Board → ℕ → Board
  updated w i b j = cond (eqb j i) b (w j)

  -- One board is put in its place.
  put : (w : ℕ → Board) (st : Stage) → Holds w st → (i : ℕ) (b : Board) → keeper s i ≡ true → Fit b
      → Holds (updated w i b) (put_board n i b st)
  unfolding put_board
  put w st x i b k fit = record {
    recs = λ j kj.
        cases (eqb j i)
        (λ e. let same = eqb-true j i e in
        ap (λ m. get_or (set st.recs i b.rec) m no_record) same
        ∙ get_or-set_same st.recs i b.rec no_record (omega (arith, kept-below i k, few, x.seven)) ∙ rw e refl)
        (λ e. get_or-set_other st.recs i j b.rec no_record (eqb-false j i e) ∙ x.recs j kj ∙ rw e refl);
    seven = length-set st.recs i b.rec ∙ x.seven;
    cells =
        let w' : ℕ → List ℕ = λ j. cond (eqb j i) b.cells (w j).cells in
        placed x.cells
        ∙ laid-replace (keeper s) c (λ j. (w j).cells) (λ j kj. (x.fits j kj).size) i n b.cells cells₀ (kept-below i k) k fit.size enough
        ∙ laid_same (keeper s) c w' (λ j. (updated w i b j).cells) n cells₀ (λ j _ _. cases (eqb j i) (λ e. rw e refl) (λ e. rw e refl));
    fits = λ j kj. cases (eqb j i) (λ e. rw e fit) (λ e. rw e (x.fits j kj));
  }
    where
      placed : st.cells ≡ laid (keeper s) c (λ j. (w j).cells) n cells₀
          → replace_part n i b.cells st.cells ≡ replace (i * c) c b.cells (laid (keeper s) c (λ j. (w j).cells) n cells₀)
      placed e = ap (replace_part n i b.cells) e ∙ unfold replace_part replace in refl

  -- All boards do f.
  module _ (w : ℕ → Board) (st : Stage) (x : Holds w st) (f : ℕ → Board → Board) where
    abbrev next : ℕ → Board
    next i = f i (w i)

    abbrev partly : ℕ → ℕ → Board
    partly k i = cond (ltb i k) (next i) (w i)

    abbrev staged : ℕ → Stage
    staged k = on_stage h f k st

    turned : (k : ℕ) → keeps h k ≡ true → staged (suc k) ≡ put_board n k (f k (board_on n (staged k) k)) (staged k)
    unfolding on_stage
    turned k t = rw t refl

    left : (k : ℕ) → keeps h k ≡ false → staged (suc k) ≡ staged k
    unfolding on_stage
    left k t = rw t refl

    acts-upto : ((i : ℕ) → keeper s i ≡ true → Fit (next i)) → (k : ℕ) → k ≤ n → Holds (partly k) (staged k)
    acts-upto fit zero l = unfold on_stage in holds_same w (partly zero) st (λ i _. rw (le-ltb i 0 (omega arith)) refl) x
    acts-upto fit (suc k) l =
        let before = acts-upto fit k (omega arith) in
        let here : partly k k ≡ w k = rw (le-ltb k k (omega arith)) refl in
        cases (keeper s k)
        (λ e. let b = f k (board_on n (staged k) k) in
        let b-is : b ≡ next k = ap (f k) (look (partly k) (staged k) before k e ∙ here) in
        subst (Holds (partly (suc k))) (sym (turned k (sym (keeps-kept k (omega arith)) ∙ e)))
        (holds_same (updated (partly k) k b) (partly (suc k)) (put_board n k b (staged k))
        (λ i _. cases (eqb i k)
        (λ y. let same = eqb-true i k y in rw (y, lt-ltb i (suc k) (omega arith)) (b-is ∙ ap next (sym same)))
        (λ y. let ne = eqb-false i k y in
        cases (ltb i k)
        (λ z. let less = ltb-true i k z in rw (y, z, lt-ltb i (suc k) (omega arith)) refl)
        (λ z. let more = ltb-false i k z in rw (y, z, le-ltb i (suc k) (omega arith)) refl)))
        (put (partly k) (staged k) before k b e (fit_same b (next k) b-is (fit k e)))))
        (λ e. subst (Holds (partly (suc k))) (sym (left k (sym (keeps-kept k (omega arith)) ∙ e)))
        (holds_same (partly k) (partly (suc k)) (staged k)
        (λ i ki. cases (ltb i k)
        (λ z. let less = ltb-true i k z in rw (z, lt-ltb i (suc k) (omega arith)) refl)
        (λ z. let more = ltb-false i k z in
        let ne : i ≢ k = λ same. clash (ap (keeper s) (sym same) ∙ ki) e in
        rw (z, le-ltb i (suc k) (omega (arith, ne))) refl))
        before))

    acts-all : ((i : ℕ) → keeper s i ≡ true → Fit (next i)) → Holds next (staged n)
    acts-all fit = holds_same (partly n) next (staged n) (λ i k. rw (lt-ltb i n (kept-below i k)) refl) (acts-upto fit n (omega arith))

  -- The session of a sheet's frames.
  module _ (sound : Sound s) (fs : List Frame) where
    abbrev a : Adversary
    a = sheet_adversary current h fs

    abbrev start : Stage
    start = record { recs = replicate 7 void_record; cells = cells₀ }

    abbrev played : ℕ → Stage
    played j = play_steps h fs j start

    part-size : (i : ℕ) → keeper s i ≡ true → length (s.buffer i) ≡ c
    unfolding setting
    part-size i k = part_length n i cells₀ few (kept-below i k) room

    at-fits : (j i : ℕ) → keeper s i ≡ true → j ≤ steps h.plan → Fit (at s a j i)
    unfolding setting
    at-fits j i k l = record { width = at_width s a j i (kept-below i k); size = cells-kept s a sound j i k l ∙ part-size i k }

    unbegun : ℕ → Board
    unbegun i = board_with void_record (part n i cells₀)

    start-holds : Holds unbegun start
    unfolding unbegun part
    start-holds = record {
      recs = λ i k. get_or-replicate 7 i void_record no_record (omega (arith, kept-below i k, few));
      seven = refl;
      cells = sym (laid-own (keeper s) c n cells₀);
      fits = λ i k. record { width = refl; size = part_length n i cells₀ few (kept-below i k) room };
    }

    begin-is : (i : ℕ) → keeper s i ≡ true → begins h.plan i (unbegun i) ≡ at s a 0 i
    unfolding begins unbegun begun setting
    begin-is i k = sym (at-start s a i (kept-below i k))

    begun-holds : Holds (at s a 0) (played 0)
    unfolding play_steps
    begun-holds =
        holds_same _ (at s a 0) (played 0) begin-is
        (acts-all unbegun start start-holds (begins h.plan) (λ i k. fit_same _ _ (begin-is i k) (at-fits 0 i k (omega arith))))

    rounds-few : (rounds h.plan).0 ≤ 255
    unfolding setting
    rounds-few = omega (arith, rounds-most h.plan sound.accepted, few)

    -- In step j: what board i hears from the boards below q.
    module _ (j : ℕ) (inside : j < steps h.plan) where
      -- What is left of the frames.
      abbrev rest : List Frame
      rest = frames_left h.plan (suc j) fs

      abbrev heard : ℕ → ℕ → Board
      heard q i = take_all (told s a i j) (at s a j i) q

      mid : (q i : ℕ) → q ≤ n → keeper s i ≡ true → MidStep s a j i (heard q i)
      unfolding setting
      mid q i l k = part-heard s a sound j i q k inside l

      heard-fits : (q i : ℕ) → q ≤ n → keeper s i ≡ true → Fit (heard q i)
      unfolding setting
      heard-fits q i l k = let m = mid q i l k in record { width = m.width; size = m.size ∙ (at-fits j i k (omega arith)).size }

      faulty-heard : (q i : ℕ) (f : List ℕ) → q < n → keeper s i ≡ true → member q h.faulty ≡ true → hear_from h rest q f i (heard q i) ≡ heard (suc q) i
      unfolding hear_from take_all hears setting sheet_adversary
      faulty-heard q i f l k e =
          let m = mid q i (omega arith) k in
          let there = ap₂ (λ t u. find_frame t u q (heard q i).rec.board rest) m.run m.round
          ∙ ap (λ b. find_frame (step_run h.plan (suc j)) (step_round h.plan (suc j)) q b rest) m.board ∙ sought-left h.plan rounds-few j inside q i fs in
          ap (λ x. hand_in q x (heard q i)) (told-faulty h rest q f (heard q i) e) ∙ rw e (ap (λ x. hand_in q (decoded current x) (heard q i)) there)

      -- The dealer's frame.
      dealt-is : member h.plan.dealer h.faulty ≡ false → dealing current h.plan h.word ≡ taken (encode current (h.word ∷ []))
      unfolding dealing setting
      dealt-is e =
          let below = sound.word_below e in
          taken-first (judged h.plan) _ sound.accepted ∙ rw (lt-leb h.plan.span h.word below) refl

      dealer-heard : (q i : ℕ) (f : List ℕ) → member q h.faulty ≡ false → q ≡ h.plan.dealer → f ≡ dealt_frame h
          → hear_from h rest q f i (heard q i) ≡ heard (suc q) i
      unfolding hear_from take_all hears setting hand_in dealt_frame is_taken
      dealer-heard q i f e d ef =
          let t = dealt-is (subst (λ x. member x h.faulty ≡ false) d e) in
          let f-is : f ≡ encode current (h.word ∷ []) = ef ∙ ap (λ o. cond (is_taken o) o.values []) t in
          ap (λ x. hand_in q x (heard q i)) (told-healthy h rest q f (heard q i) e)
          ∙ rw (e, eq-eqb q h.plan.dealer d) (ap (λ x. (taking (heard q i) q x).board) (ap (decode current) f-is ∙ decode-encode current (h.word ∷ [])))

      -- There is room for every frame of a board of the code's width.
      roomy : (b : Board) → b.width ≡ current → frame_room b.width ≤ length (replicate {A = ℕ} (frame_room current) 0)
      roomy b e = subst (λ v. frame_room v ≤ length (replicate {A = ℕ} (frame_room current) 0)) (sym e) (omega (arith, length-replicate {A = ℕ} (frame_room current) 0))

      -- The frame of a board that keeps cells.
      written : (q : ℕ) (b : Board) → b.width ≡ current → Open b → q ≢ h.plan.dealer
          → (frame_from h q b ≡ encode current (frame_of b)) ⊎ ((sending b (replicate (frame_room current) 0)).answer.number ≢ 0)
      unfolding wire_of
      written q b e o ne =
          let r = b.rec in
          let out = replicate {A = ℕ} (frame_room current) 0 in
          cases (any (λ i. due r.plan r.board i r.round) r.plan.n)
          (λ x. let t = sends b out o (roomy b e) x in
          inl (sym (from-sender h q b (length (wire_of b)) out ne refl (sym t)) ∙ (sending-gives b out (length (wire_of b)) t).frame
          ∙ ap (λ v. encode v (frame_of b)) e))
          (λ x. inr (λ z. let y : ⊥ = omega (arith, sym (silent b out o x) ∙ z) in y))

      keeper-heard : (q i : ℕ) (f : List ℕ) → keeper s q ≡ true → keeper s i ≡ true → f ≡ frame_from h q (heard q q)
          → hear_from h rest q f i (heard q i) ≡ heard (suc q) i
      unfolding hear_from take_all hears setting hand_in at
      keeper-heard q i f kq ki ef =
          let (below, e, d) = keeper-facts s a sound q kq in
          let mq = mid q q (omega arith) kq in
          let mi = mid q i (omega arith) ki in
          let g = frame_of (at s a j q) in
          ap (λ x. hand_in q x (heard q i)) (told-healthy h rest q f (heard q i) e)
          ∙ rw (e, ne_eqb q h.plan.dealer d)
          (⊎_elim
          (λ x. ap (λ y. (taking (heard q i) q y).board) (ap (decode current) (ef ∙ x) ∙ decode-encode current (frame_of (heard q q)) ∙ mq.sends))
          (λ x. nothing q i f kq ki x ∙ sym (ap (λ y. (taking (heard q i) q y).board) (sym (decode-encode current g)) ∙ nothing q i (encode current g) kq ki x))
          (written q (heard q q) mq.width mq.opened d))
        where
          nothing : (q i : ℕ) (y : List ℕ) → keeper s q ≡ true → keeper s i ≡ true → (sending (heard q q) (replicate (frame_room current) 0)).answer.number ≢ 0
              → (taking (heard q i) q (decode current y)).board ≡ heard q i
          nothing q i y kq ki x =
              let (below, _, _) = keeper-facts s a sound q kq in
              let mq = mid q q (omega arith) kq in
              let mi = mid q i (omega arith) ki in
              subst₂ (λ b v. (taking (heard q i) b (decode v y)).board ≡ heard q i) mq.board mi.width
              (unfold receiving in unsent (heard q q) (heard q i) (replicate (frame_room current) 0) y mq.opened (roomy (heard q q) mq.width) (mi.plan ∙ sym mq.plan) (mi.round ∙ sym mq.round) x)

      -- Every board has heard one board more.
      one-heard : (q i : ℕ) (st : Stage) → q < n → Holds (heard q) st → keeper s i ≡ true
          → hear_from h rest q (frame_from h q (board_on n st q)) i (heard q i) ≡ heard (suc q) i
      one-heard q i st l x k =
          let f = frame_from h q (board_on n st q) in
          cases (member q h.faulty)
          (λ e. faulty-heard q i f l k e)
          (λ e. cases (eqb q h.plan.dealer)
          (λ d. let same = eqb-true q h.plan.dealer d in dealer-heard q i f e same (sym (from-dealer h q (board_on n st q) same)))
          (λ d. let kq : keeper s q ≡ true = unfold keeper setting in rw (lt-ltb q n l, e, d) refl in
          keeper-heard q i f kq k (ap (frame_from h q) (look (heard q) st x q kq))))

      sender-holds : (q : ℕ) (st : Stage) → q < n → Holds (heard q) st → Holds (heard (suc q)) (hear_sender h rest q st)
      unfolding hear_sender
      sender-holds q st l x =
          let f = hear_from h rest q (frame_from h q (board_on n st q)) in
          holds_same _ (heard (suc q)) _ (λ i k. one-heard q i st l x k)
          (acts-all (heard q) st x f (λ i k. fit_same _ _ (one-heard q i st l x k) (heard-fits (suc q) i l k)))

      heard-holds : (st : Stage) → Holds (at s a j) st → (q : ℕ) → q ≤ n → Holds (heard q) (hear_senders h rest q st)
      unfolding hear_senders take_all
      heard-holds st x zero l = x
      heard-holds st x (suc q) l = sender-holds q (hear_senders h rest q st) l (heard-holds st x q (omega arith))

      closed_is : (i : ℕ) → keeper s i ≡ true → closes i (heard n i) ≡ at s a (suc j) i
      unfolding closes setting
      closed_is i k = sym (at_next s a i j (kept-below i k))

      step-holds : Holds (at s a j) (played j) → Holds (at s a (suc j)) (played (suc j))
      unfolding play_steps play_step
      step-holds x =
          holds_same _ (at s a (suc j)) (played (suc j)) closed_is
          (acts-all (heard n) (hear_senders h rest n (played j)) (heard-holds (played j) x n (omega arith)) closes
          (λ i k. fit_same _ _ (closed_is i k) (at-fits (suc j) i k inside)))

    played-holds : (j : ℕ) → j ≤ steps h.plan → Holds (at s a j) (played j)
    played-holds zero l = begun-holds
    played-holds (suc j) l = step-holds j l (played-holds j (omega arith))

    pub final-stage : Holds (at s a (steps h.plan)) (played (steps h.plan))
    final-stage = played-holds (steps h.plan) (omega arith)

    -- The cells at the end.
    final-laid : (k : ℕ) → k ≤ n → laid (keeper s) c (λ i. (at s a (steps h.plan) i).cells) k cells₀ ≡ final_cells h (final_boards current h fs cells₀) k cells₀
    unfolding laid final_cells final_boards keeper setting at replace_part replace
    final-laid zero l = refl
    final-laid (suc k) l =
        let rest = final-laid k (omega arith) in
        let w = final_boards current h fs cells₀ in
        cases (member k h.faulty)
        (λ e. rw (e, lt-ltb k n l) rest)
        (λ e. cases (eqb k h.plan.dealer)
        (λ d. rw (e, d, lt-ltb k n l) rest)
        (λ d. rw (e, d, lt-ltb k n l) (ap (replace (k * c) c (board_at w k).cells) rest)))

    pub final-cells : (played (steps h.plan)).cells ≡ final_cells h (final_boards current h fs cells₀) n cells₀
    final-cells = final-stage.cells ∙ final-laid n (omega arith)

    pub final-record : (i : ℕ) → keeper s i ≡ true → get_or (played (steps h.plan)).recs i no_record ≡ (board_at (final_boards current h fs cells₀) i).rec
    unfolding final_boards at
    final-record i k = final-stage.recs i k
