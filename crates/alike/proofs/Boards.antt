-- Every call on a plan is the call on an alike plan.
-- Each law takes the definition's own text along the paths of the parts that read the plan.
-- Assumes nothing.
use Prim.Native.Nat.{ℕ, zero, suc, ◌+◌, ◌-◌}
use mathlib.Core.Path.{◌≡◌, refl, sym, ◌∙◌}
use mathlib.Core.Bool.{Bool, true, false, not, ◌&&◌, ◌||◌, cond}
use mathlib.Core.List.{List, [], ◌∷◌, ◌++◌}
use lib.Dec.{eqb, leb, ltb}
use lib.ListN.{length, drop}
use Rattle.codec.specs.Codec.{Width, encode, decode}
use Rattle.sets.specs.Search.{any}
use Rattle.sets.specs.Sets.{member, within, boards}
use Rattle.plan.specs.declared.plan.Plan.{Plan}
use Rattle.schedule.specs.declared.rounds.Round.{Round}
use Rattle.schedule.specs.Schedule.{rounds}
use Rattle.refusals.specs.Outcome.{taken, refused, and_then}
use Rattle.tree.specs.Labels.{Label}
use Rattle.tree.specs.Places.{cell_count}
use Rattle.tree.specs.Cells.{store}
use Rattle.protocol.specs.declared.records.Record.{Record}
use Rattle.protocol.specs.declared.records.Entry.{Entry}
use Rattle.protocol.specs.declared.records.Slot.{Slot}
use Rattle.protocol.specs.Listing.{entry_at, level_of, as_set}
use Rattle.protocol.specs.Records.{marked, advanced, run_ended}
use Rattle.protocol.specs.Detection.{Scan}
use Rattle.protocol.specs.Rounds.{Board, board_of, onto, fill, counted, receive, fill_missing, copy_own, gather, root_only, cleared, next_round, convert, close}
use Rattle.protocol.specs.Calls.{is_taken, judge_number, judge_other, judge_board, judge_cells, good_plan, good_number, good_other, good_position, good_marks, good_entry, good_entries, good_decision, good_record, judge_record, judge_decided, judge_open, fresh_record, void_record, judge_beginning, beginning, dealing, judge_receiving, taking, receiving, frame_of, wire_of, judge_sending, sending, closed_values, closing, deciding}
use Rattle.alike.specs.Alike.{Alike, on_plan, board_on, result_on, begun_on, AlikeCalls}
use Rattle.alike.proofs.Trees.{rounds-alike, runs-alike, has-round-alike, default_alike, value-alike, inner-alike, sent-alike, due-alike, frame-alike}
use Rattle.alike.proofs.Detections.{root_alike, detect-all-g-alike, levels-alike}

-- A board by a test, with another plan.
board-by : (p : Plan) (b : Bool) (x y : Board) → board_on p (cond b x y) ≡ cond b (board_on p x) (board_on p y)
board-by p true x y = refl
board-by p false x y = refl

begun-by : (p : Plan) (b : Bool) (x y : Board) → cond b (board_on p (cond b x y)) (cond b x y) ≡ cond b (board_on p x) y
begun-by p true x y = refl
begun-by p false x y = refl

module _ (p q : Plan) (a : Alike p q) where
  -- Judgements.
  number-alike : (i : ℕ) → judge_number p i ≡ judge_number q i
  unfolding judge_number
  number-alike i = λ j. cond (leb (a.n j) i) (refused 9) (taken [])

  other-alike : (i : ℕ) → judge_other p i ≡ judge_other q i
  unfolding judge_other
  other-alike i = λ j. cond (eqb i (a.dealer j)) (refused 10) (taken [])

  cells-alike : (cells : List ℕ) → judge_cells p cells ≡ judge_cells q cells
  unfolding judge_cells
  cells-alike cells = λ j. cond (ltb (length cells) (cell_count (a.n j))) (refused 11) (taken [])

  entry-alike : (e : Entry) → good_entry p e ≡ good_entry q e
  unfolding good_entry
  entry-alike Entry.Nothing = refl
  entry-alike (Entry.Listed t k rule) = λ j. has-round-alike p q a t k j && (ltb 0 (level_of rule) && ltb (level_of rule) (rounds-alike p q a j).0)

  entries-alike : (r : Record) → good_entries (on_plan p r) ≡ good_entries (on_plan q r)
  unfolding good_entries
  entries-alike r = λ j. not (any (λ i. not (entry-alike (entry_at r.list i) j)) 7)

  good-alike : (r : Record) → good_record (on_plan p r) ≡ good_record (on_plan q r)
  unfolding good_record good_plan good_number good_other good_position good_marks good_decision
  good-alike r = λ j.
      (is_taken (a.judged j) && (is_taken (number-alike r.board j) && is_taken (other-alike r.board j)))
      && (has-round-alike p q a r.run r.round j
      && ((within (as_set r.list) (boards (a.n j)) && within r.marks (boards (a.n j)))
      && (entries-alike r j && (not r.decided || ltb r.decision (a.span j)))))

  record-alike : (r : Record) → judge_record (on_plan p r) ≡ judge_record (on_plan q r)
  unfolding judge_record
  record-alike r = λ j. cond (good-alike r j) (taken []) (refused 12)

  open-alike : (b : Board) → judge_open (board_on p b) ≡ judge_open (board_on q b)
  unfolding judge_open
  open-alike b = λ j. and_then (record-alike b.rec j) (and_then (cells-alike b.cells j) (judge_decided b.rec.decided))

  beginning-alike : (i : ℕ) (cells : List ℕ) → judge_beginning p i cells ≡ judge_beginning q i cells
  unfolding judge_beginning judge_board
  beginning-alike i cells = λ j. and_then (a.judged j) (and_then (and_then (number-alike i j) (other-alike i j)) (cells-alike cells j))

  -- What a taken call does.
  fill-alike : (s : ℕ) (αs : List Label) (vs cells : List ℕ) → fill p s αs vs cells ≡ fill q s αs vs cells
  unfolding fill
  fill-alike s [] vs cells = refl
  fill-alike s (α ∷ αs) [] cells = λ j. fill-alike s αs [] (store (a.n j) cells (s ∷ α) (default_alike p q a j)) j
  fill-alike s (α ∷ αs) (v ∷ vs) cells = λ j. fill-alike s αs vs (store (a.n j) cells (s ∷ α) (value-alike p q a v j)) j

  missing-alike : (i : ℕ) (k : Round) (marks s : ℕ) (cells : List ℕ) → fill_missing p i k marks s cells ≡ fill_missing q i k marks s cells
  unfolding fill_missing
  missing-alike i k marks zero cells = refl
  missing-alike i k marks (suc s) cells = λ j.
      let before = missing-alike i k marks s cells j in
      let stored = fill-alike s (sent-alike p q a s i k j) [] before j in
      cond (due-alike p q a s i k j && not (member s marks)) stored before

  own-alike : (i : ℕ) (k : Round) (cells : List ℕ) → copy_own p i k cells ≡ copy_own q i k cells
  unfolding copy_own
  own-alike i k cells = λ j. fill-alike i (sent-alike p q a i i k j) (frame-alike p q a i i k cells j) cells j

  gather-alike : (b : Board) → gather (board_on p b) ≡ gather (board_on q b)
  unfolding gather
  gather-alike b = λ j.
      let r = b.rec in
      let i = r.board in
      let k = r.round in
      detect-all-g-alike p q a i r.run k (inner-alike p q a i (k.0 - 1) j)
      (record { list = r.list; cells = own-alike i k (missing-alike i k r.marks (a.n j) b.cells j) j }) j

  receive-alike : (b : Board) (s : ℕ) (vs : List ℕ) → receive s vs (board_on q b) ≡ board_on q (receive s vs (board_on p b))
  unfolding receive
  receive-alike b s vs = sym (λ j.
      let r = b.rec in
      let αs = sent-alike p q a s r.board r.round j in
      onto b (marked s (on_plan q r)) (fill-alike s αs (counted r.list s αs vs) b.cells j))

  ended-alike : (r : Record) (list : List Slot) (root : ℕ) → run_ended (on_plan q r) list root ≡ on_plan q (run_ended (on_plan p r) list root)
  unfolding run_ended
  ended-alike r list root = sym (λ j.
      let last = eqb r.run.0 (runs-alike p q a j).0 in
      record {
        plan = q;
        board = r.board;
        run = record { 0 = cond last r.run.0 (r.run.0 + 1) };
        round = record { 0 = cond last r.round.0 2 };
        list = list;
        marks = 0;
        decided = last;
        decision = cond last root 0;
      })

  convert-alike : (b : Board) (s : Scan) → convert (board_on q b) s ≡ board_on q (convert (board_on p b) s)
  unfolding convert
  convert-alike b s = sym (λ j.
      let r = b.rec in
      let root = root_alike p q a r.board s.cells j in
      let list = levels-alike p q a r.board r.run r.round s.cells ((rounds-alike p q a j).0 - 1) s.list j in
      onto b (sym (ended-alike r list root) j) (root_only b.width (a.n j) root s.cells))

  close-alike : (b : Board) → close (board_on q b) ≡ board_on q (close (board_on p b))
  unfolding close next_round
  close-alike b = sym (board-by q (ltb b.rec.round.0 (rounds p).0) _ _ ∙ (λ j.
      let s = gather-alike b j in
      cond (ltb b.rec.round.0 (rounds-alike p q a j).0)
      (onto b (advanced (on_plan q b.rec) s.list) s.cells)
      (sym (convert-alike b s) j)))

  -- The calls.
  pub begins-alike : (w : Width) (i : ℕ) (cells : List ℕ) → beginning w q i cells ≡ begun_on q (beginning w p i cells)
  unfolding beginning fresh_record
  begins-alike w i cells =
      let fresh = board_of w (fresh_record p i) (cleared w p.n cells) in
      let kept = board_of w void_record cells in
      let once : begun_on q (beginning w p i cells)
      ≡ record { answer = judge_beginning p i cells; board = cond (is_taken (judge_beginning p i cells)) (board_on q fresh) kept } =
      λ j. record { answer = judge_beginning p i cells; board = begun-by q (is_taken (judge_beginning p i cells)) fresh kept j } in
      let over : record { answer = judge_beginning p i cells; board = cond (is_taken (judge_beginning p i cells)) (board_on q fresh) kept }
      ≡ beginning w q i cells =
      λ j. record {
        answer = beginning-alike i cells j;
        board = cond (is_taken (beginning-alike i cells j)) (board_of w (fresh_record q i) (cleared w (a.n j) cells)) kept;
      } in
      sym (once ∙ over)

  deals-alike : (w : Width) (v : ℕ) → dealing w q v ≡ dealing w p v
  unfolding dealing
  deals-alike w v = sym (λ j. and_then (a.judged j) (cond (leb (a.span j) v) (refused 18) (taken (encode w (v ∷ [])))))

  judge-receiving-alike : (b : Board) (s : ℕ) → judge_receiving (board_on p b) s ≡ judge_receiving (board_on q b) s
  unfolding judge_receiving
  judge-receiving-alike b s = λ j.
      let r = b.rec in
      and_then (open-alike b j)
      (cond (due-alike p q a s r.board r.round j) (cond (member s r.marks) (refused 15) (taken [])) (refused 14))

  pub takes-alike : (b : Board) (s : ℕ) (vs : List ℕ) → taking (board_on q b) s vs ≡ result_on q (taking (board_on p b) s vs)
  unfolding taking
  takes-alike b s vs =
      let judged-p = judge_receiving (board_on p b) s in
      let next = receive s vs (board_on p b) in
      let once : result_on q (taking (board_on p b) s vs)
      ≡ record { answer = judged-p; board = cond (is_taken judged-p) (board_on q next) (board_on q b) } =
      λ j. record { answer = judged-p; board = board-by q (is_taken judged-p) next (board_on p b) j } in
      let over : record { answer = judged-p; board = cond (is_taken judged-p) (board_on q next) (board_on q b) } ≡ taking (board_on q b) s vs =
      λ j. record {
        answer = judge-receiving-alike b s j;
        board = cond (is_taken (judge-receiving-alike b s j)) (sym (receive-alike b s vs) j) (board_on q b);
      } in
      sym (once ∙ over)

  receives-alike : (b : Board) (s : ℕ) (f : List ℕ) → receiving (board_on q b) s f ≡ result_on q (receiving (board_on p b) s f)
  unfolding receiving
  receives-alike b s f = takes-alike b s (decode b.width f)

  pub frame-of-alike : (b : Board) → frame_of (board_on p b) ≡ frame_of (board_on q b)
  unfolding frame_of
  frame-of-alike b = λ j. let r = b.rec in frame-alike p q a r.board r.board r.round b.cells j

  wire-alike : (b : Board) → wire_of (board_on p b) ≡ wire_of (board_on q b)
  unfolding wire_of
  wire-alike b = λ j. encode b.width (frame-of-alike b j)

  judge-sending-alike : (b : Board) (out : List ℕ) → judge_sending (board_on p b) out ≡ judge_sending (board_on q b) out
  unfolding judge_sending
  judge-sending-alike b out = λ j.
      let r = b.rec in
      let f = wire-alike b j in
      and_then (open-alike b j)
      (cond (any (λ i. due-alike p q a r.board i r.round j) (a.n j))
      (cond (ltb (length out) (length f)) (refused 17) (taken (length f ∷ [])))
      (refused 16))

  sends-alike : (b : Board) (out : List ℕ) → sending (board_on q b) out ≡ sending (board_on p b) out
  unfolding sending
  sends-alike b out =
      let over : sending (board_on p b) out ≡ sending (board_on q b) out =
      λ j. record {
        answer = judge-sending-alike b out j;
        out = cond (is_taken (judge-sending-alike b out j)) (wire-alike b j ++ drop (length (wire-alike b j)) out) out;
      } in
      sym over

  pub closes-alike : (b : Board) → closing (board_on q b) ≡ result_on q (closing (board_on p b))
  unfolding closing closed_values
  closes-alike b =
      let judged-p = judge_open (board_on p b) in
      let next = close (board_on p b) in
      let answer = and_then judged-p (taken (closed_values next.rec)) in
      let once : result_on q (closing (board_on p b)) ≡ record { answer = answer; board = cond (is_taken judged-p) (board_on q next) (board_on q b) } =
      λ j. record { answer = answer; board = board-by q (is_taken judged-p) next (board_on p b) j } in
      let over : record { answer = answer; board = cond (is_taken judged-p) (board_on q next) (board_on q b) } ≡ closing (board_on q b) =
      λ j. record {
        answer = and_then (open-alike b j) (taken (closed_values (sym (close-alike b) j).rec));
        board = cond (is_taken (open-alike b j)) (sym (close-alike b) j) (board_on q b);
      } in
      sym (once ∙ over)

  decides-alike : (r : Record) → deciding (on_plan q r) ≡ deciding (on_plan p r)
  unfolding deciding
  decides-alike r = sym (λ j. and_then (record-alike r j) (cond r.decided (taken (r.decision ∷ [])) (refused 19)))

pub alike-calls : AlikeCalls
alike-calls p q a = record {
  beginning = begins-alike p q a;
  dealing = deals-alike p q a;
  receiving = receives-alike p q a;
  sending = sends-alike p q a;
  closing = closes-alike p q a;
  deciding = decides-alike p q a;
}
