-- The six calls of a board: from all inputs to the answer, the record, every lent cell and every lent byte.
use Rattle.std.specs.Prelude.{ℕ, Bool, true, false, not, ◌&&◌, ◌||◌, cond, List, [], ◌∷◌, ◌++◌, eqb, leb, ltb, length, drop}
use Rattle.codec.specs.Codec.{Width, encode, decode}
use Rattle.sets.specs.Search.{any}
use Rattle.sets.specs.Sets.{member, within, boards}
use Rattle.plan.specs.declared.plan.Plan.{Plan}
use Rattle.schedule.specs.Schedule.{rounds, has_round}
use Rattle.refusals.specs.Outcome.{Outcome, taken, refused, and_then}
use Rattle.plan.specs.Calls.{judged, void_plan}
use Rattle.tree.specs.Places.{cell_count}
use Rattle.protocol.specs.declared.records.Entry.{Entry}
use Rattle.protocol.specs.declared.records.Record.{Record}
use Rattle.protocol.specs.Listing.{no_entries, entry_at, level_of, as_set}
use Rattle.protocol.specs.Records.{standing_at}
use Rattle.protocol.specs.Nodes.{due, frame}
use Rattle.protocol.specs.Rounds.{board_of, Board, receive, cleared, close}

-- What a call on a board leaves: the answer, and the board.
pub record Result : Type 0 where
  pub answer : Outcome
  pub board : Board

-- What writing a frame leaves: the answer, and the output.
pub record Output : Type 0 where
  pub answer : Outcome
  pub out : List ℕ

-- Is this the answer of a call that is taken? Where it is not, the call changes nothing.
unfoldable pub is_taken : Outcome → Bool
is_taken o = eqb o.number 0

-- 9: "number not below n"; 10: "it is d".
unfoldable pub judge_number : Plan → ℕ → Outcome
judge_number p i = cond (leb p.n i) (refused 9) (taken [])

unfoldable pub judge_other : Plan → ℕ → Outcome
judge_other p i = cond (eqb i p.dealer) (refused 10) (taken [])

unfoldable pub judge_board : Plan → ℕ → Outcome
judge_board p i = and_then (judge_number p i) (judge_other p i)

-- 11: "cells too few".
unfoldable pub judge_cells : Plan → List ℕ → Outcome
judge_cells p cells = cond (ltb (length cells) (cell_count p.n)) (refused 11) (taken [])

-- 12: "a record whose plan or board would meet 1 to 10, whose run or round the plan lacks, that lists or marks board n or above,
-- or that is decided with a decision not below m". 26 is among what a plan would meet (02 b). Each ground is one test.
unfoldable pub good_plan : Record → Bool
good_plan r = is_taken (judged r.plan)

unfoldable pub good_number : Record → Bool
good_number r = is_taken (judge_number r.plan r.board)

unfoldable pub good_other : Record → Bool
good_other r = is_taken (judge_other r.plan r.board)

unfoldable pub good_position : Record → Bool
good_position r = has_round r.plan r.run r.round

unfoldable pub good_marks : Record → Bool
good_marks r = within (as_set r.list) (boards r.plan.n) && within r.marks (boards r.plan.n)

-- 02 d: "a record with an entry whose run and round the plan lacks, or whose level is not 1 to R − 1, falls under number 12".
unfoldable pub good_entry : Plan → Entry → Bool
good_entry p Entry.Nothing = true
good_entry p (Entry.Listed t k rule) = has_round p t k && (ltb 0 (level_of rule) && ltb (level_of rule) (rounds p).0)

unfoldable pub good_entries : Record → Bool
good_entries r = not (any (λ i. not (good_entry r.plan (entry_at r.list i))) 7)

unfoldable pub good_decision : Record → Bool
good_decision r = not r.decided || ltb r.decision r.plan.span

unfoldable pub good_record : Record → Bool
good_record r = (good_plan r && (good_number r && good_other r)) && (good_position r && (good_marks r && (good_entries r && good_decision r)))

unfoldable pub judge_record : Record → Outcome
judge_record r = cond (good_record r) (taken []) (refused 12)

-- 13: "already decided".
abbrev pub judge_decided : Bool → Outcome
judge_decided decided = cond decided (refused 13) (taken [])

-- 12, 11, 13: what handing in, writing and closing judge first.
unfoldable pub judge_open : Board → Outcome
judge_open b = and_then (judge_record b.rec) (and_then (judge_cells b.rec.plan b.cells) (judge_decided b.rec.decided))

-- The record of a board that begins: run 1, round 1, nothing listed or marked.
unfoldable pub fresh_record : Plan → ℕ → Record
fresh_record p i = standing_at p i (record { 0 = 1 }) (record { 0 = 1 }) no_entries

-- The record beside a refused beginning: everything 0 and nobody listed, so that every call on it is number 12.
unfoldable pub void_record : Record
void_record = record {
  plan = void_plan;
  board = 0;
  run = record { 0 = 0 };
  round = record { 0 = 0 };
  list = no_entries;
  marks = 0;
  decided = false;
  decision = 0;
}

-- 01, 'Beginning a board': 1 to 7, 26 (02 b), 8, then 9, 10, 11. Its cells hold no value; surplus cells are not touched.
unfoldable pub judge_beginning : Plan → ℕ → List ℕ → Outcome
judge_beginning p i cells = and_then (judged p) (and_then (judge_board p i) (judge_cells p cells))

unfoldable pub beginning : Width → Plan → ℕ → List ℕ → Result
beginning w p i cells =
    let answer = judge_beginning p i cells in
    let begun : Board = board_of w (fresh_record p i) (cleared w p.n cells) in
    let kept : Board = board_of w void_record cells in
    record { answer = answer; board = cond (is_taken answer) begun kept }

-- 01, 'Dealer's frame': 1 to 7, 26 (02 b), 8, then 18. The frame has one value.
unfoldable pub dealing : Width → Plan → ℕ → Outcome
dealing w p v = and_then (judged p) (cond (leb p.span v) (refused 18) (taken (encode w (v ∷ []))))

-- 01, 'Handing in': 12, 11, 13, 14, 15.
unfoldable pub judge_receiving : Board → ℕ → Outcome
judge_receiving b q =
    let r = b.rec in
    and_then (judge_open b)
    (cond (due r.plan q r.board r.round) (cond (member q r.marks) (refused 15) (taken [])) (refused 14))

-- The values of board q's frame.
unfoldable pub taking : Board → ℕ → List ℕ → Result
taking b q vs =
    let answer = judge_receiving b q in
    let next = receive q vs b in
    record { answer = answer; board = cond (is_taken answer) next b }

-- Its bytes.
unfoldable pub receiving : Board → ℕ → List ℕ → Result
receiving b q f = taking b q (decode b.width f)

-- The frame that a board sends in its round: its values, and its bytes.
unfoldable pub frame_of : Board → List ℕ
frame_of b = let r = b.rec in frame r.plan r.board r.board r.round b.cells

unfoldable pub wire_of : Board → List ℕ
wire_of b = encode b.width (frame_of b)

-- 01, 'Writing a frame': 12, 11, 13, then 16, 17. Output past what is written is not touched.
unfoldable pub judge_sending : Board → List ℕ → Outcome
judge_sending b out =
    let r = b.rec in
    let f = wire_of b in
    and_then (judge_open b)
    (cond (any (λ i. due r.plan r.board i r.round) r.plan.n)
    (cond (ltb (length out) (length f)) (refused 17) (taken (length f ∷ [])))
    (refused 16))

unfoldable pub sending : Board → List ℕ → Output
sending b out =
    let answer = judge_sending b out in
    let written = wire_of b ++ drop (length (wire_of b)) out in
    record { answer = answer; out = cond (is_taken answer) written out }

-- 01, 'Closing': 12, 11, 13. It answers the run and the round that are open now, or that the board has decided.
unfoldable pub closed_values : Record → List ℕ
closed_values r = cond r.decided [] (r.run.0 ∷ r.round.0 ∷ [])

unfoldable pub closing : Board → Result
closing b =
    let judgement = judge_open b in
    let next = close b in
    let answer = and_then judgement (taken (closed_values next.rec)) in
    record { answer = answer; board = cond (is_taken judgement) next b }

-- 01, 'Reading the decision': 12, then 19.
unfoldable pub deciding : Record → Outcome
deciding r = and_then (judge_record r) (cond r.decided (taken (r.decision ∷ [])) (refused 19))
