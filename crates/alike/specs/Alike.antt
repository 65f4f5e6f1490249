-- Plans that differ in their lists of sets alone, where both are judged the same and tolerate the same sets, and what is claimed of the calls
-- on them and of sheets with them.
use Rattle.std.specs.Prelude.{ℕ, ◌≡◌, cond, List}
use Rattle.std.proofs.Math.Option.{Option}
use Rattle.codec.specs.Codec.{Width}
use Rattle.sets.specs.Structure.{holder, tolerated}
use Rattle.plan.specs.declared.plan.Plan.{Plan}
use Rattle.plan.specs.Listed.{listed}
use Rattle.plan.specs.Calls.{judged}
use Rattle.protocol.specs.declared.records.Record.{Record}
use Rattle.protocol.specs.Rounds.{Board, onto}
use Rattle.sheet.specs.declared.head.Head.{Head}
use Rattle.sheet.specs.Sheet.{Frame, Line, Reading, read_frames}
use Rattle.sheet.specs.Playing.{play_head}
use Rattle.protocol.specs.Calls.{Result, is_taken, beginning, dealing, receiving, sending, closing, deciding}

pub record Alike (p q : Plan) : Type 0 where
  pub n : p.n ≡ q.n
  pub dealer : p.dealer ≡ q.dealer
  pub span : p.span ≡ q.span
  pub default : p.default ≡ q.default
  pub depth : p.depth ≡ q.depth
  pub tolerate : (a : ℕ) → tolerated (listed p) a ≡ tolerated (listed q) a
  -- planning says the same of both: the same number, and for 5 the same places
  pub judged : judged p ≡ judged q

-- A record, a board, and what a call leaves, with another plan.
abbrev pub on_plan : Plan → Record → Record
on_plan p r = record {
  plan = p;
  board = r.board;
  run = r.run;
  round = r.round;
  list = r.list;
  marks = r.marks;
  decided = r.decided;
  decision = r.decision;
}

abbrev pub board_on : Plan → Board → Board
board_on p b = onto b (on_plan p b.rec) b.cells

abbrev pub result_on : Plan → Result → Result
result_on p x = record { answer = x.answer; board = board_on p x.board }

-- What a beginning leaves, with another plan. Beside a refusal it is the void record, whose plan is the void one.
abbrev pub begun_on : Plan → Result → Result
begun_on p x = record { answer = x.answer; board = cond (is_taken x.answer) (board_on p x.board) x.board }

-- Every call on the one plan is the call on the other, the plan itself apart: the same answer, record, cells and bytes.
pub record SameCalls (p q : Plan) : Type 0 where
  pub beginning : (w : Width) (i : ℕ) (cells : List ℕ) → beginning w q i cells ≡ begun_on q (beginning w p i cells)
  pub dealing : (w : Width) (v : ℕ) → dealing w q v ≡ dealing w p v
  pub receiving : (b : Board) (s : ℕ) (f : List ℕ) → receiving (board_on q b) s f ≡ result_on q (receiving (board_on p b) s f)
  pub sending : (b : Board) (out : List ℕ) → sending (board_on q b) out ≡ sending (board_on p b) out
  pub closing : (b : Board) → closing (board_on q b) ≡ result_on q (closing (board_on p b))
  pub deciding : (r : Record) → deciding (on_plan q r) ≡ deciding (on_plan p r)

abbrev pub AlikeCalls : Type 0
AlikeCalls = (p q : Plan) → Alike p q → SameCalls p q

-- Heads with such plans, where each set has the same place in both lists, and which are otherwise the same.
pub record AlikeHeads (g h : Head) : Type 0 where
  pub plan : Alike g.plan h.plan
  pub hold : (a : ℕ) → holder (listed g.plan) a ≡ holder (listed h.plan) a
  pub faulty : g.faulty ≡ h.faulty
  pub word : g.word ≡ h.word

-- What was read of a sheet, with another head.
abbrev pub reading_on : Head → Reading → Reading
reading_on h r = record { answer = r.answer; head = h; frames = r.frames }

-- Their sheets are read and played the same: every byte that is printed, and every cell.
pub record SamePlays (g h : Head) : Type 0 where
  pub reading : (before : Option Frame) (line : ℕ) (ls : List Line) → read_frames h before line ls ≡ reading_on h (read_frames g before line ls)
  pub playing : (w : Width) (fs : List Frame) (cells out : List ℕ) → play_head w h fs cells out ≡ play_head w g fs cells out

abbrev pub AlikePlays : Type 0
AlikePlays = (g h : Head) → AlikeHeads g h → SamePlays g h
