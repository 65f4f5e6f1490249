-- No call answers with number 2: none of the tests that a call makes has it.
-- Assumes nothing.
use Prim.Native.Nat.{ℕ, suc}
use mathlib.Core.Path.{◌≡◌, refl, sym, subst}
use mathlib.Core.Logic.{◌≢◌}
use mathlib.Core.Bool.{Bool, true, false, not, ◌&&◌, ◌||◌, cond}
use mathlib.Core.List.{List, [], ◌∷◌}
use mathlib.Core.Option.{Option, some, none}
use native.Mathlib.Omega.{arith}
use lib.Dec.{eqb, leb, ltb}
use lib.ListN.{length}
use borrow.Author.Tests.{eqb-true, eqb-false}
use Rattle.codec.specs.Codec.{Width, encode}
use Rattle.sets.specs.Search.{any}
use Rattle.sets.specs.Sets.{member, within, boards}
use Rattle.sets.specs.Structure.{tolerated}
use Rattle.sets.proofs.Tests.{cases}
use Rattle.refusals.specs.Outcome.{Outcome, taken, refused, refused_at, and_then}
use Rattle.refusals.proofs.Outcomes.{either-other, both-other}
use Rattle.covering.specs.Cover.{covered, places, covering}
use Rattle.admission.specs.Calls.{strays, admitting}
use Rattle.settings.specs.declared.settings.Settings.{Settings}
use Rattle.settings.specs.Planning.{is_depth, judge_settings, planning}
use Rattle.plan.specs.declared.plan.Plan.{Plan}
use Rattle.plan.specs.Listed.{listed}
use Rattle.plan.specs.Calls.{judged, settings_of}
use Rattle.tree.specs.Places.{cell_count}
use Rattle.protocol.specs.declared.records.Record.{Record}
use Rattle.protocol.specs.Limits.{sheet_most, output_needed, cells_needed}
use Rattle.protocol.specs.Nodes.{due}
use Rattle.protocol.specs.Rounds.{Board, close}
use Rattle.protocol.specs.Calls.{judge_number, judge_other, judge_board, judge_cells, good_record, judge_record, judge_open, judge_beginning, beginning, dealing, judge_receiving, taking, receiving, wire_of, judge_sending, sending, closed_values, closing, deciding}
use Rattle.sheet.specs.declared.head.Head.{Head}
use Rattle.sheet.specs.Sheet.{Line, lines, line_bytes, head_length, head_boards, head_count, head_sets, head_settings, head_faulty, head_word, head_of, Frame, frame_line, good_frame, Reading, read_frames, add_frame, judge_head, read_head, read_lines, reading, refused_reading, wrong_at}
use Rattle.sheet.specs.Playing.{Play, refused_play, play_head, playing}
use Rattle.protocol.proofs.Judgement.{open-other}
use Rattle.sheet.proofs.Sheets.{frames-text, frames-wrong, frames-right, head-right, head-wrong, lines-text, lines-head}
use Rattle.empty_list.specs.Number2.{NeverTwo}

-- An answer without number 2.
abbrev Other : Outcome → Type 0
Other o = o.number ≢ 2

admits : (n count : ℕ) (sets : List ℕ) → Other (admitting n count sets)
unfolding admitting covering
admits n count sets =
    either-other (eqb n 0 || ltb 7 n) (refused 1) _ (omega arith)
    (either-other (ltb 32 count) (refused 3) _ (omega arith)
    (either-other (strays n sets) (refused 4) _ (omega arith)
    (either-other (covered n sets) (refused_at (places n sets)) (taken []) (omega arith) (omega arith))))

plans : (n count : ℕ) (sets : List ℕ) (s : Settings) → Other (planning n count sets s)
unfolding planning judge_settings
plans n count sets s =
    both-other (admitting n count sets) _ (admits n count sets)
    (either-other (leb n s.dealer) (refused 6) _ (omega arith)
    (either-other (ltb s.span 2) (refused 7) _ (omega arith)
    (either-other (leb s.span s.default) (refused 26) _ (omega arith)
    (either-other (not (is_depth s.depth)) (refused 8) (taken []) (omega arith) (omega arith)))))

judges : (p : Plan) → Other (judged p)
unfolding judged
judges p = plans p.n p.count (listed p) (settings_of p)

judges-cells : (p : Plan) (cells : List ℕ) → Other (judge_cells p cells)
unfolding judge_cells
judges-cells p cells = either-other (ltb (length cells) (cell_count p.n)) (refused 11) (taken []) (omega arith) (omega arith)

judges-record : (r : Record) → Other (judge_record r)
unfolding judge_record
judges-record r = either-other (good_record r) (taken []) (refused 12) (omega arith) (omega arith)

opens : (b : Board) → Other (judge_open b)
opens b = open-other b 2 (omega arith) (omega arith) (omega arith) (omega arith)

begins : (w : Width) (p : Plan) (i : ℕ) (cells : List ℕ) → Other (beginning w p i cells).answer
unfolding beginning judge_beginning judge_board judge_number judge_other
begins w p i cells =
    both-other (judged p) _ (judges p)
    (both-other (judge_board p i) (judge_cells p cells)
    (both-other (judge_number p i) (judge_other p i)
    (either-other (leb p.n i) (refused 9) (taken []) (omega arith) (omega arith))
    (either-other (eqb i p.dealer) (refused 10) (taken []) (omega arith) (omega arith)))
    (judges-cells p cells))

deals : (w : Width) (p : Plan) (v : ℕ) → Other (dealing w p v)
unfolding dealing
deals w p v = both-other (judged p) _ (judges p) (either-other (leb p.span v) (refused 18) (taken (encode w (v ∷ []))) (omega arith) (omega arith))

receives : (b : Board) (q : ℕ) (f : List ℕ) → Other (receiving b q f).answer
unfolding receiving taking judge_receiving
receives b q f =
    let r = b.rec in
    both-other (judge_open b) _ (opens b)
    (either-other (due r.plan q r.board r.round) _ (refused 14) (either-other (member q r.marks) (refused 15) (taken []) (omega arith) (omega arith)) (omega arith))

sends : (b : Board) (out : List ℕ) → Other (sending b out).answer
unfolding sending judge_sending
sends b out =
    let r = b.rec in
    let size = length (wire_of b) in
    both-other (judge_open b) _ (opens b)
    (either-other (any (λ i. due r.plan r.board i r.round) r.plan.n) _ (refused 16)
    (either-other (ltb (length out) size) (refused 17) (taken (size ∷ [])) (omega arith) (omega arith)) (omega arith))

closes : (b : Board) → Other (closing b).answer
unfolding closing
closes b = both-other (judge_open b) (taken (closed_values (close b).rec)) (opens b) (omega arith)

decides : (r : Record) → Other (deciding r)
unfolding deciding
decides r = both-other (judge_record r) _ (judges-record r) (either-other r.decided (taken (r.decision ∷ [])) (refused 19) (omega arith) (omega arith))

-- A sheet, line by line.
abbrev Read : Reading → Type 0
Read r = Other r.answer

frames : (h : Head) (before : Option Frame) (line : ℕ) (ls : List Line) → Read (read_frames h before line ls)
unfolding read_frames refused_reading wrong_at add_frame
frames h before line [] = omega arith
frames h before line (l ∷ ls) = go (λ f. frames h (some f) (suc line) ls) (line_bytes l) refl
  where
    go : ((f : Frame) → Read (read_frames h (some f) (suc line) ls)) → (o : Option (List ℕ)) → line_bytes l ≡ o → Read (read_frames h before line (l ∷ ls))
    go ih none e = subst Read (sym (frames-text h before line l ls e)) (omega arith)
    go ih (some bytes) e =
        cases (good_frame h before bytes)
        (λ b. subst Read (sym (frames-right h before line l ls bytes e b)) (ih (frame_line bytes)))
        (λ b. subst Read (sym (frames-wrong h before line l ls bytes e b)) (omega arith))

heads : (w : Width) (bytes : List ℕ) → Other (judge_head w bytes)
unfolding judge_head
heads w bytes =
    let n = head_boards bytes in
    let sets = head_sets w bytes in
    let settings = head_settings w bytes in
    let f = head_faulty w bytes in
    let short = ltb (length bytes) (head_length w 0) || not (eqb (length bytes) (head_length w (head_count w bytes))) in
    let word = cond (leb settings.span (head_word w bytes)) (refused 18) (taken []) in
    let faulty = cond (within f (boards n) && tolerated sets f) (taken []) (refused 23) in
    let plan = planning n (head_count w bytes) sets settings in
    either-other short (refused 22) (and_then plan (and_then word faulty)) (omega arith)
    (both-other plan (and_then word faulty) (plans n (head_count w bytes) sets settings)
    (both-other word faulty
    (either-other (leb settings.span (head_word w bytes)) (refused 18) (taken []) (omega arith) (omega arith))
    (either-other (within f (boards n) && tolerated sets f) (taken []) (refused 23) (omega arith) (omega arith))))

reads-head : (w : Width) (bytes : List ℕ) (ls : List Line) → Read (read_head w bytes ls)
unfolding refused_reading wrong_at
reads-head w bytes ls =
    cases (eqb (judge_head w bytes).number 0)
    (λ e. subst Read (sym (head-right w bytes ls (eqb-true (judge_head w bytes).number 0 e))) (frames (head_of w bytes) none 2 ls))
    (λ e. subst Read (sym (head-wrong w bytes ls (eqb-false (judge_head w bytes).number 0 e))) (heads w bytes))

reads_lines : (w : Width) (ls : List Line) → Read (read_lines w ls)
unfolding read_lines refused_reading wrong_at
reads_lines w [] = omega arith
reads_lines w (l ∷ ls) = go (line_bytes l) refl
  where
    go : (o : Option (List ℕ)) → line_bytes l ≡ o → Read (read_lines w (l ∷ ls))
    go none e = subst Read (sym (lines-text w l ls e)) (omega arith)
    go (some bytes) e = subst Read (sym (lines-head w l ls bytes e)) (reads-head w bytes ls)

-- An answer of playing by a test.
either-play : (b : Bool) (x y : Play) → Other x.answer → Other y.answer → Other (cond b x y).answer
either-play true x y u v = u
either-play false x y u v = v

plays : (w : Width) (text cells out : List ℕ) → Other (playing w text cells out).answer
unfolding playing refused_play play_head wrong_at reading
plays w text cells out =
    let r = reading w text in
    either-play (ltb sheet_most (length text)) (refused_play (wrong_at 0 (refused 20)) cells out) _ (omega arith)
    (either-play (ltb (length out) (output_needed w)) (refused_play (wrong_at 0 (refused 17)) cells out) _ (omega arith)
    (either-play (ltb (length cells) cells_needed) (refused_play (wrong_at 0 (refused 11)) cells out) _ (omega arith)
    (either-play (eqb r.answer.number 0) (play_head w r.head r.frames cells out) (refused_play r.answer cells out) (omega arith) (reads_lines w (lines text)))))

pub never-two : NeverTwo
never-two = record {
  admitting = admits;
  planning = plans;
  beginning = begins;
  dealing = deals;
  receiving = receives;
  sending = sends;
  closing = closes;
  deciding = decides;
  playing = plays;
}
