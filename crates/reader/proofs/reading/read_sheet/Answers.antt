-- `read_sheet` meets its contract: the first line, then the frame lines by the plan and the faulty boards that it names.
use Rattle.std.proofs.Common.{◌≡◌, length, ◌+◌, ◌-◌, ◌≤◌, ◌∙◌, sym, ap, get_or, take, drop, Ok, Err, arith, rules}
use lib.ListN.{length-drop}
use lib.Seq.{take_all}
use Rattle.codec.specs.Codec.{current}
use Rattle.refusals.specs.Outcome.{Outcome}
use Rattle.plan.specs.Calls.{judged}
use Rattle.hexadecimal.proofs.Bytes.{all}
use Rattle.heads.specs.Heads.{head_says}
use Rattle.sheet.specs.declared.head.Head.{Head}
use Rattle.sheet.specs.Sheet.{lines, head_of, reading}
use Rattle.sheet.proofs.Sheets.{head-good}
use Rattle.text.proofs.LineEnds.{stop_le}
use Rattle.judging_frames.specs.Lines.{judged_says, judged_line, judge_lines}
use Rattle.reader.proofs.WholeSheet.{Begun, sheet-begun, sheet-said, sheet-far, sheet-answer}
use Rattle.reader.proofs.Accepted.{sheet-given}
use Rattle.reader.proofs.reading.read_sheet.Goals as goal
use Rattle.reader.proofs.reading.read_sheet.Goals.{In_ok-head}

-- The first line is accepted, and gives this head.
begun : (c : In_ok-head) → Begun c.args.text.now c.line_end-end.result c.line_end-end.ensures
unfolding head_says
begun c =
    let good : c.read_first.result ≡ Ok c.in_ok-head.head = search rules in
    sheet-begun c.args.text.now c.line_end-end.result c.line_end-end.ensures (ap (λ o. o.number) (sym (ap head_says (sym good) ∙ c.read_first.ensures.judges)))

pub returns-in_err-head : goal.returns-in_err-head
unfolding head_says
returns-in_err-head c =
    let wrong = c.in_err-head.field-0.0 in
    let is : c.from_residual.result ≡ Err wrong = search rules in
    let why : c.read_first.result ≡ Err wrong.why = search rules in
    let line : wrong.line ≡ 1 = search rules in
    rw is (record {
      judges = sheet-said c.args.text.now c.line_end-end.result c.line_end-end.ensures wrong (ap head_says (sym why) ∙ c.read_first.ensures.judges) line;
      gives = tt;
      begins = tt;
    })

pub overflow_add-end : goal.overflow_add-end
overflow_add-end c = record { fits = omega (arith, c.line_end-end.ensures, stop_le c.args.text.now 0 (omega arith)) }

-- The head that the first line gives.
headed : (c : In_ok-head) → let top = all (take c.line_end-end.result c.args.text.now) in c.in_ok-head.head ≡ head_of current top
headed c =
    let good : c.read_first.result ≡ Ok c.in_ok-head.head = search rules in
    let gives = c.read_first.ensures.gives in
    rw good at gives

pub judge_frames-requires : goal.judge_frames-requires
judge_frames-requires c =
    let at = (goal.at.judge_frames-requires c).In_ok-head in
    let end = c.line_end-end in
    let b = begun at in
    record {
      accepted = ap (λ h. (judged h.plan).number) (headed at) ∙ (head-good current (all (take end.result c.args.text.now)) b.accepted).accepted;
      after_first = omega (arith, sheet-far c.args.text.now end.result end.ensures b);
    }

-- What is judged of the frame lines is what is judged of the sheet.
whole : (c : In_ok-head) → let h = c.in_ok-head.head in
    judge_lines h.plan h.faulty 0 2 (lines (drop (c.line_end-end.result + 1) c.args.text.now)) ≡ (reading current c.args.text.now).answer
whole c =
    let text = c.args.text.now in
    let end = c.line_end-end in
    ap (λ (h : Head). judge_lines h.plan h.faulty 0 2 (lines (drop (end.result + 1) text))) (headed c) ∙ sym (sheet-answer text end.result end.ensures (begun c))

pub returns-in_err-judge_frames : goal.returns-in_err-judge_frames
unfolding judged_says judged_line
returns-in_err-judge_frames c =
    let wrong = c.in_err-judge_frames.field-0.0 in
    let is : c.from_residual-in_err-judge_frames.result ≡ Err wrong = search rules in
    let r = c.in_err-judge_frames.ensures in
    let same = whole (goal.at.returns-in_err-judge_frames c).In_ok-head in
    rw is (record {
      judges = record { says = r.says ∙ same; line = r.line ∙ ap (λ (o : Outcome). get_or o.values 0 0) same; few = r.few };
      gives = tt;
      begins = tt;
    })

pub overflow_add-result : goal.overflow_add-result
overflow_add-result c = record { fits = omega (arith, c.line_end-end.ensures, stop_le c.args.text.now 0 (omega arith)) }

pub slice_bounds-result-count : goal.slice_bounds-result-count
slice_bounds-result-count c = omega (arith, (begun (goal.at.slice_bounds-result-count c).In_ok-head).ended)

pub slice_bounds-result-start : goal.slice_bounds-result-start
slice_bounds-result-start c = omega (arith, (begun (goal.at.slice_bounds-result-start c).In_ok-head).ended)

pub returns : goal.returns
unfolding judged_says judged_line
returns c =
    let text = c.args.text.now in
    let end = c.line_end-end in
    let at = (goal.at.returns c).In_ok-head in
    let r = c.in_ok-judge_frames.ensures in
    let same = r.says ∙ whole at in
    record {
      judges = record { says = same; line = r.line ∙ ap (λ (o : Outcome). get_or o.values 0 0) (whole at); few = r.few };
      gives = sheet-given text (ap (λ (o : Outcome). o.number) (sym same)) end.result c.in_ok-head.head end.ensures (λ ok. headed at);
      begins =
          take_all (length text - (end.result + 1)) (drop (end.result + 1) text) (let z : length (drop (end.result + 1) text) ≤ length text - (end.result + 1) = omega (arith, length-drop (end.result + 1) text) in z)
          ∙ ap (λ k. drop (k + 1) text) end.ensures;
    }
