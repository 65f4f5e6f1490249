-- `play` meets its contract: 20, 17, 11, then the sheet.
use mathlib.Core.Path.{◌≡◌, sym, ap, ap₂, subst, ◌∙◌}
use mathlib.Core.List.{[], ◌∷◌}
use native.Mathlib.Omega.{arith}
use lib.ListN.{replicate}
use Rattle.codec.specs.Codec.{current}
use Rattle.schedule.specs.Schedule.{steps}
use Rattle.refusals.specs.Outcome.{Outcome, taken, refusal}
use Rattle.refusals.proofs.Outcomes.{refusal-number}
use Rattle.protocol.specs.Answers.{played_says}
use Rattle.protocol.specs.Calls.{void_record}
use Rattle.sheet.specs.Sheet.{wrong_at, reading}
use Rattle.sheet.specs.Playing.{refused_play}
use Rattle.finding.specs.Frames.{frames_in}
use Rattle.judging_frames.specs.Lines.{judged_says, judged_line}
use Rattle.reader.proofs.Accepted.{sheet-frames}
use Rattle.printer.specs.Printed.{Output, board_lines}
use Rattle.stage.specs.Stage.{Stage}
use Rattle.exchange.specs.Exchange.{Ready}
use Rattle.session.specs.Steps.{play_steps}
use Rattle.playing.proofs.Whole.{head-ready, sheet-played, too_long, short-output, short-cells, sheet-refused, sheet-accepted}
use Rattle.playing.proofs.playing.play.Goals as goal

pub returns-then-text-gt-SHEET : goal.returns-then-text-gt-SHEET
unfolding played_says refusal wrong_at refused_play
returns-then-text-gt-SHEET c =
    let a = c.args in
    too_long a.text.now a.cells.now a.out.now c.if-text-gt-SHEET.true

pub returns-then-out-lt-OUTPUT : goal.returns-then-out-lt-OUTPUT
unfolding played_says refusal wrong_at refused_play
returns-then-out-lt-OUTPUT c =
    let a = c.args in
    short-output a.text.now a.cells.now a.out.now c.if-text-gt-SHEET.false (omega (arith, c.if-out-lt-OUTPUT.true))

pub returns-then-cells-lt-CELLS : goal.returns-then-cells-lt-CELLS
unfolding played_says refusal wrong_at refused_play
returns-then-cells-lt-CELLS c =
    let a = c.args in
    short-cells a.text.now a.cells.now a.out.now c.if-text-gt-SHEET.false c.if-out-lt-OUTPUT.false (omega (arith, c.if-cells-lt-CELLS.true))

pub play_rounds-records-requires : goal.play_rounds-records-requires
unfolding judged_says
play_rounds-records-requires c =
    let a = c.args in
    let read = c.in-Ok.ensures in
    let ok = ap (λ (o : Outcome). o.number) (sym read.judges.says) in
    subst (λ x. Ready x a.cells.now c.in-Ok.field-0.frames.now) (sym read.gives)
    (subst (Ready (reading current a.text.now).head a.cells.now) (sym read.begins)
    (head-ready a.text.now a.cells.now a.out.now ok c.if-cells-lt-CELLS.false c.if-out-lt-OUTPUT.false))

pub overflow_cast-result : goal.overflow_cast-result
unfolding judged_line
overflow_cast-result c =
    let line = c.in-Err.ensures.judges.few in
    record { fits = omega (arith, line, c.if-text-gt-SHEET.false) }

pub returns-in-Err : goal.returns-in-Err
unfolding played_says judged_says wrong_at refused_play
returns-in-Err c =
    let a = c.args in
    let r = c.in-Err.refused in
    sheet-refused a.text.now a.cells.now a.out.now c.if-text-gt-SHEET.false c.if-out-lt-OUTPUT.false c.if-cells-lt-CELLS.false
    (wrong_at r.line (refusal r.why)) c.in-Err.ensures.judges.says (refusal-number r.why)

pub returns-in-Ok : goal.returns-in-Ok
unfolding played_says judged_says
returns-in-Ok c =
    let a = c.args in
    let t = a.text.now in
    let read = c.in-Ok.ensures in
    let ok = ap (λ (o : Outcome). o.number) (sym read.judges.says) in
    let g = c.play_rounds-records in
    let start : Stage = record { recs = replicate 7 void_record; cells = a.cells.now } in
    let st : Stage = record { recs = g.result; cells = g.new.cells } in
    let es : st ≡ play_steps (reading current t).head (reading current t).frames (steps (reading current t).head.plan) start =
    g.ensures ∙ ap₂ (λ x y. play_steps x y (steps x.plan) start) read.gives (ap frames_in read.begins ∙ sym (sheet-frames t ok)) in
    ap (λ (o : Output). record { answer = taken (o.count ∷ []); cells = st.cells; out = o.out }) c.print_boards.ensures
    ∙ sheet-played t a.cells.now a.out.now ok c.if-cells-lt-CELLS.false c.if-out-lt-OUTPUT.false st _ es (ap (λ x. board_lines x st.recs a.out.now) read.gives)
    ∙ sheet-accepted t a.cells.now a.out.now c.if-text-gt-SHEET.false c.if-out-lt-OUTPUT.false c.if-cells-lt-CELLS.false ok
