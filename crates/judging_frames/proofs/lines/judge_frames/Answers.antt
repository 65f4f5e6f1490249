-- `judge_frames` meets its contract: 21 and 24. What is judged of the lines from `at` on, with the least key that rises, is what is judged of all.
use Rattle.std.proofs.Common.{◌≡◌, ◌+◌, ◌-◌, ◌∙◌, refl, sym, ap, get_or, take, drop, Ok, Err, arith, rules}
use Rattle.refusals.specs.Outcome.{Outcome, refusal, verdict}
use Rattle.refusals.proofs.Outcomes.{refusal-number}
use Rattle.sheet.specs.Sheet.{lines, wrong_at}
use Rattle.text.proofs.LineEnds.{stop-ge, stop_le}
use Rattle.finding.specs.Frames.{line_key}
use Rattle.judging_frames.specs.Lines.{judged_says, judged_line, judge_lines}
use Rattle.judging_frames.proofs.Places.{at-end, at-wrong, at-good, key_below}
use Rattle.judging_frames.proofs.lines.judge_frames.Goals as goal

pub loop-at-init : goal.loop-at-init
loop-at-init c = (refl, omega arith, c.requires.after_first)

pub slice_bounds-digits-count : goal.slice_bounds-digits-count
slice_bounds-digits-count c = omega (arith, c.line_end-end.ensures, stop-ge c.args.text.now c.loop-at.at)

pub slice_bounds-digits-start : goal.slice_bounds-digits-start
slice_bounds-digits-start c = slice_bounds-digits-count c

pub slice_bounds-digits-end : goal.slice_bounds-digits-end
slice_bounds-digits-end c = omega (arith, c.line_end-end.ensures, stop_le c.args.text.now c.loop-at.at (omega arith))

pub returns-in_err-map_err : goal.returns-in_err-map_err
unfolding judged_says judged_line verdict wrong_at
returns-in_err-map_err c =
    let wrong = c.in_err-map_err.field-0.0 in
    let l = c.loop-at in
    let is : c.from_residual.result ≡ Err wrong = search rules in
    let why : c.judge_line.result ≡ Err wrong.why = search rules in
    let line : wrong.line ≡ l.line = search rules in
    let bad = refusal-number wrong.why in
    let same = ap verdict (sym why) ∙ c.judge_line.ensures in
    let x = sym l.invariant.0 ∙ at-wrong c.args.plan c.args.faulty c.args.text.now l.least l.line l.at c.line_end-end.result (omega arith) c.line_end-end.ensures (refusal wrong.why) same bad in
    rw is (record { says = ap (λ n. wrong_at n (refusal wrong.why)) line ∙ sym x; line = line ∙ sym (ap (λ (o : Outcome). get_or o.values 0 0) x); few = omega (arith, line) })

pub overflow_add-least : goal.overflow_add-least
unfolding line_key
overflow_add-least c =
    let line = take (c.line_end-end.result - c.loop-at.at) (drop c.loop-at.at c.args.text.now) in
    let k : c.key_of-least.result ≡ line_key line = c.key_of-least.ensures in
    record { fits = omega (arith, k, key_below line) }

pub loop-at-smaller : goal.loop-at-smaller
loop-at-smaller c = omega (arith, c.line_end-end.ensures, stop-ge c.args.text.now c.loop-at.at)

pub loop-at-preserved : goal.loop-at-preserved
unfolding line_key verdict
loop-at-preserved c =
    let a = c.args in
    let text = a.text.now in
    let l = c.loop-at in
    let end = c.line_end-end in
    let k : c.key_of-least.result ≡ line_key (take (end.result - l.at) (drop l.at text)) = c.key_of-least.ensures in
    let good : c.judge_line.result ≡ Ok tt = search rules in
    let same = ap verdict (sym good) ∙ c.judge_line.ensures in
    let x = at-good a.plan a.faulty text l.least l.line l.at end.result (omega arith) end.ensures _ same refl in (
      ap (λ m. judge_lines a.plan a.faulty (m + 1) (l.line + 1) (lines (drop (end.result + 1) text))) k ∙ sym x ∙ l.invariant.0,
      omega arith,
      omega (arith, end.ensures, stop-ge text l.at),
    )

pub returns : goal.returns
unfolding judged_says judged_line
returns c =
    let l = c.loop-at in
    let x = sym l.invariant.0 ∙ at-end c.args.plan c.args.faulty c.args.text.now l.least l.line l.at 0 (omega arith) in
    record { says = sym x; line = sym (ap (λ o. get_or o.values 0 0) x); few = omega arith }
