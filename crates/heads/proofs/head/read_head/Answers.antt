-- `read_head` meets its contract: 22 by the length, then what is judged of what stands in the line: 1 to 7, 26, 8, 18, 23.
use Rattle.std.proofs.Common.{◌≡◌, ◌+◌, ◌∙◌, sym, ap, cond, leb, ◌&&◌, [], length, take, min, Err, rules}
use Rattle.codec.specs.Codec.{current}
use Rattle.sets.specs.Sets.{within, boards}
use Rattle.sets.specs.Structure.{tolerated}
use Rattle.refusals.specs.Outcome.{taken, refused, refusal, verdict, and_then}
use Rattle.refusals.proofs.Outcomes.{refusing-first, accepting-first}
use Rattle.settings.specs.Planning.{planning}
use Rattle.plan.specs.Calls.{Plans, plan_says}
use Rattle.sheet.specs.Sheet.{sets_place, judge_head}
use Rattle.hexadecimal.specs.Bytes.{bytes_from}
use Rattle.hexadecimal.proofs.Bytes.{all}
use Rattle.fields.proofs.Slots.{slots-part}
use Rattle.heads.proofs.Heads.{head-wrong, head-judged, head-made, head-refused, head-accepted}
use Rattle.heads.proofs.head.read_head.Goals as goal
use Rattle.heads.proofs.head.read_head.Goals.{After-byte_at-faulty}

pub returns-then-line-last : goal.returns-then-line-last
unfolding refusal
returns-then-line-last c =
    let line = c.args.line.now in
    head-refused line _ (sym (head-wrong line (λ z. c.if-line-last.true (z ∙ ap (λ x. x + sets_place current + 1) (sym (c.from-last.ensures ∙ c.byte_at-count.ensures))))))

-- The sets that stand in the line.
slots : (c : After-byte_at-faulty) → let line = c.args.line.now in
    take c.from.result c.sets_of-slots.result ≡ bytes_from line (sets_place current) c.from-last.result
slots c =
    let line = c.args.line.now in
    slots-part line c.byte_at-count.result c.from.result c.sets_of-slots.result c.from.ensures c.sets_of-slots.ensures
    ∙ ap (bytes_from line (sets_place current)) (sym c.from-last.ensures)

-- What stands in the line, judged part by part.
read : (c : After-byte_at-faulty) → let line = c.args.line.now in let sets = take c.from.result c.sets_of-slots.result in
    let word = c.number_at-word.result in let faulty = c.byte_at-faulty.result in
    and_then (planning c.byte_at-n.result (length sets) sets c.settings_of-settings.result)
    (and_then (cond (leb c.settings_of-settings.result.span word) (refused 18) (taken []))
    (cond (within faulty (boards (min c.byte_at-n.result 7)) && tolerated sets faulty) (taken []) (refused 23))) ≡ judge_head current (all line)
read c =
    let line = c.args.line.now in
    head-judged line _ _ _ _ _ _ c.byte_at-n.ensures c.settings_of-settings.ensures c.number_at-word.ensures (c.from-last.ensures ∙ c.byte_at-count.ensures)
    c.byte_at-faulty.ensures (slots c) c.if-line-last.false

pub returns-in_err-plan : goal.returns-in_err-plan
unfolding plan_says verdict
returns-in_err-plan c =
    let why = c.in_err-plan.field-0.0 in
    let is : c.from_residual.result ≡ Err why = search rules in
    let planned : refusal why ≡ planning c.byte_at-n.result _ _ c.settings_of-settings.result = ap (λ (x : Plans). x.answer) c.in_err-plan.ensures in
    rw is (head-refused c.args.line.now why (refusing-first why _ _ planned ∙ read (goal.at.returns-in_err-plan c).After-byte_at-faulty))

pub returns-in_err-judge_value : goal.returns-in_err-judge_value
unfolding plan_says verdict
returns-in_err-judge_value c =
    let why = c.in_err-judge_value.field-0.0 in
    let is : c.from_residual-in_err-judge_value.result ≡ Err why = search rules in
    let planned = ap (λ (x : Plans). x.answer) c.in_ok-plan.ensures in
    rw is (head-refused c.args.line.now why
    (refusing-first why _ _ c.in_err-judge_value.ensures ∙ accepting-first _ _ planned ∙ read (goal.at.returns-in_err-judge_value c).After-byte_at-faulty))

pub returns-in_err-judge_faulty : goal.returns-in_err-judge_faulty
unfolding plan_says verdict
returns-in_err-judge_faulty c =
    let why = c.in_err-judge_faulty.field-0.0 in
    let is : c.from_residual-in_err-judge_faulty.result ≡ Err why = search rules in
    let planned = ap (λ (x : Plans). x.answer) c.in_ok-plan.ensures in
    let worded : taken [] ≡ cond (leb c.settings_of-settings.result.span c.number_at-word.result) (refused 18) (taken []) = search rules in
    rw is (head-refused c.args.line.now why
    (c.in_err-judge_faulty.ensures ∙ accepting-first _ _ worded ∙ accepting-first _ _ planned ∙ read (goal.at.returns-in_err-judge_faulty c).After-byte_at-faulty))

pub returns : goal.returns
unfolding plan_says verdict
returns c =
    let line = c.args.line.now in
    let at = (goal.at.returns c).After-byte_at-faulty in
    let planned = ap (λ (x : Plans). x.answer) c.in_ok-plan.ensures in
    head-accepted line _
    (c.in_ok-judge_faulty.ensures ∙ accepting-first _ _ c.in_ok-judge_value.ensures ∙ accepting-first _ _ planned ∙ read at)
    (head-made line _ _ _ _ _ _ _ c.byte_at-n.ensures c.settings_of-settings.ensures c.number_at-word.ensures (c.from-last.ensures ∙ c.byte_at-count.ensures)
    c.byte_at-faulty.ensures (slots at) (ap (λ (x : Plans). x.plan) c.in_ok-plan.ensures))
