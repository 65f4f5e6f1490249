-- `judge_open` meets its contract: 12, 11, 13.
use Rattle.std.proofs.Common.{◌≡◌, ◌∙◌, ap, Err, rules}
use Rattle.refusals.specs.Outcome.{verdict}
use Rattle.refusals.proofs.Outcomes.{refusing-first, accepting-first}
use Rattle.protocol.specs.Rounds.{board_with}
use Rattle.judging.proofs.Judged.{open-judged}
use Rattle.judging.proofs.judging.judge_open.Goals as goal

pub returns-in_err-judge_record : goal.returns-in_err-judge_record
returns-in_err-judge_record c =
    let why = c.in_err-judge_record.field-0.0 in
    let is : c.from_residual.result ≡ Err why = search rules in
    ap verdict is ∙ refusing-first why _ _ c.in_err-judge_record.ensures ∙ open-judged (board_with c.args.r c.args.cells.now)

pub returns-in_err-judge_cells : goal.returns-in_err-judge_cells
returns-in_err-judge_cells c =
    let why = c.in_err-judge_cells.field-0.0 in
    let is : c.from_residual-in_err-judge_cells.result ≡ Err why = search rules in
    ap verdict is ∙ refusing-first why _ _ c.in_err-judge_cells.ensures ∙ accepting-first _ _ c.in_ok-judge_record.ensures
    ∙ open-judged (board_with c.args.r c.args.cells.now)

pub returns : goal.returns
returns c =
    c.judge_decided.ensures ∙ accepting-first _ _ c.in_ok-judge_cells.ensures ∙ accepting-first _ _ c.in_ok-judge_record.ensures
    ∙ open-judged (board_with c.args.r c.args.cells.now)
