-- `judge_begin` meets its contract: 1 to 7, 26, 8, then 9, 10, 11.
use Rattle.std.proofs.Common.{◌≡◌, ◌∙◌, ap, Err, rules}
use Rattle.refusals.specs.Outcome.{verdict}
use Rattle.refusals.proofs.Outcomes.{refusing-first, accepting-first}
use Rattle.beginning.proofs.Answers.{begin-judged}
use Rattle.beginning.proofs.beginning.judge_begin.Goals as goal

pub returns-in_err-judge : goal.returns-in_err-judge
returns-in_err-judge c =
    let a = c.args in
    let why = c.in_err-judge.field-0.0 in
    let is : c.from_residual.result ≡ Err why = search rules in
    ap verdict is ∙ refusing-first why _ _ c.in_err-judge.ensures ∙ begin-judged a.plan a.board a.cells.now

pub returns-in_err-judge_board : goal.returns-in_err-judge_board
returns-in_err-judge_board c =
    let a = c.args in
    let why = c.in_err-judge_board.field-0.0 in
    let is : c.from_residual-in_err-judge_board.result ≡ Err why = search rules in
    ap verdict is ∙ refusing-first why _ _ c.in_err-judge_board.ensures ∙ accepting-first _ _ c.in_ok-judge.ensures ∙ begin-judged a.plan a.board a.cells.now

pub returns : goal.returns
returns c =
    let a = c.args in
    c.judge_cells.ensures ∙ accepting-first _ _ c.in_ok-judge_board.ensures ∙ accepting-first _ _ c.in_ok-judge.ensures ∙ begin-judged a.plan a.board a.cells.now
