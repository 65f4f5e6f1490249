-- `close` meets its contract: what closing leaves.
use Rattle.std.proofs.Common.{◌≡◌, ◌∙◌, ap, sym, Err, rules}
use mathlib.Core.Path.{ap₂}
use Rattle.refusals.specs.Outcome.{taken, refusal, verdict}
use Rattle.refusals.proofs.Outcomes.{refusal-number}
use Rattle.protocol.specs.Rounds.{board_with, Board}
use Rattle.protocol.specs.Calls.{closed_values}
use Rattle.protocol.specs.Answers.{closed_says, closed_record}
use Rattle.protocol.proofs.Judgement.{open-facts, record-good}
use Rattle.closing.proofs.Answers.{close-refused, close-taken}
use Rattle.closing.proofs.closing.close.Goals as goal

pub close_round-rec-requires : goal.close_round-rec-requires
unfolding verdict
close_round-rec-requires c =
    let a = c.args in
    let f = open-facts (board_with a.r a.cells.now) (ap (λ o. o.number) (sym c.in_ok-judge_open.ensures)) in
    record { good = record-good a.r f.good; enough = f.room }

pub returns-in_err-judge_open : goal.returns-in_err-judge_open
unfolding closed_says closed_record verdict
returns-in_err-judge_open c =
    let a = c.args in
    let why = c.in_err-judge_open.field-0.0 in
    let is : c.from_residual.result ≡ Err why = search rules in
    rw is (close-refused (board_with a.r a.cells.now) (refusal why) c.in_err-judge_open.ensures (refusal-number why))

pub returns : goal.returns
unfolding closed_says closed_record verdict
returns c =
    let e = c.close_round-rec.ensures in
    ap₂ (λ o x. record { answer = o; board = x }) (c.opened.ensures ∙ ap (λ (x : Board). taken (closed_values x.rec)) e) e
    ∙ close-taken (board_with c.args.r c.args.cells.now) c.in_ok-judge_open.ensures
