-- `begin` meets its contract: what beginning leaves.
use Rattle.std.proofs.Common.{◌≡◌, ◌∙◌, ap, sym, Err, [], rules}
use mathlib.Core.Path.{ap₂}
use Rattle.refusals.specs.Outcome.{taken, refusal, verdict}
use Rattle.refusals.proofs.Outcomes.{refusal-number}
use Rattle.protocol.specs.Answers.{begun_record, begun_says}
use Rattle.protocol.specs.Rounds.{board_with}
use Rattle.beginning.proofs.Answers.{begin-refused, begin-taken, begin-ready}
use Rattle.beginning.proofs.beginning.begin.Goals as goal

pub clear-requires : goal.clear-requires
unfolding verdict
clear-requires c = let a = c.args in begin-ready a.plan a.board a.cells.now (ap (λ o. o.number) (sym c.in_ok-judge_begin.ensures))

pub returns-in_err-judge_begin : goal.returns-in_err-judge_begin
unfolding verdict begun_says begun_record
returns-in_err-judge_begin c =
    let a = c.args in
    let why = c.in_err-judge_begin.field-0.0 in
    let is : c.from_residual.result ≡ Err why = search rules in
    rw is (begin-refused a.plan a.board a.cells.now (refusal why) c.in_err-judge_begin.ensures (refusal-number why))

pub returns : goal.returns
unfolding verdict begun_says begun_record
returns c =
    let a = c.args in
    ap₂ (λ r cells. record { answer = taken []; board = board_with r cells }) c.fresh.ensures c.clear.ensures
    ∙ begin-taken a.plan a.board a.cells.now c.in_ok-judge_begin.ensures
