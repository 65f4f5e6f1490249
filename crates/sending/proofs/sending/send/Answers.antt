-- `send` meets its contract: what writing leaves.
use Rattle.std.proofs.Common.{◌≡◌, ap, sym, Err, rules}
use Rattle.refusals.specs.Outcome.{refusal, verdict}
use Rattle.refusals.proofs.Outcomes.{refusal-number}
use Rattle.protocol.specs.Answers.{sent_says}
use Rattle.frames.proofs.Standing.{open-stands}
use Rattle.sending.proofs.Writing.{send-closed, send-open}
use Rattle.protocol.specs.Rounds.{board_with}
use Rattle.sending.proofs.sending.send.Goals as goal

pub write-requires : goal.write-requires
unfolding verdict
write-requires c = open-stands (board_with c.args.r c.args.cells.now) (ap (λ o. o.number) (sym c.in_ok-judge_open.ensures))

pub returns-in_err-judge_open : goal.returns-in_err-judge_open
unfolding sent_says verdict
returns-in_err-judge_open c =
    let a = c.args in
    let why = c.in_err-judge_open.field-0.0 in
    let is : c.from_residual.result ≡ Err why = search rules in
    rw is (send-closed a.r a.cells.now a.out.now (refusal why) c.in_err-judge_open.ensures (refusal-number why))

pub returns : goal.returns
unfolding verdict
returns c =
    let a = c.args in
    send-open a.r a.cells.now a.out.now (ap (λ o. o.number) (sym c.in_ok-judge_open.ensures)) _ _ c.write.ensures
