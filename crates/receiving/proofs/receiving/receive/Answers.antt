-- `receive` meets its contract: what handing in leaves.
use Rattle.std.proofs.Common.{◌≡◌, ◌<◌, ap, sym, Err, rules}
use Rattle.refusals.specs.Outcome.{refusal, verdict}
use Rattle.refusals.proofs.Outcomes.{refusal-number}
use Rattle.sets.proofs.Collect.{insert-byte}
use Rattle.protocol.specs.Rounds.{board_with}
use Rattle.protocol.specs.Calls.{judge_open}
use Rattle.frames.proofs.Standing.{open-stands}
use Rattle.receiving.proofs.Answers.{receive-closed, receive-refused, receive-taken, taken-small}
use Rattle.receiving.proofs.receiving.receive.Goals as goal
use Rattle.receiving.proofs.receiving.receive.Goals.{In_ok-judge_open, In_ok-take}

-- The board is open; the sender of a frame that is taken is below 8.
is-open : (c : In_ok-judge_open) → (judge_open (board_with c.args.r.now c.args.cells.now)).number ≡ 0
unfolding verdict
is-open c = ap (λ o. o.number) (sym c.in_ok-judge_open.ensures)

small : (c : In_ok-take) → c.args.sender < 8
unfolding verdict
small c =
    let a = c.args in
    taken-small a.r.now a.cells.now a.sender a.frame.now (ap (λ o. o.number) (sym c.in_ok-judge_open.ensures)) _ _ c.in_ok-take.ensures

pub take-requires : goal.take-requires
take-requires c = open-stands (board_with c.args.r.now c.args.cells.now) (is-open (goal.at.take-requires c).In_ok-judge_open)

pub returns-in_err-judge_open : goal.returns-in_err-judge_open
unfolding verdict
returns-in_err-judge_open c =
    let a = c.args in
    let why = c.in_err-judge_open.field-0.0 in
    let is : c.from_residual.result ≡ Err why = search rules in
    rw is (receive-closed a.r.now a.cells.now a.sender a.frame.now (refusal why) c.in_err-judge_open.ensures (refusal-number why))

pub returns-in_err-take : goal.returns-in_err-take
unfolding verdict
returns-in_err-take c =
    let a = c.args in
    let why = c.in_err-take.field-0.0 in
    let is : c.from_residual-in_err-take.result ≡ Err why = search rules in
    rw is (receive-refused a.r.now a.cells.now a.sender a.frame.now (is-open (goal.at.returns-in_err-take c).In_ok-judge_open) _ (refusal why) _ c.in_err-take.ensures (refusal-number why))

pub overflow_shl-r : goal.overflow_shl-r
overflow_shl-r c = small (goal.at.overflow_shl-r c).In_ok-take

pub returns : goal.returns
unfolding verdict
returns c =
    let a = c.args in
    receive-taken a.r.now a.cells.now a.sender a.frame.now (is-open (goal.at.returns c).In_ok-judge_open) _ c.in_ok-take.ensures _
    (insert-byte a.r.now.marks a.sender (small (goal.at.returns c).In_ok-take))
