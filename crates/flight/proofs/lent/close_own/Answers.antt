-- `close_own` meets its contract: what `close_lent` leaves is what the closing by value leaves.
use Rattle.std.proofs.Common.{◌≡◌, ap, Err, rules}
use Rattle.protocol.specs.Answers.{closing_says, closed_says, closed_record}
use Rattle.flight.specs.Lent.{Lent}
use Rattle.flight.proofs.Own.{own-taken, own-refused}
use Rattle.flight.proofs.lent.close_own.Goals as goal

pub returns-in_err-closing : goal.returns-in_err-closing
unfolding closing_says closed_says closed_record
returns-in_err-closing c =
    let why = c.in_err-closing.field-0.0 in
    let is : c.from_residual.result ≡ Err why = search rules in
    let left = c.in_err-closing.ensures in
    rw is (own-refused c.args.r c.args.cells.now _ why (ap (λ (l : Lent). l.answer) left) (ap (λ (l : Lent). l.cells) left))

pub returns : goal.returns
unfolding closing_says closed_says closed_record
returns c = own-taken c.args.r c.args.cells.now _ _ _ c.in_ok-closing.ensures
