-- `closed` meets its contract.
use mathlib.Core.Path.{sym, ap, ◌∙◌}
use Rattle.protocol.specs.Answers.{closed_record}
use Rattle.protocol.specs.Rounds.{board_with}
use Rattle.protocol.specs.Calls.{Result}
use Rattle.session.specs.Steps.{closes}
use Rattle.session.proofs.rounds.closed.Goals as goal

pub returns-in-Ok : goal.returns-in-Ok
unfolding closes closed_record
returns-in-Ok c =
    ap (λ x. board_with (closed_record c.args.r x) c.close.new.cells) (sym c.in-Ok.is) ∙ ap (λ (x : Result). x.board) c.close.ensures

pub returns-in-Err : goal.returns-in-Err
unfolding closes closed_record
returns-in-Err c =
    ap (λ x. board_with (closed_record c.args.r x) c.close.new.cells) (sym c.in-Err.is) ∙ ap (λ (x : Result). x.board) c.close.ensures
