-- `play_round` meets its contract: all have heard, and close.
use mathlib.Core.Path.{ap, ◌∙◌}
use borrow.Author.Rules.{rules}
use Rattle.stage.specs.Stage.{on_stage}
use Rattle.session.specs.Steps.{closes, play_step}
use Rattle.session.proofs.rounds.play_round.Goals as goal

pub returns : goal.returns
unfolding play_step closes
returns c =
    let a = c.args in
    c.on_stage.ensures closes (λ i r x r' x' l e. search rules) ∙ ap (on_stage a.head closes a.head.plan.n) c.hear_all-heard.ensures
