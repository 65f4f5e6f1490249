-- `hear_sender` meets its contract: the sender's frame is written, if it is outside F, and all boards hear it or what the sheet has.
use mathlib.Core.Path.{◌∙◌}
use lib.ListN.{take}
use borrow.Author.Rules.{rules}
use Rattle.finding.specs.Frames.{frames_in}
use Rattle.hearing.specs.Hearing.{hear_from}
use Rattle.exchange.proofs.Heard.{sender-heard}
use Rattle.exchange.proofs.senders.hear_sender.Goals as goal

pub returns : goal.returns
unfolding hear_from
returns c =
    let a = c.args in
    let own = c.sender_frame-own in
    let frame = take own.result own.new.frame in
    c.on_stage.ensures (hear_from a.head (frames_in a.frames.now) a.q frame) (λ i r x r' x' l e. search rules)
    ∙ sender-heard a.head (frames_in a.frames.now) a.q frame (record { recs = a.records; cells = a.cells.now }) own.ensures.front
