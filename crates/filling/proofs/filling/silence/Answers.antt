-- `silence` meets its contract: what is stored are no values, at the nodes that the frame carries.
use mathlib.Core.Path.{refl, sym, ap₂, ◌∙◌}
use Rattle.codec.specs.Codec.{current}
use Rattle.codec.proofs.Codec.{decode-none}
use Rattle.protocol.specs.Rounds.{fill}
use Rattle.frames.proofs.Listed.{carried-walkable, front-labels, front-storable, sent-carried}
use Rattle.filling.proofs.filling.silence.Goals as goal

pub carried_nodes-count-requires : goal.carried_nodes-count-requires
carried_nodes-count-requires c =
    carried-walkable c.args.seat.now.standing c.requires.later c.args.q c.requires.sender _ refl

pub store_at-requires : goal.store_at-requires
store_at-requires c =
    front-storable c.args.seat.now.standing c.requires.later c.args.q c.carried_nodes-count.ensures c.requires.sender _ c.requires.enough

pub returns : goal.returns
returns c =
    let l = c.carried_nodes-count.ensures in
    c.store_at.ensures
    ∙ ap₂ (λ αs vs. fill c.args.seat.now.tabled.plan c.args.q αs vs c.args.cells.now)
    (front-labels c.args.seat.now.standing c.requires.later c.args.q l ∙ sym (sent-carried c.args.seat.now.standing c.requires.later c.args.q)) (decode-none current)
