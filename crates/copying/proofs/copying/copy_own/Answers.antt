-- `copy_own` meets its contract: the board's own frame is written, and stored at its own children.
use Prim.Native.Nat.{◌-◌}
use mathlib.Core.Path.{refl, ◌∙◌}
use native.Mathlib.Omega.{arith}
use lib.ListN.{take}
use Rattle.frames.proofs.Listed.{carried-walkable, front-few, front-nodes, front-labels, front-storable}
use Rattle.copying.proofs.Copied.{own-copied}
use Rattle.copying.proofs.copying.copy_own.Goals as goal

pub carried_nodes-count-requires : goal.carried_nodes-count-requires
carried_nodes-count-requires c =
    carried-walkable c.args.seat.now.standing c.requires.later c.args.seat.now.board c.args.seat.now.standing.board-below _ refl

pub write_at-requires : goal.write_at-requires
write_at-requires c =
    let x = c.carried_nodes-count in
    let few = front-few c.args.seat.now.standing c.requires.later c.args.seat.now.board x.ensures c.args.seat.now.standing.board-below in
    record { are-nodes = front-nodes c.args.seat.now.standing c.requires.later c.args.seat.now.board x.ensures; enough = c.requires.enough; room = omega (arith, few) }

pub store_at-requires : goal.store_at-requires
store_at-requires c =
    front-storable c.args.seat.now.standing c.requires.later c.args.seat.now.board c.carried_nodes-count.ensures c.args.seat.now.standing.board-below _ c.requires.enough

pub returns : goal.returns
returns c =
    let a = c.args in
    let x = c.carried_nodes-count in
    let y = c.write_at in
    c.store_at.ensures
    ∙ own-copied c.args.seat.now.standing c.requires.later a.cells.now x.result (take (x.result - 0) x.new.nodes) y.new.out _ x.ensures.counted
    (front-labels c.args.seat.now.standing c.requires.later a.seat.now.board x.ensures) y.ensures
