-- `detect_cells` meets its contract: the list of nodes is that of the internal ones.
use Prim.Native.Nat.{◌-◌}
use mathlib.Core.Path.{ap, ◌∙◌}
use Rattle.protocol.specs.Detection.{detect_all_g}
use Rattle.walk.proofs.Carried.{inner-few}
use Rattle.frames.proofs.Listed.{inner-walkable, inner-front-nodes, inner-front-labels, inner-front-held}
use Rattle.detection.proofs.detecting.detect_cells.Goals as goal

pub inner_nodes-count-requires : goal.inner_nodes-count-requires
inner_nodes-count-requires c =
    inner-walkable c.args.seat.now.standing c.requires.later _ (inner-few c.args.seat.now.tabled.plan c.args.seat.now.board c.args.seat.now.standing.dealer-below (c.args.seat.now.round.0 - 1) c.args.seat.now.standing.most-boards)

pub detect_list-requires : goal.detect_list-requires
detect_list-requires c =
    let l = c.inner_nodes-count.ensures in
    record {
      later = c.requires.later;
      enough = c.requires.enough;
      are-nodes = inner-front-nodes c.args.seat.now.standing c.requires.later l;
      held = inner-front-held c.args.seat.now.standing c.requires.later l;
    }

pub returns : goal.returns
returns c =
    let a = c.args in
    c.detect_list.ensures
    ∙ ap (λ αs. detect_all_g a.seat.now.tabled.plan a.seat.now.board a.seat.now.run a.seat.now.round αs (record { list = a.list; cells = a.cells.now }))
    (inner-front-labels c.args.seat.now.standing c.requires.later c.inner_nodes-count.ensures)
