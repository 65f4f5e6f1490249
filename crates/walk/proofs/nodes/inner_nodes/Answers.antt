-- `inner_nodes` meets its contract: no board has number 8.
use Rattle.walk.proofs.Whole.{all-walkable, all-lists}
use Rattle.walk.proofs.nodes.inner_nodes.Goals as goal

pub carried_nodes-requires : goal.carried_nodes-requires
carried_nodes-requires c =
    let a = c.args in
    all-walkable a.tabled.now.plan a.board a.level c.requires

pub returns : goal.returns
returns c =
    let a = c.args in
    all-lists a.tabled.now.plan a.board a.level c.requires c.carried_nodes.ensures
