-- `carried_nodes` meets its contract: the walk from the root.
use mathlib.Core.Path.{ap₂}
use lib.Bits.{bit_or}
use Rattle.walk.proofs.Whole.{root_stands, whole-lists}
use Rattle.walk.proofs.nodes.carried_nodes.Goals as goal

pub walk-requires : goal.walk-requires
walk-requires c =
    let a = c.args in
    let t = a.tabled.now in
    root_stands t.plan a.q a.board a.level _ t.holders a.nodes.now c.requires t.tabled.few-sets (ap₂ bit_or c.set_of.ensures c.barred_to.ensures)

pub returns : goal.returns
returns c =
    let x = c.walk in
    let a = c.args in
    let t = a.tabled.now in
    whole-lists t.plan a.q a.board a.level _ t.holders a.nodes.now c.requires t.tabled.few-sets (ap₂ bit_or c.set_of.ensures c.barred_to.ensures) x.result _ x.ensures
