-- `are_held` meets its contract: the test of the boards that two sets leave, by the table.
use Rattle.std.proofs.Common.{sym, ap, subst, ◌∙◌}
use Rattle.holders.specs.Holders.{holds, Asked}
use Rattle.covering.proofs.Pairs.{others-asked, others-held}
use Rattle.covering.proofs.covering.are_held.Goals as goal

pub holds-requires : goal.holds-requires
holds-requires c =
    let a = c.args in
    subst (Asked a.holders.now) (sym c.others_of.ensures) (others-asked a.n a.sets.now a.holders.now c.requires.tabled a.i a.j)

pub returns : goal.returns
returns c =
    let a = c.args in
    c.holds.ensures ∙ ap (holds a.holders.now) c.others_of.ensures ∙ others-held a.n a.sets.now a.holders.now c.requires.tabled a.i a.j
