-- `third_held` meets its contract: the test of the boards that two sets leave, by the table.
use Rattle.std.proofs.Common.{sym, ap, subst, ◌∙◌}
use Rattle.tolerance.specs.Places.{found_at}
use Rattle.tolerance.specs.Bytes.{place_byte}
use Rattle.holders.specs.Holders.{holder_in, Asked}
use Rattle.covering.proofs.Pairs.{others-asked, others-third}
use Rattle.covering.proofs.covering.third_held.Goals as goal

pub holder_in-requires : goal.holder_in-requires
holder_in-requires c =
    let a = c.args in
    subst (Asked a.holders.now) (sym c.others_of.ensures) (others-asked a.n a.sets.now a.holders.now c.requires.tabled a.i a.j)

pub returns : goal.returns
returns c =
    let a = c.args in
    ap place_byte c.holder_in.ensures
    ∙ ap (λ x. place_byte (found_at (holder_in a.holders.now x))) c.others_of.ensures
    ∙ others-third a.n a.sets.now a.holders.now c.requires.tabled a.i a.j
