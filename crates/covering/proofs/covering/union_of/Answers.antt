-- `union_of` meets its contract: one set more each turn.
use mathlib.Core.Path.{◌≡◌, refl, ap, ◌∙◌}
use native.Mathlib.Omega.{arith}
use lib.ListN.{length}
use Rattle.sets.specs.Sets.{union}
use Rattle.covering.specs.Pairs.{union_of}
use Rattle.covering.proofs.Together.{union_more}
use Rattle.covering.proofs.covering.union_of.Goals as goal

pub loop-s-init : goal.loop-s-init
unfolding union_of
loop-s-init c = refl

pub loop-s-preserved : goal.loop-s-preserved
unfolding union
loop-s-preserved c =
    let l = c.loop-s in
    union_more c.args.sets.now l.s-index l.boards l.invariant

pub returns : goal.returns
returns c =
    let sets = c.args.sets.now in
    let l = c.loop-s in
    l.invariant ∙ ap (union_of sets) (let z : l.s-index ≡ length sets = omega arith in z)
