use mathlib.Core.Path.{◌≡◌, refl, sym, ◌∙◌}
use lib.ListN.{length-set, get_or-replicate}
use native.Mathlib.Omega.{arith}
use Rattle.holders.proofs.Filling.{list-more, list-none, stage-by}
use Rattle.holders.proofs.table.listings.Goals as goal

pub loop-i-init : goal.loop-i-init
loop-i-init c = (refl, λ a l. get_or-replicate 128 a 255 0 l ∙ sym (list-none _ _))

pub loop-i-preserved : goal.loop-i-preserved
loop-i-preserved c =
    let a = c.args in
    let l = c.loop-i in
    (simp length-set l.invariant.0, rw c.from.ensures (list-more a.sets.now l.table l.i (omega arith) (omega arith) l.invariant.0 l.invariant.1))

pub returns : goal.returns
returns c =
    let l = c.loop-i in
    let z : l.i ≡ 0 = omega arith in
    stage-by c.args.sets.now 0 l.table l.invariant.0 (rw z at l.invariant.1)
