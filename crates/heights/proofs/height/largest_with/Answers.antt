use native.Mathlib.Omega.{arith}
use Rattle.heights.proofs.Largest.{largest_step, largest-end}
use Rattle.heights.proofs.height.largest_with.Goals as goal

pub loop-s-init : goal.loop-s-init
loop-s-init c = (omega arith, omega arith)

pub loop-s-preserved : goal.loop-s-preserved
loop-s-preserved c =
    let l = c.loop-s in
    let k = c.size_with.ensures in
    let s = largest_step c.args.sets.now l.s-index c.args.d (omega arith) in
    (omega (arith, k.value), omega (arith, k.bound))

pub returns : goal.returns
returns c =
    let a = c.args in
    record { value = omega (arith, largest-end a.sets.now c.loop-s.s-index a.d (omega arith)); bound = omega arith }
