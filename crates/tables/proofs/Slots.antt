-- The slots of a plan that hold its listed sets.
-- Assumes nothing.
use Prim.Native.Nat.{◌≤◌, min}
use mathlib.Core.Path.{◌≡◌, sym, ◌∙◌, ap}
use native.Mathlib.Omega.{arith}
use lib.Dec.{leb}
use lib.ListN.{length, take, length-take}
use lib.Seq.{take_all}
use borrow.Author.Tests.{leb-true, leb-false}
use Rattle.plan.specs.declared.plan.Plan.{Plan}
use Rattle.plan.specs.Listed.{listed}
use Rattle.sets.proofs.Tests.{cases}

-- The slots that are used hold the listed sets.
pub slots-listed : (p : Plan) → length p.sets ≡ 32 → take (min p.count 32) p.sets ≡ listed p
unfolding listed
slots-listed p h =
    cases (leb p.count 32)
    (λ e. let l = leb-true p.count 32 e in
    let z : min p.count 32 ≡ p.count = omega arith in ap (λ k. take k p.sets) z)
    (λ e. let l = leb-false p.count 32 e in
    take_all (min p.count 32) p.sets (omega arith) ∙ sym (take_all p.count p.sets (omega arith)))

pub listed-few : (p : Plan) → length p.sets ≡ 32 → length (listed p) ≤ 32
unfolding listed
listed-few p h = omega (arith, length-take p.count p.sets)
