-- `others_of` meets its contract.
use mathlib.Core.Path.{◌≡◌, ap, ◌∙◌}
use Prim.Native.Nat.{min}
use native.Mathlib.Omega.{arith}
use lib.ListN.{get_or}
use Rattle.sets.specs.Sets.{union}
use Rattle.covering.specs.Pairs.{outside, others}
use Rattle.covering.proofs.covering.others_of.Goals as goal

pub returns : goal.returns
unfolding union others
returns c =
    let a = c.args in
    let z : min a.n 8 ≡ a.n = omega (arith, c.requires.most-boards) in
    c.outside_of.ensures ∙ ap (λ x. outside x (union (get_or a.sets.now a.i 0) (get_or a.sets.now a.j 0))) z
