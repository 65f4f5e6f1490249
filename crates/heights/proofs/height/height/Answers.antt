use Rattle.heights.specs.Levels.{height, largest}
use Rattle.tables.proofs.Slots.{slots-listed}
use Prim.Native.Nat.{◌+◌}
use mathlib.Core.Path.{◌≡◌, ap, ◌∙◌}
use native.Mathlib.Omega.{arith}
use lib.ListN.{length, take}
use borrow.Author.Rules.{rules}
use Rattle.heights.proofs.height.height.Goals as goal

pub slice_bounds-largest_with-end : goal.slice_bounds-largest_with-end
slice_bounds-largest_with-end c =
    let h : length c.args.plan.sets ≡ 32 = search rules in
    omega arith

pub returns : goal.returns
unfolding height
returns c =
    let p = c.args.plan in
    let h : length p.sets ≡ 32 = search rules in
    ap (λ x. x + 1) (c.largest_with.ensures.value ∙ ap (λ x. largest x p.dealer) (ap (λ m. take m p.sets) c.slots_used-count.ensures ∙ slots-listed p h))
