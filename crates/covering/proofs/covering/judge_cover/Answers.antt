-- `judge_cover` meets its contract.
use Prim.Native.Nat.{min}
use mathlib.Core.Path.{◌≡◌, sym, ap, ap₂, ◌∙◌}
use mathlib.Core.Bool.{false}
use native.Mathlib.Omega.{arith}
use lib.ListN.{length}
use Rattle.sets.specs.Sets.{within, boards}
use Rattle.covering.specs.Pairs.{union_of}
use Rattle.refusals.specs.Outcome.{verdict}
use Rattle.covering.specs.Cover.{covering}
use Rattle.covering.proofs.Together.{uncovered}
use Rattle.covering.proofs.covering.judge_cover.Goals as goal

pub returns-else-within : goal.returns-else-within
unfolding verdict covering
returns-else-within c =
    let n = c.args.n in
    let sets = c.args.sets.now in
    let e : within (boards n) (union_of sets (length sets)) ≡ false =
    ap (λ x. within (boards x) (union_of sets (length sets))) (let z : n ≡ min n 8 = omega (arith, c.requires.most-boards) in z)
    ∙ sym (c.within.ensures ∙ ap₂ within c.all_boards.ensures c.union_of.ensures) ∙ c.if-within.false in
    rw (uncovered sets n e)
