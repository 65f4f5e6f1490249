-- `gather_word` meets its contract.
use native.Mathlib.Omega.{arith}
use Rattle.tree.proofs.Places.{some-cell}
use Rattle.gathering.proofs.gathering.gather_word.Goals as goal

pub bounds-cells-0 : goal.bounds-cells-0
bounds-cells-0 c =
    omega (arith, some-cell c.args.plan.n c.args.plan.dealer c.requires.dealer-below, c.requires.enough)
