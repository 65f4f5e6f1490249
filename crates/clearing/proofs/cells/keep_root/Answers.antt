-- `keep_root` meets its contract.
use mathlib.Core.Path.{ap, ◌∙◌}
use native.Mathlib.Omega.{arith}
use lib.ListN.{set}
use Rattle.codec.specs.Codec.{current}
use Rattle.protocol.proofs.Judgement.{plan-facts}
use Rattle.tree.proofs.Places.{some-cell}
use Rattle.clearing.proofs.Cleared.{cleared-root}
use Rattle.clearing.proofs.cells.keep_root.Goals as goal

pub bounds-cells-0 : goal.bounds-cells-0
bounds-cells-0 c =
    let p = c.args.plan in
    omega (arith, some-cell p.n p.dealer (plan-facts p c.requires.accepted).dealer-below, c.requires.enough, c.clear.auto.cells)

pub returns : goal.returns
returns c =
    let a = c.args in
    ap (λ x. set x 0 a.root) c.clear.ensures
    ∙ cleared-root current a.plan.n a.root a.cells.now (some-cell a.plan.n a.plan.dealer (plan-facts a.plan c.requires.accepted).dealer-below)
