use mathlib.Core.Path.{◌≡◌, ap, ◌∙◌}
use native.Mathlib.Omega.{arith}
use native.Mathlib.Numerals.{add-one}
use lib.ListN.{set}
use borrow.Author.Rules.{rules}
use Rattle.holders.specs.Filling.{stage, folding}
use Rattle.holders.proofs.Filling.{fold-stage, filled}
use Rattle.holders.proofs.table.holders_of.Goals as goal

pub loop-preserved : goal.loop-preserved
loop-preserved c =
    let a = c.args in
    let l = c.loop in
    rw add-one (c.folded-table.ensures ∙ ap folding l.invariant ∙ fold-stage a.sets.now (search rules) l.counter)

pub returns : goal.returns
returns c =
    let a = c.args in
    let l = c.loop in
    let z : l.counter ≡ 7 = omega arith in
    ap (λ x. set x 0 0) (l.invariant ∙ ap (stage a.sets.now) z) ∙ filled a.sets.now
