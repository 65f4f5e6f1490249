-- `holder` meets its contract: the first listed set that holds a.
use Rattle.std.proofs.Common.{rules, tests}
use Rattle.std.proofs.lemmas.Iterator.{YieldsList-from_slice}
use Rattle.std.proofs.lemmas.Iterator.Search.{position_from_yields_List}
use Rattle.sets.specs.Sets.{within}
use Rattle.tolerance.proofs.Placed.{empty-placed, placed}
use Rattle.tolerance.proofs.structure.holder.Goals as goal

pub returns-then-a-eq0 : goal.returns-then-a-eq0
returns-then-a-eq0 c = empty-placed c.args.sets.now c.args.a c.if-a-eq0.true

pub returns : goal.returns
returns c =
    let a = c.args in
    placed a.sets.now a.a _ c.if-a-eq0.false (position_from_yields_List (λ s. within a.a s) _ _ _ c.position.ensures.ran (YieldsList-from_slice a.sets.now cc) (λ x b q k. search (rules, tests)))
