-- `explained_by` meets its contract.
use Rattle.std.proofs.Common.{◌∙◌, rules, tests, arith}
use Rattle.std.proofs.lemmas.Iterator.{YieldsList-from_range}
use Rattle.std.proofs.lemmas.Iterator.Search.{any_from_yields_List}
use Rattle.sets.proofs.Bridges.{any-range}
use Rattle.voting.specs.Tables.{explains, explained_by}
use Rattle.explaining.proofs.explained.explained_by.Goals as goal

pub returns : goal.returns
unfolding explained_by
returns c =
    let a = c.args in
    let test = explains a.tabled.now.plan a.boards a.values a.list in
    any_from_yields_List test _ _ _ c.any.ensures.ran (YieldsList-from_range 0 a.tabled.now.plan.n a.tabled.now.plan.n (cc) (omega arith)) (λ x b q k. search (rules, tests)) ∙ any-range test a.tabled.now.plan.n
