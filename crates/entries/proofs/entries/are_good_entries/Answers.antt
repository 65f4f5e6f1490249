-- `are_good_entries` meets its contract.
use Rattle.std.proofs.Common.{◌∙◌, ◌≡◌, length, rules, tests}
use Rattle.std.proofs.lemmas.Iterator.{YieldsList-from_slice}
use Rattle.std.proofs.lemmas.Iterator.Search.{all_from_yields_List}
use Rattle.entries.proofs.Good.{good, good-all}
use Rattle.entries.proofs.entries.are_good_entries.Goals as goal

pub returns : goal.returns
returns c =
    let a = c.args in
    let seven : length a.list ≡ 7 = search rules in
    all_from_yields_List (good a.last a.end) _ _ _ c.all.ensures.ran (YieldsList-from_slice a.list cc) (λ x b q k. search (rules, tests))
    ∙ good-all a.last a.end a.list seven
