-- `second_held` meets its contract: the first place, from i on, for which the others are held.
use Rattle.std.proofs.Common.{rules, tests, length}
use Rattle.std.proofs.lemmas.Iterator.{YieldsList-from_range}
use Rattle.std.proofs.lemmas.Iterator.Search.{find_from_yields_List}
use Rattle.sets.specs.Structure.{tolerated}
use Rattle.sets.proofs.Bridges.{found-place}
use Rattle.covering.specs.Pairs.{second_held, others, place_in}
use Rattle.covering.proofs.covering.second_held.Goals as goal

pub returns : goal.returns
unfolding second_held place_in
returns c =
    let a = c.args in
    found-place (λ j. tolerated a.sets.now (others a.n a.sets.now a.i j)) a.i (length a.sets.now) _
    (find_from_yields_List (λ j. tolerated a.sets.now (others a.n a.sets.now a.i j)) _ _ _ c.find.ensures.ran (YieldsList-from_range a.i (length a.sets.now) _ (cc) (cc)) (λ x b q k. search (rules, tests)))
