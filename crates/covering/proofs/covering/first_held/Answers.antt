-- `first_held` meets its contract: the first place for which there is a second.
use Rattle.std.proofs.Common.{ℕ, ◌-◌, ◌≡◌, arith, rules, tests, length, ltb}
use Rattle.std.proofs.lemmas.Iterator.{YieldsList-from_range}
use Rattle.std.proofs.lemmas.Iterator.Search.{find_from_yields_List}
use Rattle.sets.proofs.Bridges.{found-place}
use Rattle.covering.specs.Pairs.{first_held, second_held, place_in}
use Rattle.covering.proofs.Place.{place_test}
use Rattle.covering.proofs.covering.first_held.Goals as goal

pub returns : goal.returns
unfolding first_held place_in
returns c =
    let a = c.args in
    let test = λ (i : ℕ). ltb (second_held a.n a.sets.now i) (length a.sets.now) in
    let whole : length a.sets.now - 0 ≡ length a.sets.now = omega arith in
    rw whole at (found-place test 0 (length a.sets.now) _
    (find_from_yields_List test _ _ _ c.find.ensures.ran (YieldsList-from_range 0 (length a.sets.now) _ (cc) (cc)) (λ x b q k. search (rules, tests, place_test))))
