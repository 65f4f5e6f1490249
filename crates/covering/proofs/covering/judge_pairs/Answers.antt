use Rattle.std.proofs.Common.{◌<◌, refl, sym, subst, ◌∙◌, arith, rules}
use Rattle.std.specs.Option.{IsSome}
use Rattle.refusals.specs.Outcome.{verdict, refusal}
use Rattle.covering.specs.Pairs.{third_held}
use Rattle.covering.proofs.Pairs.{PairTriple, pairs-hit, pairs-miss}
use Rattle.covering.proofs.Place.{no-place, is-place, byte-some, first-listed, has-second, places-triple, found-triple}
use Rattle.covering.proofs.covering.judge_pairs.Goals as goal
use Rattle.covering.proofs.covering.judge_pairs.Goals.{After-unwrap-j, After-unwrap-k}

pub returns-in_default : goal.returns-in_default
unfolding verdict
returns-in_default c =
    let a = c.args in
    sym (pairs-miss a.n a.sets.now (no-place a.sets.now _ c.in_default.ensures))

pub unwrap-j-requires : goal.unwrap-j-requires
unwrap-j-requires c =
    let a = c.args in
    subst IsSome (sym (c.second_held.ensures ∙ is-place a.sets.now _ (has-second a.n a.sets.now c.in-Some.i c.in-Some.ensures))) refl

-- The places that are found, with the first set that holds what they leave.
triple : (c : After-unwrap-j)
    → let a = c.args in
    let j = c.unwrap-j.result in
    PairTriple a.n a.sets.now c.in-Some.i j (third_held a.n a.sets.now c.in-Some.i j)
triple c =
    let a = c.args in
    places-triple a.n a.sets.now c.in-Some.i c.in-Some.ensures c.unwrap-j.result _ (sym c.unwrap-j.ensures ∙ c.second_held.ensures) refl

pub third_held-requires : goal.third_held-requires
third_held-requires c =
    let a = c.args in
    let i = first-listed a.n a.sets.now c.in-Some.i c.in-Some.ensures in
    let t = triple (goal.at.third_held-requires c).After-unwrap-j in
    record { tabled = search rules; pair = record { most-boards = search rules; first-listed = i; second-listed = t.second-listed } }

pub unwrap-k-requires : goal.unwrap-k-requires
unwrap-k-requires c =
    let t = triple (goal.at.unwrap-k-requires c).After-unwrap-j in
    subst IsSome (sym (byte-some _ _ c.third_held.ensures (omega (arith, t.third-listed, c.requires.most-sets)))) refl

-- All three.
found : (c : After-unwrap-k)
    → let a = c.args in PairTriple a.n a.sets.now c.in-Some.i c.unwrap-j.result c.unwrap-k.result
found c =
    let a = c.args in
    found-triple a.n a.sets.now c.in-Some.i c.in-Some.ensures c.unwrap-j.result c.unwrap-k.result c.third_held.result
    (sym c.unwrap-j.ensures ∙ c.second_held.ensures) c.unwrap-k.ensures c.third_held.ensures c.requires.most-sets

-- They are bytes.
fit : (c : After-unwrap-k) → (c.in-Some.i < 256) × (c.unwrap-j.result < 256) × (c.unwrap-k.result < 256)
fit c =
    let a = c.args in
    let i = first-listed a.n a.sets.now c.in-Some.i c.in-Some.ensures in
    let t = found c in
    let l = c.requires.most-sets in
    (omega (arith, i, l), omega (arith, t.second-listed, l), omega (arith, t.third-listed, l))

pub overflow_cast-result : goal.overflow_cast-result
overflow_cast-result c = let (i, j, k) = fit (goal.at.overflow_cast-result c).After-unwrap-k in search rules

pub overflow_cast-result-2 : goal.overflow_cast-result-2
overflow_cast-result-2 c = let (i, j, k) = fit (goal.at.overflow_cast-result-2 c).After-unwrap-k in search rules

pub overflow_cast-result-3 : goal.overflow_cast-result-3
overflow_cast-result-3 c = let (i, j, k) = fit (goal.at.overflow_cast-result-3 c).After-unwrap-k in search rules

pub returns : goal.returns
unfolding verdict refusal
returns c =
    let a = c.args in
    let i = c.in-Some in
    sym (pairs-hit a.n a.sets.now i.i _ _ (first-listed a.n a.sets.now i.i i.ensures) (found (goal.at.returns c).After-unwrap-k))
