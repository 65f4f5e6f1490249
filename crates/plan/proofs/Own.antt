-- What planning says of a plan's own fields.
-- Assumes nothing.
use Prim.Native.Nat.{ℕ, ◌≤◌, ◌<◌}
use mathlib.Core.Path.{◌≡◌, ap, ◌∙◌}
use mathlib.Core.Logic.{◌≢◌}
use native.Mathlib.Omega.{arith}
use lib.ListN.{length, take}
use lib.Seq.{length-take-le}
use borrow.Author.Tests.{eq-eqb, ne_eqb, lt-ltb, le-ltb}
use Rattle.plan.specs.declared.plan.Plan.{Plan}
use Rattle.plan.specs.Listed.{listed}
use Rattle.refusals.specs.Outcome.{refused, and_then}
use Rattle.admission.specs.Calls.{admitting}
use Rattle.settings.specs.Planning.{planning}
use Rattle.plan.specs.Calls.{settings_of, judged}

-- A plan with a count above 32.
pub judged-none : (p : Plan) → p.n ≡ 0 → judged p ≡ refused 1
unfolding judged planning admitting and_then
judged-none p e = rw (eq-eqb p.n 0 e)

pub judged-over : (p : Plan) → 7 < p.n → judged p ≡ refused 1
unfolding judged planning admitting and_then
judged-over p l = rw (ne_eqb p.n 0 (omega arith), lt-ltb 7 p.n l)

pub judged-sets : (p : Plan) → p.n ≢ 0 → p.n ≤ 7 → 32 < p.count → judged p ≡ refused 3
unfolding judged planning admitting and_then
judged-sets p ne l h =
    rw (ne_eqb p.n 0 ne, le-ltb 7 p.n l, lt-ltb 32 p.count h)

-- The listed sets of any other plan are a part of the slots.
pub judged-slots : (p : Plan) (k : ℕ) → k ≡ p.count → p.count ≤ length p.sets
    → planning p.n (length (take k p.sets)) (take k p.sets) (settings_of p) ≡ judged p
unfolding judged listed
judged-slots p k e h =
    ap (λ k. planning p.n (length (take k p.sets)) (take k p.sets) (settings_of p)) e
    ∙ ap (λ k. planning p.n k (listed p) (settings_of p)) (length-take-le p.count p.sets h)

-- For `Plan::judge`, whose attribute takes no name with a dash.
pub ruleset judging = (judged-none, judged-over, judged-sets, judged-slots)
