-- `skip_to_step` meets its contract.
use Prim.Native.Nat.{◌≤◌}
use mathlib.Core.Path.{ap, sym, ◌∙◌}
use native.Mathlib.Omega.{arith}
use borrow.Author.Rules.{rules}
use Rattle.finding.specs.Frames.{frames_in, skip_frames}
use Rattle.session.specs.Steps.{step_key}
use Rattle.session.proofs.Steps.{Later, first_key, later}
use Rattle.session.proofs.rounds.skip_to_step.Goals as goal
use Rattle.session.proofs.rounds.skip_to_step.Goals.{After-from-later}

-- A step after the first.
numbers : (c : After-from-later)
    → let a = c.args in
    Later a.plan c.from-later.result a.j
numbers c =
    let a = c.args in
    let last = c.rounds-last in
    let round : last.result.0 ≤ 255 = search rules in
    let boards : a.plan.n ≤ 255 = search rules in
    rw c.from-later.ensures (later a.plan last.result a.j last.ensures round boards (omega (arith, c.if-j-eq0.false)) c.requires)

pub returns-then-j-eq0 : goal.returns-then-j-eq0
returns-then-j-eq0 c =
    let a = c.args in
    c.skip_to.ensures
    ∙ ap (λ k. skip_frames k (frames_in a.frames.now)) (first_key a.plan ∙ ap (step_key a.plan) (sym c.if-j-eq0.true))

pub overflow_sub-later : goal.overflow_sub-later
overflow_sub-later c = omega (arith, (numbers c).long)

pub nonzero_div-run : goal.nonzero_div-run
nonzero_div-run c = omega (arith, (numbers c).long)

pub overflow_add-run : goal.overflow_add-run
overflow_add-run c = record { fits = omega (arith, (numbers c).run_fits) }

pub overflow_cast-run : goal.overflow_cast-run
overflow_cast-run c = record { fits = omega (arith, (numbers c).run_fits) }

pub overflow_add-round : goal.overflow_add-round
overflow_add-round c = record { fits = omega (arith, (numbers c).round-fits) }

pub overflow_cast-round : goal.overflow_cast-round
overflow_cast-round c = record { fits = omega (arith, (numbers c).round-fits) }

pub returns : goal.returns
returns c =
    let a = c.args in
    c.skip_to-2.ensures ∙ ap (λ k. skip_frames k (frames_in a.frames.now)) (numbers ((goal.at.returns c).After-from-later)).key

pub nonzero_rem-round : goal.nonzero_rem-round
nonzero_rem-round c = omega (arith, (numbers c).long)
