-- `judge_faulty` meets its contract: 23.
use Prim.Native.Nat.{min}
use mathlib.Core.Path.{◌≡◌, refl, sym, ap, ◌∙◌}
use native.Mathlib.Omega.{arith}
use Rattle.sets.specs.Sets.{within, boards}
use Rattle.sets.specs.Structure.{tolerated}
use Rattle.refusals.specs.Outcome.{refusal, verdict}
use Rattle.tolerance.proofs.Places.{is-found}
use Rattle.fields.proofs.fields.judge_faulty.Goals as goal
use Rattle.fields.proofs.fields.judge_faulty.Goals.{After-within, else-within-via-then-within+else-is_some, else-within-via-else-within}

-- The set names boards of the plan, or not.
named : (c : After-within) → let a = c.args in within a.faulty (boards (min a.n 7)) ≡ c.within.result
named c =
    let a = c.args in
    let seven : min c.min.result 8 ≡ min a.n 7 = omega (arith, c.min.ensures) in
    sym (c.within.ensures ∙ ap (within a.faulty) (c.all_boards-all.ensures ∙ ap boards seven))

pub returns-then-is_some : goal.returns-then-is_some
unfolding verdict refusal tolerated
returns-then-is_some c =
    rw (named (goal.at.returns-then-is_some c).After-within ∙ c.if-within.true, sym (is-found _ _ c.holder.ensures) ∙ sym c.is_some.ensures ∙ c.if-is_some.true) refl

pub returns-else-within : goal.returns-else-within
unfolding verdict refusal tolerated
returns-else-within c =
    let inside = named (goal.at.returns-else-within c).After-within in
    elim c.else-within.branch [
      | else-within-via-then-within+else-is_some w ↦ rw (inside ∙ w.if-within.true, sym (is-found _ _ w.holder.ensures) ∙ sym w.is_some.ensures ∙ w.if-is_some.false) refl
      | else-within-via-else-within w ↦ rw (inside ∙ w.if-within.false) refl
    ]
