-- What the answer to planning says determines it: what is said of both the plan too, the number and values alone all but the
-- plan.
-- Assumes nothing.
use mathlib.Core.Path.{◌≡◌, refl, sym, ◌∙◌, ap}
use mathlib.Core.Bool.{cond}
use lib.Dec.{eqb}
use borrow.Author.Tests.{ne_eqb}
use Rattle.std.specs.Prelude.{Result, Ok, Err}
use Rattle.refusals.specs.declared.refusal.Refusal.{Refusal}
use Rattle.refusals.specs.Outcome.{refusal, verdict}
use Rattle.refusals.proofs.Outcomes.{refusal-number}
use Rattle.refusals.proofs.Injective.{why, why-refusal, verdict-injective}
use Rattle.plan.specs.declared.plan.Plan.{Plan}
use Rattle.plan.specs.Calls.{Plans, plan_says}

-- The answer to planning, but for the plan.
pub plan_answer : Result Plan Refusal → Result (Unit {0}) Refusal
plan_answer (Ok p) = Ok tt
plan_answer (Err w) = Err w

pub plan-said : (a b : Result Plan Refusal) → (plan_says a).answer ≡ (plan_says b).answer → plan_answer a ≡ plan_answer b
plan-said a b e = verdict-injective (plan_answer a) (plan_answer b) (sym (same a) ∙ e ∙ same b)
  where
    same : (a : Result Plan Refusal) → (plan_says a).answer ≡ verdict (plan_answer a)
    same (Ok p) = unfold plan_says plan_answer verdict in refl
    same (Err w) = unfold plan_says plan_answer verdict in refl

plan_back : Plans → Result Plan Refusal
plan_back x = cond (eqb x.answer.number 0) (Ok x.plan) (Err (why x.answer))

pub plan-injective : (a b : Result Plan Refusal) → plan_says a ≡ plan_says b → a ≡ b
plan-injective a b e = sym (back a) ∙ ap plan_back e ∙ back b
  where
    back : (a : Result Plan Refusal) → plan_back (plan_says a) ≡ a
    back (Ok p) = unfold plan_says plan_back in refl
    back (Err r) = unfold plan_says plan_back in rw (ne_eqb (refusal r).number 0 (refusal-number r)) (ap Err (why-refusal r))
