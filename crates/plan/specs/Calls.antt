-- The public call that makes a plan, and what it says of a plan's own fields.
use Rattle.std.specs.Prelude.{ℕ, ◌-◌, cond, List, ◌++◌, eqb, length, replicate, [], Result, Ok, Err}
use Rattle.refusals.specs.Outcome.{Outcome, taken, refusal}
use Rattle.refusals.specs.declared.refusal.Refusal.{Refusal}
use Rattle.settings.specs.Planning.{planning}
use Rattle.plan.specs.Listed.{listed}
use Rattle.plan.specs.declared.plan.Plan.{Plan}
use Rattle.settings.specs.declared.settings.Settings.{Settings}

-- The plan returned beside a refusal: one void value, which no call accepts.
unfoldable pub void_plan : Plan
void_plan = record { n = 0; dealer = 0; span = 0; default = 0; depth = 0; count = 0; sets = replicate 32 0 }

-- The plan on a list of at most 32 sets: the slots past the count hold 00.
unfoldable pub plan_on : ℕ → List ℕ → Settings → Plan
plan_on n sets s = record {
  n = n;
  dealer = s.dealer;
  span = s.span;
  default = s.default;
  depth = s.depth;
  count = length sets;
  sets = sets ++ replicate (32 - length sets) 0;
}

-- The plan that planning gives.
unfoldable pub planned : ℕ → List ℕ → Settings → Plan
planned n sets s = cond (eqb (planning n (length sets) sets s).number 0) (plan_on n sets s) void_plan

-- The answer to planning, and the plan beside it.
pub record Plans : Type 0 where
  pub answer : Outcome
  pub plan : Plan

abbrev pub plans : ℕ → List ℕ → Settings → Plans
plans n sets s = record { answer = planning n (length sets) sets s; plan = planned n sets s }

-- What planning answers says of both: the plan, or the refusal with the void plan beside it.
unfoldable pub plan_says : Result Plan Refusal → Plans
plan_says (Ok p) = record { answer = taken []; plan = p }
plan_says (Err why) = record { answer = refusal why; plan = void_plan }

-- The settings of a plan.
abbrev pub settings_of : Plan → Settings
settings_of p = record { dealer = p.dealer; span = p.span; default = p.default; depth = p.depth }

-- What planning says of a plan's own fields (01, number 12: "a record whose plan or board would meet 1 to 10", and 26 by 02 b; 9 and 10 are the
-- board's).
unfoldable pub judged : Plan → Outcome
judged p = planning p.n p.count (listed p) (settings_of p)
