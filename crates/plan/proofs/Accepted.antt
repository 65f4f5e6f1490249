-- What an accepted plan meets, and the plan that planning gives.
-- Assumes nothing.
use Prim.Native.Nat.{ℕ, ◌-◌, ◌≤◌, ◌<◌}
use mathlib.Core.Path.{◌≡◌, refl, ◌∙◌, ap}
use mathlib.Core.Logic.{◌≢◌}
use mathlib.Core.Bool.{true, not, cond}
use mathlib.Core.List.{List}
use native.Mathlib.Omega.{arith}
use lib.Dec.{leb, ltb}
use lib.ListN.{length, replicate}
use borrow.Author.Tests.{eq-eqb, ne_eqb, ltb-false, leb-false}
use Rattle.refusals.specs.Outcome.{refused, and_then}
use Rattle.settings.specs.declared.settings.Settings.{Settings}
use Rattle.admission.specs.Calls.{admitting}
use Rattle.settings.specs.Planning.{is_depth, judge_settings, planning}
use Rattle.plan.specs.Calls.{planned, plan_on, void_plan, judged}
use Rattle.plan.specs.Listed.{listed}
use Rattle.refusals.proofs.Outcomes.{passed, both-taken}
use Rattle.admission.proofs.Admitted.{Admitted, admitted}
use lib.Seq.{take-append_seam}
use Rattle.sets.proofs.Tests.{not_f}

-- What an accepted plan meets.
pub record Accepted (n count : ℕ) (sets : List ℕ) (s : Settings) : Type 0 where
  pub admission : Admitted n count sets
  pub dealer-below : s.dealer < n
  pub two-values : 2 ≤ s.span
  pub default_below : s.default < s.span
  pub depth-good : is_depth s.depth ≡ true

pub accepted : (n count : ℕ) (sets : List ℕ) (s : Settings) → (planning n count sets s).number ≡ 0
    → Accepted n count sets s
unfolding planning judge_settings
accepted n count sets s e =
    let (first, second) = both-taken (admitting n count sets) (judge_settings n s) e in
    let (p6, e6) = passed (leb n s.dealer) (refused 6) _ (omega arith) second in
    let (p7, e7) = passed (ltb s.span 2) (refused 7) _ (omega arith) e6 in
    let (p26, e26) = passed (leb s.span s.default) (refused 26) _ (omega arith) e7 in
    let (p8, e8) = passed (not (is_depth s.depth)) (refused 8) _ (omega arith) e26 in
    record {
      admission = admitted n count sets first;
      dealer-below = leb-false n s.dealer p6;
      two-values = ltb-false s.span 2 p7;
      default_below = leb-false s.span s.default p26;
      depth-good = not_f (is_depth s.depth) p8;
    }

-- The plan that planning gives, by its number.
module _ (n : ℕ) (sets : List ℕ) (s : Settings) where
  pub planned-taken : (planning n (length sets) sets s).number ≡ 0
      → planned n sets s ≡ plan_on n sets s
  unfolding planned
  planned-taken e =
      ap (λ b. cond b (plan_on n sets s) void_plan) (eq-eqb (planning n (length sets) sets s).number 0 e)

  pub planned-refused : (planning n (length sets) sets s).number ≢ 0 → planned n sets s ≡ void_plan
  unfolding planned
  planned-refused e =
      ap (λ b. cond b (plan_on n sets s) void_plan) (ne_eqb (planning n (length sets) sets s).number 0 e)

  -- What planning accepted is judged so again.
  pub planned-judged : (planning n (length sets) sets s).number ≡ 0
      → judged (planned n sets s) ≡ planning n (length sets) sets s
  unfolding judged listed plan_on
  planned-judged e =
      ap judged (planned-taken e)
      ∙ ap (λ x. planning n (length sets) x s) (take-append_seam sets (replicate (32 - length sets) 0))

-- No call accepts the plan beside a refusal.
pub void-judged : judged void_plan ≡ refused 1
unfolding judged void_plan planning and_then admitting
void-judged = refl

pub most-listed : (n count : ℕ) (sets : List ℕ) (s : Settings) → (planning n count sets s).number ≡ 0 → count ≤ 32
most-listed n count sets s e = (accepted n count sets s e).admission.most-sets

-- For `Plan::new`, whose attribute takes no name with a dash.
pub ruleset planning_gives = (most-listed, planned-taken, planned-refused)
