-- 02 a: "an empty list means that only the empty set is tolerated, the same as a list with the one set 00."
use Rattle.std.specs.Prelude.{ℕ, ◌≤◌, ◌<◌, ◌≡◌, ◌≢◌, ◌↔◌, true, List, [], ◌∷◌}
use Rattle.std.proofs.Math.Option.{some}
use Rattle.sets.specs.Structure.{holder, tolerated}
use Rattle.plan.specs.declared.plan.Plan.{Plan}
use Rattle.plan.specs.Listed.{listed}
use Rattle.plan.specs.Calls.{planned}
use Rattle.refusals.specs.Outcome.{taken}
use Rattle.settings.specs.declared.settings.Settings.{Settings}
use Rattle.admission.specs.Calls.{admitting}
use Rattle.settings.specs.Planning.{planning}
use Rattle.schedule.specs.Schedule.{rounds, runs, steps}
use Rattle.protocol.specs.Listing.{as_set}
use Rattle.protocol.specs.Session.{Setting, begun, keeper, Sound}
use Rattle.agreement.specs.Lists.{Call, Fair, state, closings, list_after}
use Rattle.alike.specs.Alike.{SameCalls}

-- The empty list tolerates the empty set and no other.
abbrev pub OnlyEmpty : Type 0
OnlyEmpty = (a : ℕ) → (tolerated [] a ≡ true) ↔ (a ≡ 0)

-- It is admitted for every number of boards.
abbrev pub EmptyAdmitted : Type 0
EmptyAdmitted = (n : ℕ) → 0 < n → n ≤ 7 → admitting n 0 [] ≡ taken []

-- The empty list and the list 00 tolerate the same sets, and hold each at the same place: the empty set at 0.
pub record SameSets : Type 0 where
  pub first-place : holder [] 0 ≡ some 0
  pub tolerate : (a : ℕ) → tolerated [] a ≡ tolerated (0 ∷ []) a
  pub hold : (a : ℕ) → holder [] a ≡ holder (0 ∷ []) a

-- A plan with no sets, and the same plan with the list 00.
pub record EmptyAndZero (p q : Plan) : Type 0 where
  pub n : p.n ≡ q.n
  pub dealer : p.dealer ≡ q.dealer
  pub span : p.span ≡ q.span
  pub default : p.default ≡ q.default
  pub depth : p.depth ≡ q.depth
  pub none : p.count ≡ 0
  pub one : q.count ≡ 1
  pub zero : listed q ≡ 0 ∷ []

-- Admitting and planning answer the same for both, and planning gives such a pair of plans, or the void plan for both.
pub record SameAnswers : Type 0 where
  pub admits : (n : ℕ) → admitting n 0 [] ≡ admitting n 1 (0 ∷ [])
  pub answers : (n : ℕ) (s : Settings) → planning n 0 [] s ≡ planning n 1 (0 ∷ []) s
  pub plans : (n : ℕ) (s : Settings) → (planning n 0 [] s).number ≡ 0 → EmptyAndZero (planned n [] s) (planned n (0 ∷ []) s)
  pub voids : (n : ℕ) (s : Settings) → (planning n 0 [] s).number ≢ 0 → planned n [] s ≡ planned n (0 ∷ []) s

-- Every call on the one is the call on the other.
abbrev pub EmptyAsZero : Type 0
EmptyAsZero = (p q : Plan) → EmptyAndZero p q → SameCalls p q

-- 02 a: "With such a list F is empty, and after a fair list every board past its one round has decided the dealer's value."
pub record EmptyAgreement (s : Setting) (calls : List Call) : Type 0 where
  pub nobody-faulty : s.faulty ≡ 0
  pub one-run : (runs s.plan).0 ≡ 1
  pub one-round : (rounds s.plan).0 ≡ 1
  pub one-step : steps s.plan ≡ 1
  -- a board that has closed it
  pub decided : (i : ℕ) → keeper s i ≡ true → closings (begun s) i calls ≡ 1 → (state s calls i).rec.decided ≡ true
  pub dealers : (i : ℕ) → keeper s i ≡ true → closings (begun s) i calls ≡ 1 → (state s calls i).rec.decision ≡ s.word
  pub nobody-listed : (i : ℕ) → keeper s i ≡ true → as_set (list_after s calls i) ≡ 0

abbrev pub EmptyAgrees : Type 0
EmptyAgrees = (s : Setting) (calls : List Call) → s.plan.count ≡ 0 → Sound s → Fair s calls → EmptyAgreement s calls
