-- The list of specs/Stays: its boards hold one root after run 1, so the one that has closed run 2 holds it after that run too.
-- Assumes nothing.
use Prim.Native.Nat.{ℕ}
use mathlib.Core.Path.{◌≡◌, refl}
use mathlib.Core.Bool.{true}
use native.Mathlib.Omega.{arith}
use Rattle.sets.specs.Sets.{member}
use Rattle.sets.proofs.Tests.{clash}
use Rattle.plan.specs.Calls.{plan_on}
use Rattle.tree.specs.Places.{level_size, level_start, cell_count}
use Rattle.protocol.specs.Session.{keeper, Sound}
use Rattle.agreement.specs.Lists.{Fair, EndsRun, root, Agreement}
use Rattle.agreement.proofs.FairCheck.{checked-fair}
use Rattle.agreement.proofs.Demand.{demand3}
use Rattle.cut_list.specs.Stays.{stays_setting, stays_calls, stays_before, stays_later}
use Rattle.cut_list.proofs.Fair.{computed, both-keepers}

pub stays-sound : Sound stays_setting
unfolding stays_setting plan_on member cell_count level_size level_start
stays-sound = record {
  accepted = computed.stays-accepted;
  tolerable = computed.stays-tolerable;
  word_below = λ e. clash refl e;
  cells-enough = λ i _. omega arith;
}

pub stays-fair : Fair stays_setting stays_calls
stays-fair = checked-fair stays_setting stays_calls computed.stays-fair

pub stays-agrees : Agreement stays_setting stays_calls
stays-agrees = demand3 stays_setting stays_calls stays-sound stays-fair

-- All boards that keep cells close run 1, and hold 7 after it.
stays-ends : (j : ℕ) → keeper stays_setting j ≡ true → EndsRun stays_setting 1 j (stays_before j) stays_calls
unfolding stays_setting plan_on
stays-ends =
    both-keepers stays_setting 3 4 computed.stays-keepers (λ j. EndsRun stays_setting 1 j (stays_before j) stays_calls) computed.stays-ends3 computed.stays-ends4

hold-seven : (j : ℕ) → keeper stays_setting j ≡ true → root stays_setting j (stays_before j) ≡ 7
unfolding stays_setting plan_on
hold-seven = both-keepers stays_setting 3 4 computed.stays-keepers (λ j. root stays_setting j (stays_before j) ≡ 7) computed.stays-root3 computed.stays-root4

-- So board 4 holds 7 after run 2, although boards 1 and 2 told it 9 and board 3 has not closed that run (`stays-behind`).
pub still-seven : root stays_setting 4 stays_later ≡ 7
unfolding stays_setting plan_on keeper member
still-seven = stays-agrees.stays 1 2 7 stays_before 4 stays_later stays-ends hold-seven (omega arith) refl computed.stays-later
