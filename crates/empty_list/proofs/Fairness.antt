-- With an accepted plan on an empty list no board is faulty, there is one round, and who has closed it has decided the dealer's value.
-- From demand 3. Assumes nothing.
use Prim.Native.Nat.{ℕ, ◌+◌}
use mathlib.Core.Path.{◌≡◌, sym, ◌∙◌, ap}
use mathlib.Core.Logic.{◌≢◌}
use mathlib.Core.Bool.{false}
use native.Mathlib.Omega.{arith}
use lib.Dec.{eqb}
use borrow.Author.Tests.{eqb-false, le-ltb}
use Rattle.sets.specs.Sets.{member, within}
use Rattle.sets.specs.Structure.{tolerated}
use Rattle.sets.proofs.Tests.{cases}
use Rattle.sets.proofs.Member.{member-empty, nothing-within}
use Rattle.plan.specs.declared.plan.Plan.{Plan}
use Rattle.heights.specs.Levels.{largest, height, is_cut}
use Rattle.schedule.specs.Schedule.{rounds, runs, steps}
use Rattle.protocol.specs.Listing.{as_set}
use Rattle.protocol.specs.Session.{begun}
use Rattle.agreement.specs.Lists.{PastLast, closings, list_after, Agreement}
use Rattle.agreement.proofs.Demand.{demand3}
use Rattle.empty_list.specs.Empty.{EmptyAgrees}
use Rattle.empty_list.proofs.AsZero.{only-empty, lists-none}

-- The tree of a plan with no sets is its root.
module _ (p : Plan) (none : p.count ≡ 0) where
  flat : height p ≡ 1
  unfolding height largest
  flat = ap (λ l. largest l p.dealer + 1) (lists-none p none)

  uncut : is_cut p ≡ false
  unfolding is_cut
  uncut =
      cases (eqb p.depth 0)
      (λ e. rw e)
      (λ e. let ne : p.depth ≢ 0 = eqb-false p.depth 0 e in
      rw (e, flat, le-ltb p.depth 1 (omega arith)))

  one-round : (rounds p).0 ≡ 1
  unfolding rounds
  one-round = rw uncut flat

  one-run : (runs p).0 ≡ 1
  unfolding runs
  one-run = rw uncut

  one-step : steps p ≡ 1
  unfolding steps
  one-step = rw (one-round, one-run)

pub empty-agrees : EmptyAgrees
empty-agrees s calls none sound fair =
    let p = s.plan in
    let agreed : Agreement s calls = demand3 s calls sound fair in
    let nobody : s.faulty ≡ 0 = (only-empty s.faulty).0 (ap (λ l. tolerated l s.faulty) (sym (lists-none p none)) ∙ sound.tolerable) in
    let healthy : member p.dealer s.faulty ≡ false = ap (member p.dealer) nobody ∙ member-empty p.dealer in
    let past : (i : ℕ) → closings (begun s) i calls ≡ 1 → PastLast s calls i = λ i e. e ∙ sym (one-step p none) in
    record {
      nobody-faulty = nobody;
      one-run = one-run p none;
      one-round = one-round p none;
      one-step = one-step p none;
      decided = λ i k e. (agreed.decided i k).1 (past i e);
      dealers = λ i k e. agreed.valid healthy i k (past i e);
      nobody-listed = λ i k. nothing-within (as_set (list_after s calls i)) (ap (within (as_set (list_after s calls i))) (sym nobody) ∙ agreed.sound i k);
    }
