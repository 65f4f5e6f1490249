-- The empty list and the list 00: the same sets, answers and calls.
-- Assumes nothing.
use Prim.Native.Nat.{ℕ, ◌<◌}
use mathlib.Core.Path.{◌≡◌, refl, sym, ◌∙◌, ap, subst₂}
use mathlib.Core.Logic.{◌≢◌, ⊎_elim}
use mathlib.Core.Bool.{false, ◌||◌}
use mathlib.Core.List.{[], ◌∷◌}
use native.Mathlib.Omega.{arith}
use lib.Dec.{eqb, ltb}
use lib.ListN.{take}
use borrow.Author.Tests.{eqb-true, eqb-false, ne_eqb, lt-ltb, le-ltb}
use Rattle.sets.specs.Search.{any, first}
use Rattle.sets.specs.Sets.{member, union, within, boards}
use Rattle.sets.specs.Structure.{holder, is_some, tolerated}
use Rattle.sets.proofs.Tests.{cases, clash, is_false, or_l}
use Rattle.sets.proofs.Member.{member-empty, member-boards, within-empty, nothing-within}
use Rattle.sets.proofs.Tolerated.{holds, holder-empty, holder-none, tolerated-empty, tolerated-listed}
use Rattle.refusals.specs.Outcome.{Outcome, taken, and_then}
use Rattle.covering.specs.Cover.{covers, third_place, second_place, first_place, covered, covering}
use Rattle.admission.specs.Calls.{strays, admitting}
use Rattle.settings.specs.declared.settings.Settings.{Settings}
use Rattle.settings.specs.Planning.{judge_settings, planning}
use Rattle.plan.specs.declared.plan.Plan.{Plan}
use Rattle.plan.specs.Listed.{listed}
use Rattle.plan.specs.Calls.{plan_on, planned, judged, settings_of}
use Rattle.plan.proofs.Accepted.{planned-taken, planned-refused}
use Rattle.alike.specs.Alike.{Alike}
use Rattle.alike.proofs.Boards.{alike-calls}
use Rattle.empty_list.specs.Empty.{OnlyEmpty, EmptyAdmitted, SameSets, SameAnswers, EmptyAndZero, EmptyAsZero}

pub only-empty : OnlyEmpty
only-empty a = (
  λ t. ⊎_elim (λ z. z) (λ w. let (i, l, _) = w in absurd (omega arith)) (tolerated-listed [] a t),
  λ z. ap (tolerated []) z ∙ tolerated-empty [],
)

same-holder : (a : ℕ) → holder [] a ≡ holder (0 ∷ []) a
unfolding first
same-holder a =
    cases (eqb a 0)
    (λ e. rw (eqb-true a 0 e) (holder-empty [] ∙ sym (holder-empty (0 ∷ []))))
    (λ e. let ne = eqb-false a 0 e in
    let out : within a 0 ≡ false = is_false (within a 0) (λ w. absurd (ne (nothing-within a w))) in
    let past : 1 ≡ first (holds (0 ∷ []) a) 1 0 = rw out in
    holder-none [] a 0 ne refl (omega arith) ∙ sym (holder-none (0 ∷ []) a 1 ne past (omega arith)))

pub same-sets : SameSets
unfolding tolerated
same-sets = record { first-place = holder-empty []; tolerate = λ a. ap is_some (same-holder a); hold = same-holder }

-- The set 00 names no board, and three of it cover no board.
no_stray : (n : ℕ) → strays n (0 ∷ []) ≡ false
unfolding strays any first
no_stray n = rw (within-empty (boards n))

no_cover : (n : ℕ) → 0 < n → covering n (0 ∷ []) ≡ taken []
unfolding covering covered first_place second_place third_place covers union first
no_cover n l =
    let out : within (boards n) 0 ≡ false = is_false (within (boards n) 0)
    (λ w. clash (member-boards 0 n ∙ lt-ltb 0 n l) (ap (member 0) (nothing-within (boards n) w) ∙ member-empty 0)) in
    rw out

same-admitting : (n : ℕ) → admitting n 0 [] ≡ admitting n 1 (0 ∷ [])
unfolding admitting strays any covering covered first_place first
same-admitting n =
    cases (eqb n 0 || ltb 7 n)
    (λ e. rw e)
    (λ e. let ne : n ≢ 0 = eqb-false n 0 (or_l (eqb n 0) (ltb 7 n) e) in
    rw (e, no_stray n, no_cover n (omega arith)))

pub empty-admitted : EmptyAdmitted
unfolding admitting strays any covering covered first_place first
empty-admitted n l m = rw (ne_eqb n 0 (omega arith), le-ltb 7 n m)

same-planning : (n : ℕ) (s : Settings) → planning n 0 [] s ≡ planning n 1 (0 ∷ []) s
unfolding planning
same-planning n s = ap (λ o. and_then o (judge_settings n s)) (same-admitting n)

module _ (n : ℕ) (s : Settings) where
  same_number : (planning n 0 [] s).number ≡ (planning n 1 (0 ∷ []) s).number
  same_number = ap (λ (o : Outcome). o.number) (same-planning n s)

  on-empty-and-zero : EmptyAndZero (plan_on n [] s) (plan_on n (0 ∷ []) s)
  unfolding plan_on listed
  on-empty-and-zero = record { n = refl; dealer = refl; span = refl; default = refl; depth = refl; none = refl; one = refl; zero = refl }

  planned-empty-and-zero : (planning n 0 [] s).number ≡ 0 → EmptyAndZero (planned n [] s) (planned n (0 ∷ []) s)
  planned-empty-and-zero e =
      subst₂ EmptyAndZero (sym (planned-taken n [] s e)) (sym (planned-taken n (0 ∷ []) s (sym same_number ∙ e))) on-empty-and-zero

  planned-void : (planning n 0 [] s).number ≢ 0 → planned n [] s ≡ planned n (0 ∷ []) s
  planned-void e = planned-refused n [] s e ∙ sym (planned-refused n (0 ∷ []) s (λ z. e (same_number ∙ z)))

pub same-answers : SameAnswers
same-answers = record { admits = same-admitting; answers = same-planning; plans = planned-empty-and-zero; voids = planned-void }

-- A plan with no sets lists none.
pub lists-none : (p : Plan) → p.count ≡ 0 → listed p ≡ []
unfolding listed
lists-none p e = ap (λ k. take k p.sets) e

pub alike : (p q : Plan) → EmptyAndZero p q → Alike p q
unfolding judged
alike p q e =
    let none = lists-none p e.none in
    record {
      n = e.n;
      dealer = e.dealer;
      span = e.span;
      default = e.default;
      depth = e.depth;
      tolerate = λ a. ap (λ l. tolerated l a) none ∙ same-sets.tolerate a ∙ ap (λ l. tolerated l a) (sym e.zero);
      judged = (λ j. planning p.n (e.none j) (none j) (settings_of p))
          ∙ same-answers.answers p.n (settings_of p)
          ∙ (λ j. planning (e.n j) (sym e.one j) (sym e.zero j) (record { dealer = e.dealer j; span = e.span j; default = e.default j; depth = e.depth j }));
    }

-- Each set has the same place in both.
pub places-alike : (p q : Plan) → EmptyAndZero p q → (a : ℕ) → holder (listed p) a ≡ holder (listed q) a
places-alike p q e a = ap (λ l. holder l a) (lists-none p e.none) ∙ same-sets.hold a ∙ ap (λ l. holder l a) (sym e.zero)

pub empty-as-zero : EmptyAsZero
empty-as-zero p q e = alike-calls p q (alike p q e)
