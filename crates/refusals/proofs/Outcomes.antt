-- What outcomes say: a refusal has a number, and what is judged first goes first.
-- Assumes nothing.
use Prim.Native.Nat.{ℕ}
use mathlib.Core.Path.{◌≡◌, refl, sym, ◌∙◌, ap}
use mathlib.Core.Logic.{◌≢◌}
use mathlib.Core.Bool.{Bool, true, false, cond}
use native.Mathlib.Omega.{arith}
use lib.Dec.{eqb}
use borrow.Author.Tests.{eq-eqb, ne_eqb, eqb-true, eqb-false}
use Rattle.refusals.specs.declared.refusal.Refusal.{Refusal}
use Rattle.refusals.specs.declared.refusal.Refusal.TheVariants.{Boards, TooManySets, UnknownBoard, Covered, Dealer, Span, Depth, BoardNumber, BoardIsDealer, ShortCells, BadRecord, Decided, NotDue, AlreadyTaken, NothingToSend, ShortOutput, BadValue, Undecided, LongSheet, BadText, BadHead, BadFaulty, BadFrame, Default}
use Rattle.refusals.specs.Outcome.{Outcome, refusal, verdict, and_then}
use Rattle.std.specs.Prelude.{Ok, Err}
use Rattle.sets.proofs.Tests.{cases}

pub refusal-number : (why : Refusal) → (refusal why).number ≢ 0
unfolding refusal
refusal-number Boards = omega arith
refusal-number TooManySets = omega arith
refusal-number UnknownBoard = omega arith
refusal-number (Covered i j k) = omega arith
refusal-number Dealer = omega arith
refusal-number Span = omega arith
refusal-number Depth = omega arith
refusal-number BoardNumber = omega arith
refusal-number BoardIsDealer = omega arith
refusal-number ShortCells = omega arith
refusal-number BadRecord = omega arith
refusal-number Decided = omega arith
refusal-number NotDue = omega arith
refusal-number AlreadyTaken = omega arith
refusal-number NothingToSend = omega arith
refusal-number ShortOutput = omega arith
refusal-number BadValue = omega arith
refusal-number Undecided = omega arith
refusal-number LongSheet = omega arith
refusal-number BadText = omega arith
refusal-number BadHead = omega arith
refusal-number BadFaulty = omega arith
refusal-number BadFrame = omega arith
refusal-number Default = omega arith

pub taken-first : (o next : Outcome) → o.number ≡ 0 → and_then o next ≡ next
unfolding and_then
taken-first o next e = ap (λ b. cond b next o) (eq-eqb o.number 0 e)

pub refused-first : (o next : Outcome) → o.number ≢ 0 → and_then o next ≡ o
unfolding and_then
refused-first o next e = ap (λ b. cond b next o) (ne_eqb o.number 0 e)

pub both-taken : (o next : Outcome) → (and_then o next).number ≡ 0 → (o.number ≡ 0) × (next.number ≡ 0)
both-taken o next e =
    cases (eqb o.number 0)
    (λ t. let z : o.number ≡ 0 = eqb-true o.number 0 t in (z, ap (λ x. x.number) (sym (taken-first o next z)) ∙ e))
    (λ t. absurd (eqb-false o.number 0 t (ap (λ x. x.number) (sym (refused-first o next (eqb-false o.number 0 t))) ∙ e)))

-- A test that would refuse fails where nothing is refused.
pub passed : (b : Bool) (refuse next : Outcome) → refuse.number ≢ 0 → (cond b refuse next).number ≡ 0 → (b ≡ false) × (next.number ≡ 0)
passed true refuse next l e = absurd (l e)
passed false refuse next l e = (refl, e)

-- An answer without number k: one by a test, and two in order.
pub either-other : (b : Bool) (x y : Outcome) {k : ℕ} → x.number ≢ k → y.number ≢ k → (cond b x y).number ≢ k
either-other true x y u v = u
either-other false x y u v = v

pub both-other : (x y : Outcome) {k : ℕ} → x.number ≢ k → y.number ≢ k → (and_then x y).number ≢ k
unfolding and_then
both-other x y u v = either-other (eqb x.number 0) y x v u

-- An answer by `?`: a refusal that comes first is the answer; else what comes next is.
pub refusing-first : (why : Refusal) (o next : Outcome) → verdict (Err why) ≡ o → verdict (Err why) ≡ and_then o next
unfolding verdict
refusing-first why o next e = e ∙ sym (refused-first o next (λ z. refusal-number why (ap (λ x. x.number) e ∙ z)))

pub accepting-first : (o next : Outcome) → verdict (Ok tt) ≡ o → next ≡ and_then o next
unfolding verdict
accepting-first o next e = sym (taken-first o next (ap (λ x. x.number) (sym e)))

-- What an answer by `?` needs: named for `#[tactic(auto, using(..))]`, which takes no name with a dash.
pub ruleset refusing = (refusal-number)
