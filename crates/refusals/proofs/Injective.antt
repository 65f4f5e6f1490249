-- What an answer says determines it: the refusal, and the answer to admitting and planning.
-- Assumes nothing.
use mathlib.Core.Path.{◌≡◌, refl, sym, ◌∙◌, ap}
use mathlib.Core.Bool.{cond}
use lib.Dec.{eqb}
use lib.ListN.{get_or}
use borrow.Author.Tests.{ne_eqb}
use Rattle.refusals.specs.declared.refusal.Refusal.{Refusal}
use Rattle.refusals.specs.declared.refusal.Refusal.TheVariants.{Boards, TooManySets, UnknownBoard, Covered, Dealer, Span, Depth, BoardNumber, BoardIsDealer, ShortCells, BadRecord, Decided, NotDue, AlreadyTaken, NothingToSend, ShortOutput, BadValue, Undecided, LongSheet, BadText, BadHead, BadFaulty, BadFrame, Default}
use Rattle.std.specs.Prelude.{Result, Ok, Err}
use Rattle.refusals.specs.Outcome.{Outcome, refusal, verdict}
use Rattle.refusals.proofs.Outcomes.{refusal-number}

-- The refusal of an outcome, by its number.
pub why : Outcome → Refusal
why o =
    cond (eqb o.number 1) Boards
    (cond (eqb o.number 3) TooManySets
    (cond (eqb o.number 4) UnknownBoard
    (cond (eqb o.number 5) (Covered (get_or o.values 0 0) (get_or o.values 1 0) (get_or o.values 2 0))
    (cond (eqb o.number 6) Dealer
    (cond (eqb o.number 7) Span
    (cond (eqb o.number 8) Depth
    (cond (eqb o.number 9) BoardNumber
    (cond (eqb o.number 10) BoardIsDealer
    (cond (eqb o.number 11) ShortCells
    (cond (eqb o.number 12) BadRecord
    (cond (eqb o.number 13) Decided
    (cond (eqb o.number 14) NotDue
    (cond (eqb o.number 15) AlreadyTaken
    (cond (eqb o.number 16) NothingToSend
    (cond (eqb o.number 17) ShortOutput
    (cond (eqb o.number 18) BadValue
    (cond (eqb o.number 19) Undecided
    (cond (eqb o.number 20) LongSheet
    (cond (eqb o.number 21) BadText
    (cond (eqb o.number 22) BadHead
    (cond (eqb o.number 23) BadFaulty
    (cond (eqb o.number 24) BadFrame
    Default))))))))))))))))))))))

pub why-refusal : (r : Refusal) → why (refusal r) ≡ r
unfolding why refusal
why-refusal Boards = refl
why-refusal TooManySets = refl
why-refusal UnknownBoard = refl
why-refusal (Covered i j k) = refl
why-refusal Dealer = refl
why-refusal Span = refl
why-refusal Depth = refl
why-refusal BoardNumber = refl
why-refusal BoardIsDealer = refl
why-refusal ShortCells = refl
why-refusal BadRecord = refl
why-refusal Decided = refl
why-refusal NotDue = refl
why-refusal AlreadyTaken = refl
why-refusal NothingToSend = refl
why-refusal ShortOutput = refl
why-refusal BadValue = refl
why-refusal Undecided = refl
why-refusal LongSheet = refl
why-refusal BadText = refl
why-refusal BadHead = refl
why-refusal BadFaulty = refl
why-refusal BadFrame = refl
why-refusal Default = refl

pub refusal-injective : (r s : Refusal) → refusal r ≡ refusal s → r ≡ s
refusal-injective r s e = sym (why-refusal r) ∙ ap why e ∙ why-refusal s

-- The answer of an outcome.
answer : Outcome → Result (Unit {0}) Refusal
answer o = cond (eqb o.number 0) (Ok tt) (Err (why o))

answer-verdict : (v : Result (Unit {0}) Refusal) → answer (verdict v) ≡ v
unfolding answer verdict
answer-verdict (Ok _) = refl
answer-verdict (Err r) = rw (ne_eqb (refusal r).number 0 (refusal-number r)) (ap Err (why-refusal r))

pub verdict-injective : (v w : Result (Unit {0}) Refusal) → verdict v ≡ verdict w → v ≡ w
verdict-injective v w e = sym (answer-verdict v) ∙ ap answer e ∙ answer-verdict w
