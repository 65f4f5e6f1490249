-- What is printed: decisions of one-byte values are bytes, and have 00 before them in two.
-- Assumes nothing.
use Prim.Native.Nat.{ℕ, ◌/◌, ◌%◌, ◌≤◌, ◌<◌}
use mathlib.Core.Path.{◌≡◌, refl, sym, ◌∙◌, ap}
use mathlib.Core.Logic.{◌≢◌}
use mathlib.Core.List.{List, [], ◌∷◌, map}
use native.Mathlib.Omega.{arith}
use lib.Dec.{eqb, ltb}
use Rattle.codec.specs.Codec.{one, two, encode}
use Rattle.hexadecimal.specs.Hex.{hex_digit, hex_byte, hex_bytes}
use Rattle.sets.proofs.Tests.{cases}
use Rattle.schedule.specs.Schedule.{rounds, runs}
use Rattle.protocol.specs.Records.{run_ended}
use Rattle.protocol.specs.Rounds.{Board, receive, gather, next_round, convert, close}
use Rattle.protocol.specs.Calls.{is_taken, judge_open, judge_beginning, beginning, fresh_record, void_record, judge_receiving, taking, closing}
use Rattle.protocol.specs.Session.{Adversary, Setting, begun, at}
use Rattle.protocol.proofs.Bounds.{root-small}
use Rattle.protocol.proofs.Judgement.{is-taken, plan-default, open-facts}
use Rattle.sheet.specs.Sheet.{lines}
use Rattle.sheet.specs.Playing.{hex_value, printed}
use Rattle.widening.specs.Claims.{Narrow, NarrowSetting}
use Rattle.widening.proofs.Lists.{begun-narrow}
use Rattle.synchronous.proofs.Synchronous.{at-keeps}
use Rattle.widening.proofs.Sessions.{taking-narrow, closing-narrow}
use Rattle.wide_sheets.specs.WideText.{printed_value, wide_digits, wide_line, joined, wide_printed}
use Rattle.wide_sheets.proofs.Splitting.{Plain, no_more, more, lines-line}

-- Decisions.
record Small (b : Board) : Type 0 where
  pub narrow : Narrow b
  pub decision : b.rec.decision < 256

taking-small : (b : Board) (q : ℕ) (vs : List ℕ) → Small b → Small (taking b q vs).board
taking-small b q vs h = record { narrow = taking-narrow b q vs h.narrow; decision = kept }
  where
    kept : (taking b q vs).board.rec.decision < 256
    kept = unfold taking receive in cases (is_taken (judge_receiving b q)) (λ e. rw e h.decision) (λ e. rw e h.decision)

close-decision : (b : Board) → b.rec.plan.span ≤ 255 → (judge_open b).number ≡ 0 → (close b).rec.decision < 256
unfolding close next_round convert run_ended
close-decision b m o =
    let r = b.rec in
    let p = r.plan in
    let small = root-small p (plan-default p (open-facts b o).good.plan-good) r.board (gather b).cells in
    cases (ltb r.round.0 (rounds p).0)
    (λ e. rw e (omega arith))
    (λ e. rw e (cases (eqb r.run.0 (runs p).0) (λ x. rw x (omega arith)) (λ x. rw x (omega arith))))

closing-small : (b : Board) → Small b → Small (closing b).board
closing-small b h = record { narrow = closing-narrow b h.narrow; decision = kept }
  where
    kept : (closing b).board.rec.decision < 256
    kept =
        unfold closing in
        cases (is_taken (judge_open b))
        (λ e. rw e (close-decision b h.narrow.span (is-taken (judge_open b) e)))
        (λ e. rw e h.decision)

begun-small : (s : Setting) → NarrowSetting s → (i : ℕ) → Small (begun s i)
begun-small s n i = record { narrow = begun-narrow s n i; decision = none }
  where
    none : (begun s i).rec.decision < 256
    none =
        unfold begun beginning fresh_record void_record in
        cases (is_taken (judge_beginning s.plan i (s.buffer i))) (λ x. rw x (omega arith)) (λ x. rw x (omega arith))

pub decisions-small : (s : Setting) → NarrowSetting s → (a : Adversary) (j i : ℕ) → i < s.plan.n → (at s a j i).rec.decision < 256
decisions-small s n a j i l = (at-keeps Small taking-small closing-small s a (begun-small s n) j i l).decision

-- Lines.
digit-plain : (x : ℕ) → hex_digit x ≢ 10
unfolding hex_digit
digit-plain x = cases (ltb x 10) (λ e. rw e (omega arith)) (λ e. rw e (omega arith))

byte-plain : (x : ℕ) {t : List ℕ} → Plain t → Plain (hex_byte x t)
unfolding hex_byte
byte-plain x p = more (digit-plain (x / 16)) (more (digit-plain (x % 16)) p)

pub none-wide : wide_printed [] ≡ []
unfolding wide_printed joined lines
none-wide = refl

pub printed-wide : (i d list place : ℕ) (rest : List ℕ) → d < 256
    → printed two i d list place (wide_printed rest) ≡ wide_printed (printed one i d list place rest)
unfolding printed hex_value hex_bytes hex_byte hex_digit encode wide_printed joined wide_line wide_digits printed_value
printed-wide i d list place rest l =
    let high : d / 256 ≡ 0 = omega arith in
    let low : d % 256 ≡ d = omega arith in
    let widened : printed two i d list place (wide_printed rest)
    ≡ hex_byte i (hex_byte 0 (hex_byte d (hex_byte list (hex_byte place (10 ∷ wide_printed rest))))) =
    λ j. hex_byte i (hex_byte (high j) (hex_byte (low j) (hex_byte list (hex_byte place (10 ∷ wide_printed rest))))) in
    let plain = byte-plain i (byte-plain d (byte-plain list (byte-plain place no_more))) in
    widened ∙ sym (ap (λ ls. joined (map (wide_line printed_value) ls)) (lines-line plain rest))
