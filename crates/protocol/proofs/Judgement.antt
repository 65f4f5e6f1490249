-- What a record that passes number 12 meets, and what a call that is taken has passed.
-- Assumes nothing.
use Prim.Native.Nat.{ℕ, ◌≤◌, ◌<◌, ◌^◌}
use mathlib.Core.Path.{◌≡◌, sym, ap, refl}
use mathlib.Core.Logic.{◌≢◌, ⊎_elim, ◌↔◌}
use mathlib.Core.Bool.{Bool, true, false, not, ◌&&◌}
use mathlib.Core.List.{List, []}
use native.Mathlib.Omega.{arith}
use lib.Dec.{eqb, leb, ltb}
use lib.ListN.{length}
use borrow.Author.Tests.{eq-eqb, ne_eqb, eqb-true, eqb-false, lt-ltb, le-ltb, ltb-true, ltb-false, lt-leb, leb-false}
use Rattle.sets.specs.Sets.{within, boards}
use Rattle.sets.specs.Search.{any}
use Rattle.sets.proofs.Search.{any-true, any_false}
use Rattle.sets.proofs.Tests.{cases, clash, is_false, and_l, and_r, and-true, or-true, or_left, or_right, not_t, not_f, true-not}
use Rattle.sets.proofs.Member.{within-boards, boards-within}
use Rattle.refusals.specs.Outcome.{Outcome, taken, refused, and_then}
use Rattle.refusals.proofs.Outcomes.{passed, both-taken, either-other, both-other}
use Rattle.plan.specs.declared.plan.Plan.{Plan}
use Rattle.plan.specs.Listed.{listed}
use Rattle.plan.specs.Calls.{judged, settings_of}
use Rattle.plan.specs.Values.{default}
use Rattle.plan.proofs.Accepted.{Accepted, accepted}
use Rattle.schedule.proofs.Steps.{Has, has-round, round-has}
use Rattle.tree.specs.Places.{cell_count}
use Rattle.protocol.specs.declared.records.Record.{Record}
use Rattle.protocol.specs.Listing.{entry_at, as_set}
use Rattle.protocol.specs.Rounds.{Board}
use Rattle.protocol.specs.Calls.{is_taken, judge_number, judge_other, judge_board, judge_cells, good_plan, good_number, good_other, good_position, good_marks, good_entry, good_entries, good_decision, good_record, judge_record, judge_open}
use Rattle.protocol.proofs.Listing.{GoodList}

pub is-taken : (o : Outcome) → is_taken o ≡ true → o.number ≡ 0
unfolding is_taken
is-taken o e = eqb-true o.number 0 e

pub taken_is : (o : Outcome) → o.number ≡ 0 → is_taken o ≡ true
unfolding is_taken
taken_is o e = eq-eqb o.number 0 e

-- What the plan of an accepted session meets.
pub plan-facts : (p : Plan) → (judged p).number ≡ 0 → Accepted p.n p.count (listed p) (settings_of p)
unfolding judged
plan-facts p e = accepted p.n p.count (listed p) (settings_of p) e

-- Its default is a value.
pub plan-default : (p : Plan) → (judged p).number ≡ 0 → default p < p.span
unfolding default
plan-default p e = (plan-facts p e).default_below

-- A good record, by the grounds of 12: its plan, its number, which is not the dealer's, its position, its list, its marks and its decision.
pub record Good (r : Record) : Type 0 where
  pub plan-good : (judged r.plan).number ≡ 0
  pub below : r.board < r.plan.n
  pub other : r.board ≢ r.plan.dealer
  pub position : Has r.plan r.run r.round
  pub list-good : GoodList r.plan r.list
  pub marks-below : r.marks < 2 ^ r.plan.n
  pub decision-below : r.decided ≡ true → r.decision < r.plan.span

pub good-dealer : (r : Record) → Good r → r.plan.dealer < r.plan.n
good-dealer r g = (plan-facts r.plan g.plan-good).dealer-below

-- 9 and 10.
pub number-facts : (p : Plan) (i : ℕ) → (judge_number p i).number ≡ 0 → i < p.n
unfolding judge_number
number-facts p i e = leb-false p.n i (passed (leb p.n i) (refused 9) (taken []) (omega arith) e).0

pub number-taken : (p : Plan) (i : ℕ) → i < p.n → judge_number p i ≡ taken []
unfolding judge_number
number-taken p i l = rw (lt-leb p.n i l)

pub other-facts : (p : Plan) (i : ℕ) → (judge_other p i).number ≡ 0 → i ≢ p.dealer
unfolding judge_other
other-facts p i e = eqb-false i p.dealer (passed (eqb i p.dealer) (refused 10) (taken []) (omega arith) e).0

pub other-taken : (p : Plan) (i : ℕ) → i ≢ p.dealer → judge_other p i ≡ taken []
unfolding judge_other
other-taken p i ne = rw (ne_eqb i p.dealer ne)

pub board-facts : (p : Plan) (i : ℕ) → (judge_board p i).number ≡ 0 → (i < p.n) × (i ≢ p.dealer)
unfolding judge_board
board-facts p i e =
    let (a, b) = both-taken (judge_number p i) (judge_other p i) e in
    (number-facts p i a, other-facts p i b)

pub board-taken : (p : Plan) (i : ℕ) → i < p.n → i ≢ p.dealer → judge_board p i ≡ taken []
unfolding judge_board and_then
board-taken p i l ne = rw (number-taken p i l, other-taken p i ne)

-- A board's number is accepted if it passes both.
pub board-grounds : (r : Record) → is_taken (judge_board r.plan r.board) ≡ (good_number r && good_other r)
unfolding judge_board good_number good_other is_taken and_then
board-grounds r =
    let first = judge_number r.plan r.board in
    cases (eqb first.number 0) (λ e. rw e refl) (λ e. rw e e)

pub cells-facts : (p : Plan) (cells : List ℕ) → (judge_cells p cells).number ≡ 0 → cell_count p.n ≤ length cells
unfolding judge_cells
cells-facts p cells e = ltb-false (length cells) (cell_count p.n) (passed (ltb (length cells) (cell_count p.n)) (refused 11) (taken []) (omega arith) e).0

pub cells-taken : (p : Plan) (cells : List ℕ) → cell_count p.n ≤ length cells → judge_cells p cells ≡ taken []
unfolding judge_cells
cells-taken p cells h = rw (le-ltb (length cells) (cell_count p.n) h)

-- The grounds of 12, one by one: what each test says.
module _ (r : Record) where
  pub plan-ground : (good_plan r ≡ true) ↔ ((judged r.plan).number ≡ 0)
  unfolding good_plan
  plan-ground = (is-taken (judged r.plan), taken_is (judged r.plan))

  pub number-ground : (good_number r ≡ true) ↔ (r.board < r.plan.n)
  unfolding good_number
  number-ground =
      let o = judge_number r.plan r.board in
      (λ e. number-facts r.plan r.board (is-taken o e), λ l. taken_is o (ap (λ o. o.number) (number-taken r.plan r.board l)))

  pub other-ground : (good_other r ≡ true) ↔ (r.board ≢ r.plan.dealer)
  unfolding good_other
  other-ground =
      let o = judge_other r.plan r.board in
      (λ e. other-facts r.plan r.board (is-taken o e), λ ne. taken_is o (ap (λ o. o.number) (other-taken r.plan r.board ne)))

  pub position-ground : (good_position r ≡ true) ↔ Has r.plan r.run r.round
  unfolding good_position
  position-ground = (has-round r.plan r.run r.round, round-has r.plan r.run r.round)

  pub marks-ground : (good_marks r ≡ true) ↔ ((as_set r.list < 2 ^ r.plan.n) × (r.marks < 2 ^ r.plan.n))
  unfolding good_marks
  marks-ground =
      let n = r.plan.n in
      let m = within (as_set r.list) (boards n) in
      let t = within r.marks (boards n) in (
        λ e. (within-boards n (as_set r.list) (and_l m t e), within-boards n r.marks (and_r m t e)),
        λ h. and-true m t (boards-within n (as_set r.list) h.0) (boards-within n r.marks h.1),
      )

  pub entries-ground : (good_entries r ≡ true) ↔ ((i : ℕ) → i < 7 → good_entry r.plan (entry_at r.list i) ≡ true)
  unfolding good_entries
  entries-ground =
      let bad : ℕ → Bool = λ i. not (good_entry r.plan (entry_at r.list i)) in (
        λ e i l. not_f (good_entry r.plan (entry_at r.list i)) (any_false bad 7 (not_t (any bad 7) e) i l),
        λ h. true-not (any bad 7) (is_false (any bad 7) (λ e. let (i, l, t) = any-true bad 7 e in clash (h i l) (not_t (good_entry r.plan (entry_at r.list i)) t))),
      )

  pub decision-ground : (good_decision r ≡ true) ↔ (r.decided ≡ true → r.decision < r.plan.span)
  unfolding good_decision
  decision-ground =
      let d = not r.decided in
      let small = ltb r.decision r.plan.span in (
        λ e x. ⊎_elim (λ y. clash x (not_t r.decided y)) (λ y. ltb-true r.decision r.plan.span y) (or-true d small e),
        λ h. cases r.decided
            (λ x. or_right d small (lt-ltb r.decision r.plan.span (h x)))
            (λ x. or_left d small (true-not r.decided x)),
      )

-- All of them.
pub good-record : (r : Record) → good_record r ≡ true → Good r
unfolding good_record
good-record r e =
    let a = good_plan r in
    let b = good_number r in
    let c = good_other r in
    let k = good_position r in
    let m = good_marks r in
    let s = good_entries r in
    let d = good_decision r in
    let front = and_l (a && (b && c)) (k && (m && (s && d))) e in
    let back = and_r (a && (b && c)) (k && (m && (s && d))) e in
    let board = and_r a (b && c) front in
    let fields = and_r k (m && (s && d)) back in
    let rest = and_r m (s && d) fields in
    let marks = (marks-ground r).0 (and_l m (s && d) fields) in
    record {
      plan-good = (plan-ground r).0 (and_l a (b && c) front);
      below = (number-ground r).0 (and_l b c board);
      other = (other-ground r).0 (and_r b c board);
      position = (position-ground r).0 (and_l k (m && (s && d)) back);
      list-good = record { below = marks.0; entries = (entries-ground r).0 (and_l s d rest) };
      marks-below = marks.1;
      decision-below = (decision-ground r).0 (and_r s d rest);
    }

pub record-good : (r : Record) → Good r → good_record r ≡ true
unfolding good_record
record-good r g =
    let a = good_plan r in
    let b = good_number r in
    let c = good_other r in
    let k = good_position r in
    let m = good_marks r in
    let s = good_entries r in
    let d = good_decision r in
    and-true (a && (b && c)) (k && (m && (s && d)))
    (and-true a (b && c) ((plan-ground r).1 g.plan-good) (and-true b c ((number-ground r).1 g.below) ((other-ground r).1 g.other)))
    (and-true k (m && (s && d)) ((position-ground r).1 g.position)
    (and-true m (s && d) ((marks-ground r).1 (g.list-good.below, g.marks-below))
    (and-true s d ((entries-ground r).1 g.list-good.entries) ((decision-ground r).1 g.decision-below))))

pub record-facts : (r : Record) → (judge_record r).number ≡ 0 → Good r
unfolding judge_record
record-facts r e = good-record r (cases (good_record r) (λ x. x) (λ x. absurd (let z : 12 ≡ 0 = rw x at e in omega arith)))

pub record-taken : (r : Record) → Good r → judge_record r ≡ taken []
unfolding judge_record
record-taken r g = rw (record-good r g)

-- What a call on an open board has passed.
pub record Open (b : Board) : Type 0 where
  pub good : Good b.rec
  pub room : cell_count b.rec.plan.n ≤ length b.cells
  pub undecided : b.rec.decided ≡ false

pub open-facts : (b : Board) → (judge_open b).number ≡ 0 → Open b
unfolding judge_open
open-facts b e =
    let (e1, e2) = both-taken (judge_record b.rec) _ e in
    let (e3, e4) = both-taken (judge_cells b.rec.plan b.cells) _ e2 in
    record {
      good = record-facts b.rec e1;
      room = cells-facts b.rec.plan b.cells e3;
      undecided = (passed b.rec.decided (refused 13) (taken []) (omega arith) e4).0;
    }

pub open-taken : (b : Board) → Open b → judge_open b ≡ taken []
unfolding judge_open and_then
open-taken b o = rw (record-taken b.rec o.good, cells-taken b.rec.plan b.cells o.room, o.undecided)

-- What is judged first has no number but 12, 11 and 13.
pub open-other : (b : Board) (k : ℕ) → k ≢ 0 → k ≢ 11 → k ≢ 12 → k ≢ 13 → (judge_open b).number ≢ k
unfolding judge_open judge_record judge_cells
open-other b k none cells rec decided =
    let r = b.rec in
    both-other (judge_record r) _ (either-other (good_record r) (taken []) (refused 12) (λ e. none (sym e)) (λ e. rec (sym e)))
    (both-other (judge_cells r.plan b.cells) _
    (either-other (ltb (length b.cells) (cell_count r.plan.n)) (refused 11) (taken []) (λ e. cells (sym e)) (λ e. none (sym e)))
    (either-other r.decided (refused 13) (taken []) (λ e. decided (sym e)) (λ e. none (sym e))))
