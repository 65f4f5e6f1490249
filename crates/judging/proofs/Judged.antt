-- What the judgements of a record say, number by number.
-- Assumes nothing.
use Prim.Native.Nat.{ℕ, ◌≤◌, min}
use mathlib.Core.Path.{◌≡◌, sym, ap, ◌∙◌}
use mathlib.Core.Bool.{cond}
use mathlib.Core.List.{List, []}
use native.Mathlib.Omega.{arith}
use lib.Dec.{eqb, ltb}
use lib.ListN.{length}
use borrow.Author.Tests.{eqb-true, eqb-false, ne_eqb}
use Rattle.sets.specs.Sets.{boards}
use Rattle.sets.proofs.Tests.{cases}
use Rattle.plan.specs.declared.plan.Plan.{Plan}
use Rattle.std.specs.Prelude.{true, Result, Ok, Err}
use Rattle.std.specs.Result.{is_ok}
use Rattle.refusals.specs.declared.refusal.Refusal.{Refusal}
use Rattle.refusals.specs.Outcome.{Outcome, taken, refused, refusal, verdict, and_then}
use Rattle.plan.specs.Calls.{judged}
use Rattle.refusals.proofs.Outcomes.{refused-first, refusal-number}
use Rattle.tree.specs.Places.{count_within}
use Rattle.tree.proofs.Within.{count-within}
use Rattle.protocol.specs.Rounds.{Board}
use Rattle.protocol.specs.Calls.{is_taken, judge_cells, judge_record, judge_decided, judge_open}
use Rattle.positions.proofs.HasRound.{plan-round}
use Rattle.entries.proofs.Good.{plan-entries}
use Rattle.protocol.proofs.Judgement.{is-taken, board-grounds, plan-facts, record-facts}

-- The boards below n, as a plan within its limits has them.
pub all-below : (n all : ℕ) → n ≤ 8 → all ≡ boards (min n 8) → all ≡ boards n
all-below n all l e = e ∙ ap boards (let z : min n 8 ≡ n = omega arith in z)

pub ruleset below = (all-below)

-- A judgement is accepted exactly if its outcome is that of a call that is taken.
pub ok-is : (v : Result (Unit {0}) Refusal) (o : Outcome) → verdict v ≡ o → is_ok v ≡ is_taken o
unfolding is_taken verdict
ok-is (Ok _) o e = ap is_taken e
ok-is (Err why) o e = sym (ne_eqb (refusal why).number 0 (refusal-number why)) ∙ ap is_taken e

pub few-boards : (p : Plan) → is_taken (judged p) ≡ true → p.n ≤ 8
few-boards p e = omega (arith, (plan-facts p (is-taken (judged p) e)).admission.most-boards)

pub ruleset good_by = (ok-is, few-boards, board-grounds, plan-round, plan-entries)

-- 11, on any plan; on an accepted one it is what 01 asks.
abbrev pub roomed : Plan → List ℕ → Outcome
roomed p cells = cond (ltb (length cells) (count_within p.n)) (refused 11) (taken [])

pub room-judged : (p : Plan) (cells : List ℕ) → (judged p).number ≡ 0 → roomed p cells ≡ judge_cells p cells
unfolding judge_cells
room-judged p cells e =
    let f = (plan-facts p e).admission in
    ap (λ k. cond (ltb (length cells) k) (refused 11) (taken [])) (count-within p.n f.some-board f.most-boards)

-- What comes second matters only if the first is taken.
pub then_same : (o a b : Outcome) → (o.number ≡ 0 → a ≡ b) → and_then o a ≡ and_then o b
then_same o a b h =
    cases (eqb o.number 0)
    (λ e. ap (and_then o) (h (eqb-true o.number 0 e)))
    (λ e. refused-first o a (eqb-false o.number 0 e) ∙ sym (refused-first o b (eqb-false o.number 0 e)))

pub open-judged : (b : Board)
    → and_then (judge_record b.rec) (and_then (roomed b.rec.plan b.cells) (judge_decided b.rec.decided)) ≡ judge_open b
unfolding judge_open
open-judged b =
    then_same (judge_record b.rec) _ _
    (λ e. ap (λ x. and_then x (judge_decided b.rec.decided))
    (room-judged b.rec.plan b.cells (record-facts b.rec e).plan-good))
