-- A good record stands in a round of its plan.
-- Assumes nothing.
use Prim.Native.Nat.{ℕ, ◌≤◌, ◌<◌}
use mathlib.Core.Path.{◌≡◌, refl, sym, subst, ap, ◌∙◌}
use mathlib.Core.Logic.{◌≢◌}
use mathlib.Core.List.{List}
use native.Mathlib.Omega.{arith}
use lib.ListN.{length, length-take}
use Rattle.holders.specs.Holders.{holder_table}
use Rattle.plan.specs.declared.plan.Plan.{Plan}
use Rattle.plan.specs.Listed.{listed}
use Rattle.plan.specs.Calls.{judged}
use Rattle.tables.specs.Tabled.{Tabled}
use Rattle.schedule.specs.declared.rounds.Round.{Round}
use Rattle.schedule.specs.Schedule.{rounds}
use Rattle.protocol.specs.declared.records.Record.{Record}
use Rattle.protocol.specs.Rounds.{Board}
use Rattle.protocol.specs.Calls.{judge_open}
use Rattle.protocol.proofs.Judgement.{Good, plan-facts, open-facts}
use Rattle.walk.proofs.Whole.{rounds-most}
use Rattle.frames.specs.Nodes.{Standing, InRound}

-- An accepted plan lists at most 32 sets.
pub few-sets : (p : Plan) → (judged p).number ≡ 0 → length (listed p) ≤ 255
unfolding listed
few-sets p e = omega (arith, (plan-facts p e).admission.most-sets, length-take p.count p.sets)

-- Every test of a set may use the plan's table.
pub tabled : {p : Plan} {holders : List ℕ} {i : ℕ} {k : Round} → Standing p holders i k → Tabled p holders
tabled s = record { most-boards = s.most-boards; few-sets = s.few-sets; table = s.table }

pub standing : (p : Plan) (holders : List ℕ) (i : ℕ) (k : Round) → (judged p).number ≡ 0 → i < p.n → i ≢ p.dealer → 1 ≤ k.0 → k.0 ≤ (rounds p).0
    → holders ≡ holder_table (listed p) → Standing p holders i k
standing p holders i k e below other low high t =
    let f = plan-facts p e in
    record {
      accepted = e;
      some-board = f.admission.some-board;
      most-boards = f.admission.most-boards;
      few-sets = few-sets p e;
      dealer-below = f.dealer-below;
      board-below = below;
      other = other;
      round-low = low;
      round-high = high;
      rounds-most = rounds-most p e;
      table = t;
    }

-- In its own round.
pub good-stands : (r : Record) → Good r → (holders : List ℕ) → holders ≡ holder_table (listed r.plan) → Standing r.plan holders r.board r.round
good-stands r g holders t =
    standing r.plan holders r.board r.round g.plan-good g.below g.other g.position.round-low g.position.round-high t

-- An open board stands in its round, with any table that is the plan's.
pub open-stands : (b : Board) → (judge_open b).number ≡ 0 → InRound b.rec.plan b.rec.board b.rec.round b.cells
open-stands b e = let o = open-facts b e in record { standing = good-stands b.rec o.good _ refl; enough = o.room }

-- With the table that the plan, or one that is the same, came with.
pub with-table : {p q : Plan} {holders : List ℕ} {i : ℕ} {k : Round} → Tabled q holders → q ≡ p → Standing p (holder_table (listed p)) i k → Standing q holders i k
with-table {p} {q} {holders} {i} {k} t e s =
    subst (λ x. Standing x holders i k) (sym e) (subst (λ h. Standing p h i k) (sym (t.table ∙ ap (λ x. holder_table (listed x)) e)) s)
