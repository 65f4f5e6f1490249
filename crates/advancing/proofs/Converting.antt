-- A board that stands in a round can convert, and what is kept of its cells.
-- Assumes nothing.
use Prim.Native.Nat.{ℕ, ◌-◌, ◌≤◌, ◌<◌}
use mathlib.Core.Path.{◌≡◌, ap, ap₂, ◌∙◌}
use mathlib.Core.List.{List, ◌∷◌, ◌++◌}
use native.Mathlib.Omega.{arith}
use lib.ListN.{length, drop, replicate}
use Rattle.codec.specs.Codec.{current, blank}
use Rattle.plan.specs.declared.plan.Plan.{Plan}
use Rattle.schedule.specs.declared.rounds.Run.{Run}
use Rattle.schedule.specs.declared.rounds.Round.{Round}
use Rattle.tree.specs.Places.{cell_count}
use Rattle.protocol.specs.declared.records.Slot.{Slot}
use Rattle.protocol.specs.Detection.{resolve_root}
use Rattle.protocol.specs.Rounds.{root_only}
use Rattle.resolving.specs.Promises.{Convertible}
use Rattle.conversion.specs.Promises.{Converts}
use Rattle.resolving.proofs.Cells.{all_drop}
use Rattle.frames.specs.Nodes.{Standing}

-- A board that stands in a round can convert.
pub convertible : {p : Plan} {holders : List ℕ} {i : ℕ} {k : Round} {cells : List ℕ} → Standing p holders i k → p.span ≤ blank current → cell_count p.n ≤ length cells
    → Convertible p holders i cells
convertible {p} s most room = record {
  accepted = s.accepted;
  some-board = s.some-board;
  most-boards = s.most-boards;
  few-sets = s.few-sets;
  dealer-below = s.dealer-below;
  below = s.board-below;
  other = s.other;
  some-round = omega (arith, s.round-low, s.round-high);
  most-rounds = s.rounds-most;
  table = s.table;
  most_values = most;
  room = room;
}

-- Surplus cells are left as they were.
pub root_kept : (p : Plan) (i : ℕ) (run : Run) (round : Round) (list : List Slot) (root : ℕ) (found : List Slot) (before after : List ℕ) → p.dealer < p.n
    → Converts p i run round list root found before after
    → root_only current p.n root after ≡ root_only current p.n (resolve_root p i before) before
unfolding root_only
root_kept p i run round list root found before after l c =
    ap₂ (λ v xs. (v ∷ replicate (cell_count p.n - 1) (blank current)) ++ xs) c.root_is (ap (drop (cell_count p.n)) c.cells_are ∙ all_drop p i before l)
