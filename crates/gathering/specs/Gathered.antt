-- What closing a round gathers, without the record. A middle layer: `gather` of protocol/Rounds is the definition.
use Rattle.std.specs.Prelude.{ℕ, ◌-◌, ◌≡◌, List}
use Rattle.plan.specs.declared.plan.Plan.{Plan}
use Rattle.schedule.specs.declared.rounds.Run.{Run}
use Rattle.schedule.specs.declared.rounds.Round.{Round}
use Rattle.protocol.specs.declared.records.Slot.{Slot}
use Rattle.protocol.specs.Nodes.{inner}
use Rattle.protocol.specs.Detection.{Scan, detect_all_g}
use Rattle.protocol.specs.Rounds.{fill_missing, copy_own}

unfoldable pub gathered : Plan → ℕ → Run → Round → ℕ → List Slot → List ℕ → Scan
gathered p i t k marks list cells =
    detect_all_g p i t k (inner p i (k.0 - 1)) (record { list = list; cells = copy_own p i k (fill_missing p i k marks p.n cells) })

-- The list and the cells after it.
pub record Gathers (p : Plan) (i : ℕ) (t : Run) (k : Round) (marks : ℕ) (list found : List Slot) (before after : List ℕ) : Type 0 where
  pub list-is : found ≡ (gathered p i t k marks list before).list
  pub cells_are : after ≡ (gathered p i t k marks list before).cells
