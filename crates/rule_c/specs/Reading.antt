-- Rule C over cells that hold what each node resolved to. A middle layer: `detect_levels` of crate protocol is the definition.
use Rattle.std.specs.Prelude.{ℕ, zero, suc, Bool, ◌||◌, cond, List, [], ◌∷◌, length}
use Rattle.std.proofs.Math.Option.{Option, some}
use Rattle.sets.specs.Sets.{member}
use Rattle.plan.specs.declared.plan.Plan.{Plan}
use Rattle.schedule.specs.declared.rounds.Run.{Run}
use Rattle.schedule.specs.declared.rounds.Round.{Round}
use Rattle.tree.specs.Labels.{Label, mask, last}
use Rattle.tree.specs.Cells.{cell_at}
use Rattle.protocol.specs.declared.records.Rule.TheVariants as Rule
use Rattle.protocol.specs.declared.records.Slot.{Slot}
use Rattle.protocol.specs.Listing.{join, as_set}
use Rattle.protocol.specs.Nodes.{inner}
use Rattle.voting.specs.Worth.{child_table}
use Rattle.voting.specs.Tables.{explained_by}

-- What stands in the cell of child c.
abbrev pub standing : ℕ → List ℕ → Label → ℕ → Option ℕ
standing n cells α c = some (cell_at n cells (c ∷ α))

-- Does the rule leave the list as it is at node α?
unfoldable pub passes_by : Plan → List ℕ → Label → List Slot → Bool
passes_by p cells α list =
    member (last α) (as_set list) || explained_by p (mask α) (child_table (standing p.n cells α) (mask α) p.n) (as_set list)

-- The list after the nodes given.
unfoldable pub detect_by : Plan → Run → Round → List ℕ → List Label → List Slot → List Slot
detect_by p t k cells [] list = list
detect_by p t k cells (α ∷ αs) list =
    detect_by p t k cells αs (cond (passes_by p cells α list) list (join (last α) t k (Rule.C (length α)) list))

-- The level given and those below it.
unfoldable pub levels_by : Plan → ℕ → Run → Round → List ℕ → ℕ → List Slot → List Slot
levels_by p i t k cells zero list = list
levels_by p i t k cells (suc level) list = levels_by p i t k cells level (detect_by p t k cells (inner p i (suc level)) list)
