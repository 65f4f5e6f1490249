-- Rule C at a node, over cells that hold what each node resolved to. A middle layer: `passes` with `by_resolving` of protocol/Detection is the
-- definition.
use Rattle.std.specs.Prelude.{ℕ, ◌+◌, ◌/◌, ◌%◌, Bool, ◌||◌, List, get_or}
use Rattle.std.proofs.Math.Option.{Option, some}
use Rattle.sets.specs.Sets.{member}
use Rattle.plan.specs.declared.plan.Plan.{Plan}
use Rattle.tree.specs.Places.{outside_below}
use Rattle.protocol.specs.declared.records.Slot.{Slot}
use Rattle.protocol.specs.Listing.{as_set}
use Rattle.voting.specs.Worth.{child_table}
use Rattle.voting.specs.Tables.{explained_by}

-- As the code goes: x is the node as one number, and its children's cells stand side by side from `from`.
abbrev pub standing_from : List ℕ → ℕ → ℕ → ℕ → Option ℕ
standing_from cells from s c = some (get_or cells (from + outside_below s c) 0)

unfoldable pub passes_at : Plan → List ℕ → ℕ → ℕ → List Slot → Bool
passes_at p cells from x list =
    member (x / 128 % 8) (as_set list) || explained_by p (x % 128) (child_table (standing_from cells from (x % 128)) (x % 128) p.n) (as_set list)
