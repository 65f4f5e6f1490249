-- What converting leaves. A middle layer: what converting does is `convert` of the protocol.
use Rattle.std.specs.Prelude.{ℕ, ◌-◌, ◌≡◌, List}
use Rattle.plan.specs.declared.plan.Plan.{Plan}
use Rattle.schedule.specs.declared.rounds.Run.{Run}
use Rattle.schedule.specs.declared.rounds.Round.{Round}
use Rattle.schedule.specs.Schedule.{rounds}
use Rattle.protocol.specs.declared.records.Slot.{Slot}
use Rattle.protocol.specs.Detection.{resolve_root, detect_levels}
use Rattle.resolving.specs.Settled.{settled_all}

-- Converting. 01: "The resolved root becomes the root cell .. and L stays"; the caller writes the root.
pub record Converts (p : Plan) (i : ℕ) (t : Run) (k : Round) (list : List Slot) (root : ℕ) (found : List Slot) (before after : List ℕ) : Type 0 where
  pub root_is : root ≡ resolve_root p i before
  pub list-is : found ≡ detect_levels p i t k before ((rounds p).0 - 1) list
  pub cells_are : after ≡ settled_all p i before
