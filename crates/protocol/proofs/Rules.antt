-- At one node. Resolving: the children worth the value that it resolves to are not tolerated. Rules G and C: a board whose
-- children no value explains, with the list, joins it; else the list stays. By rule G the board's cells in the next level are
-- masked too.
-- Assumes nothing.
use Prim.Native.Nat.{ℕ, suc}
use mathlib.Core.Path.{◌≡◌}
use mathlib.Core.Bool.{true, false, not, ◌&&◌}
use mathlib.Core.List.{List}
use mathlib.Core.Option.{Option, some}
use lib.ListN.{length}
use Rattle.sets.specs.Sets.{set_of}
use Rattle.sets.specs.Structure.{tolerated}
use Rattle.sets.specs.Only.{same}
use Rattle.sets.proofs.Tests.{not_t}
use Rattle.sets.proofs.Only.{only-some}
use Rattle.plan.specs.Listed.{listed}
use Rattle.plan.specs.declared.plan.Plan.{Plan}
use Rattle.schedule.specs.declared.rounds.Run.{Run}
use Rattle.schedule.specs.declared.rounds.Round.{Round}
use Rattle.tree.specs.Labels.{Label, occurs, last}
use Rattle.protocol.specs.declared.records.Rule.TheVariants as Rule
use Rattle.protocol.specs.declared.records.Slot.{Slot}
use Rattle.protocol.specs.Listing.{join}
use Rattle.protocol.specs.Nodes.{nodes}
use Rattle.protocol.specs.Detection.{vote, by_cell, by_resolving, passes, mask_board, Scan, detect_g, detect_c}

-- 01: "the children resolved to v form a set that is *not* tolerated".
pub vote-untolerated : (p : Plan) (α : Label) (f : ℕ → Option ℕ) (v : ℕ) → vote p α f ≡ some v
    → tolerated (listed p) (set_of (λ c. not (occurs c α) && same (f c) (some v)) p.n) ≡ false
unfolding vote
vote-untolerated p α f v e = not_t _ (only-some _ p.span v e).1

module _ (p : Plan) (i : ℕ) (run : Run) (round : Round) (α : Label) where
  module _ (s : Scan) where
    pub detect_g-joined : passes p α (by_cell p s.cells α) s.list ≡ false
        → detect_g p i run round α s ≡ record { list = join (last α) run round (Rule.G (length α)) s.list; cells = mask_board p (last α) (nodes p i (suc (length α))) s.cells }
    unfolding detect_g
    detect_g-joined e = rw e

    pub detect_g-kept : passes p α (by_cell p s.cells α) s.list ≡ true → detect_g p i run round α s ≡ s
    unfolding detect_g
    detect_g-kept e = rw e

  module _ (cells : List ℕ) (s : List Slot) where
    pub detect_c-joined : passes p α (by_resolving p i cells α) s ≡ false → detect_c p i run round cells α s ≡ join (last α) run round (Rule.C (length α)) s
    unfolding detect_c
    detect_c-joined e = rw e

    pub detect_c-kept : passes p α (by_resolving p i cells α) s ≡ true → detect_c p i run round cells α s ≡ s
    unfolding detect_c
    detect_c-kept e = rw e
