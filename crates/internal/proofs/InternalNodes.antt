-- The test of a node's boards is that of its label, also beside other boards that a walk leaves out.
-- Assumes nothing.
use Prim.Native.Nat.{ℕ}
use mathlib.Core.Path.{◌≡◌, refl, sym}
use mathlib.Core.Bool.{Bool, true, false, ◌&&◌}
use lib.Bits.{bit_and, bit_or, and_zero_r, or_zero_r}
use lib.Dec.{eqb, ltb}
use lib.ListN.{length}
use Rattle.plan.specs.declared.plan.Plan.{Plan}
use Rattle.schedule.specs.Schedule.{rounds}
use Rattle.tree.specs.Labels.{Label, mask}
use Rattle.protocol.specs.Nodes.{internal}
use Rattle.internal.specs.Tests.{barred, is_internal}

-- A label is internal to board i if its boards are so, and it is above level R.
pub internal-is : (p : Plan) (i : ℕ) (α : Label) → internal p i α ≡ (is_internal p i (mask α) && ltb (length α) (rounds p).0)
unfolding internal is_internal barred
internal-is p i α = rw (and_zero_r (mask α)) refl

-- A set is without two sets of boards if it is without each.
pub without-both : (p : Plan) (i w s : ℕ) → eqb (bit_and s (bit_or w (barred p i))) 0 ≡ (eqb (bit_and s w) 0 && eqb (bit_and s (barred p i)) 0)
unfolding barred
without-both p i w s = rw (or_zero_r w, and_zero_r s) (sym (and_one (eqb (bit_and s w) 0)))
  where
    and_one : (b : Bool) → (b && true) ≡ b
    and_one true = refl
    and_one false = refl
