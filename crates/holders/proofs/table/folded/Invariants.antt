use Prim.Native.Nat.{ℕ, ◌*◌, ◌<◌}
use mathlib.Core.Path.{◌≡◌}
use lib.ListN.{length, get_or}
use Rattle.holders.specs.Filling.{folded_at}
use Rattle.holders.proofs.table.folded.Given as goal

abbrev pub invariant-loop-t : goal.invariant-loop-t
invariant-loop-t l = (length l.to ≡ 128) × ((j : ℕ) → j < 2 * l.t → get_or l.to j 0 ≡ folded_at l.from j)
