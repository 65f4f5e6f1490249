use Prim.Native.Nat.{ℕ, ◌<◌}
use mathlib.Core.Path.{◌≡◌}
use lib.ListN.{length, get_or}
use Rattle.holders.specs.Filling.{place_from, near}
use Rattle.holders.proofs.table.listings.Given as goal

abbrev pub invariant-loop-i : goal.invariant-loop-i
invariant-loop-i l = (length l.table ≡ 128) × ((a : ℕ) → a < 128 → get_or l.table a 0 ≡ place_from (λ p. near 0 a (get_or l.sets p 0)) (length l.sets) l.i)
