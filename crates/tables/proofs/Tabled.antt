-- A set of a plan's boards is tolerated exactly if the plan's table of holders holds it.
-- Assumes nothing.
use Prim.Native.Nat.{ℕ, ◌≤◌, ◌<◌, ◌^◌}
use mathlib.Core.Path.{◌≡◌, ap, ◌∙◌}
use mathlib.Core.List.{List}
use native.Mathlib.Omega.{arith}
use lib.ListN.{length}
use lib.Pow.{pow_mono}
use Rattle.sets.specs.Structure.{tolerated}
use Rattle.holders.specs.Holders.{holds, Asked}
use Rattle.holders.proofs.Held.{table-length, table-tolerated}
use Rattle.plan.specs.declared.plan.Plan.{Plan}
use Rattle.plan.specs.Listed.{listed}
use Rattle.tables.specs.Tabled.{Askable}

-- A set of the plan's boards is one of the 128.
pub small-set : (p : Plan) (a : ℕ) → p.n ≤ 7 → a < 2 ^ p.n → a < 128
small-set p a l h = let z : 2 ^ p.n ≤ 2 ^ 7 = pow_mono l in omega arith

module _ {p : Plan} {holders : List ℕ} {a : ℕ} (q : Askable p holders a) where
  pub asked : Asked holders a
  asked = record { whole = ap length q.tabled.table ∙ table-length (listed p); small = small-set p a q.tabled.most-boards q.below }

  pub held-is : holds holders a ≡ tolerated (listed p) a
  held-is = table-tolerated (listed p) holders a q.tabled.table q.tabled.few-sets (small-set p a q.tabled.most-boards q.below)
