-- What callers use of the settled cells: there are as many, and surplus cells stay.
-- Assumes nothing.
use Prim.Native.Nat.{ℕ, ◌-◌, ◌<◌}
use mathlib.Core.Path.{◌≡◌}
use mathlib.Core.List.{List, [], ◌∷◌, Memᴰ}
use lib.ListN.{length, drop}
use Rattle.plan.specs.declared.plan.Plan.{Plan}
use Rattle.schedule.specs.Schedule.{rounds}
use Rattle.tree.specs.Labels.{labels}
use Rattle.tree.specs.Places.{cell_count}
use Rattle.tree.proofs.Labels.{root-has}
use Rattle.resolving.specs.Settled.{settled_all}
use Rattle.resolving.proofs.Settled.{settled-length, settled-drop}

pub root-labelled : (p : Plan) → Memᴰ (p.dealer ∷ []) (labels p.n p.dealer 1)
root-labelled p = root-has p.n p.dealer

pub all-length : (p : Plan) (i : ℕ) (cells : List ℕ) → length (settled_all p i cells) ≡ length cells
unfolding settled_all
all-length p i cells = settled-length p i ((rounds p).0 - 1) (p.dealer ∷ []) cells

pub all_drop : (p : Plan) (i : ℕ) (cells : List ℕ) → p.dealer < p.n → drop (cell_count p.n) (settled_all p i cells) ≡ drop (cell_count p.n) cells
unfolding settled_all
all_drop p i cells ld = settled-drop p i ld ((rounds p).0 - 1) (p.dealer ∷ []) cells (root-labelled p)
