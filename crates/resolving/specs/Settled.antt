-- Resolving in place: a board's cells once every node has left what it resolved to in its own cell. A middle layer: `resolve` of crate
-- protocol is the definition, and proofs/Settled shows what the cells then hold.
use Rattle.std.specs.Prelude.{ℕ, zero, suc, ◌-◌, cond, List, [], ◌∷◌}
use Rattle.plan.specs.declared.plan.Plan.{Plan}
use Rattle.schedule.specs.Schedule.{rounds}
use Rattle.tree.specs.Labels.{Label, occurs}
use Rattle.tree.specs.Cells.{store}
use Rattle.protocol.specs.Nodes.{internal}
use Rattle.protocol.specs.Detection.{resolve}
use Rattle.voting.specs.Worth.{worth}

-- The cells after f at the children of α by boards below k, rising.
unfoldable pub settled_below : (Label → List ℕ → List ℕ) → Label → ℕ → List ℕ → List ℕ
settled_below f α zero cells = cells
settled_below f α (suc k) cells = let before = settled_below f α k cells in cond (occurs k α) before (f (k ∷ α) before)

-- The cells after α, with `left` levels below it: its children come first, if it is internal.
unfoldable pub settled : Plan → ℕ → ℕ → Label → List ℕ → List ℕ
settled p i zero α cells = store p.n cells α (worth (resolve p i cells zero α))
settled p i (suc left) α cells =
    let below = settled_below (settled p i left) α p.n cells in
    store p.n (cond (internal p i α) below cells) α (worth (resolve p i cells (suc left) α))

-- The whole tree.
unfoldable pub settled_all : Plan → ℕ → List ℕ → List ℕ
settled_all p i cells = settled p i ((rounds p).0 - 1) (p.dealer ∷ []) cells
