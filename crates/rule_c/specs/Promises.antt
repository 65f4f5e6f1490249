-- What rule C asks of the cells and the list of nodes. A middle layer: `inner` of protocol/Nodes is the definition.
use Rattle.std.specs.Prelude.{ℕ, ◌≤◌, ◌<◌, ◌≡◌, List, map}
use Rattle.plan.specs.declared.plan.Plan.{Plan}
use Rattle.schedule.specs.Schedule.{rounds}
use Rattle.protocol.specs.Nodes.{inner}
use Rattle.internal.specs.Numbers.{code}
use Rattle.resolving.specs.Promises.{Convertible}

-- A level with internal nodes, as their list.
pub record Listed (p : Plan) (i level : ℕ) (nodes : List ℕ) : Type 0 where
  pub low : 1 ≤ level
  pub high : level < (rounds p).0
  pub all : nodes ≡ map (code p.n) (inner p i level)

-- The same, in cells that hold what each node resolved to.
pub record AtNodes (p : Plan) (holders : List ℕ) (i level : ℕ) (nodes cells : List ℕ) : Type 0 where
  pub convertible : Convertible p holders i cells
  pub listed : Listed p i level nodes

-- A level with internal nodes, in cells that hold what each node resolved to.
pub record AtLevel (p : Plan) (holders : List ℕ) (i level : ℕ) (cells : List ℕ) : Type 0 where
  pub convertible : Convertible p holders i cells
  pub low : 1 ≤ level
  pub high : level < (rounds p).0
