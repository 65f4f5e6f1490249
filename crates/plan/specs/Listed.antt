-- The listed sets of a plan.
use Rattle.std.specs.Prelude.{ℕ, List, take}
use Rattle.plan.specs.declared.plan.Plan.{Plan}

-- The slots past the count are ignored.
unfoldable pub listed : Plan → List ℕ
listed p = take p.count p.sets
