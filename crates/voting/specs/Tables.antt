-- Resolving and both rules, read off the table of what a node's children are worth. The node has the boards s. A middle layer: `vote` and
-- `explained` of crate protocol are the definitions.
use Rattle.std.specs.Prelude.{ℕ, Bool, not, ◌&&◌, ◌||◌, List, eqb, ltb, get_or}
use Rattle.sets.specs.Search.{any}
use Rattle.sets.specs.Only.{only}
use Rattle.sets.specs.Sets.{member, set_of}
use Rattle.sets.specs.Structure.{tolerated}
use Rattle.plan.specs.declared.plan.Plan.{Plan}
use Rattle.plan.specs.Listed.{listed}
use Rattle.voting.specs.Worth.{worth}

-- What child c is worth; a table has eight entries.
abbrev pub at : List ℕ → ℕ → ℕ
at values c = get_or values c 0

-- The children worth v.
unfoldable pub agreeing : ℕ → ℕ → List ℕ → ℕ → ℕ
agreeing n s values v = set_of (λ c. not (member c s) && eqb (at values c) v) n

-- Do the children worth v form a set that is not tolerated?
unfoldable pub elected : Plan → ℕ → List ℕ → ℕ → Bool
elected p s values v = not (tolerated (listed p) (agreeing p.n s values v))

-- The only such value below m.
unfoldable pub voted : Plan → ℕ → List ℕ → ℕ
voted p s values = worth (only (elected p s values) p.span)

-- The children not worth v, and the boards of the list.
unfoldable pub dissenting : ℕ → ℕ → List ℕ → ℕ → ℕ → ℕ
dissenting n s values v list = set_of (λ c. (not (member c s) && not (eqb (at values c) v)) || member c list) n

-- Does the value of child c explain what the children are worth?
unfoldable pub explains : Plan → ℕ → List ℕ → ℕ → ℕ → Bool
explains p s values list c =
    not (member c s)
    && (ltb (at values c) p.span && tolerated (listed p) (dissenting p.n s values (at values c) list))

-- Does the value of some child?
unfoldable pub explained_by : Plan → ℕ → List ℕ → ℕ → Bool
explained_by p s values list = any (explains p s values list) p.n
