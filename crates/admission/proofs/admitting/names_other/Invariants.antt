-- Where the first set that names another board stands, it is not before the set at hand.
use Rattle.std.proofs.Common.{ℕ, ◌-◌, ◌≡◌, Bool, not, List, length, get_or}
use Rattle.sets.specs.Search.{first}
use Rattle.sets.specs.Sets.{within}
use Rattle.admission.proofs.admitting.names_other.Given as goal

-- The set at i has a board outside `all`.
abbrev pub other : List ℕ → ℕ → ℕ → Bool
other sets all i = not (within (get_or sets i 0) all)

abbrev pub invariant-loop-s : goal.invariant-loop-s
invariant-loop-s l = first (other l.sets l.all) (length l.sets - l.s-index) l.s-index ≡ first (other l.sets l.all) (length l.sets) 0
