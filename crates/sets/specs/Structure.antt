-- An adversary structure, given by listed sets (01: "A structure is given by 1 to 32 sets"; 003: its basis). 02 a: an empty list
-- "means that only the empty set is tolerated".
use Rattle.std.specs.Prelude.{ℕ, Bool, true, false, cond, List, eqb, ltb, length, get_or}
use Rattle.std.proofs.Math.Option
use Rattle.std.proofs.Math.Option.{Option, some, none}
use Rattle.sets.specs.Search.{first}
use Rattle.sets.specs.Sets.{within}

-- The test whether a is tolerated. 02 c: it "gives the place, from 0, of the first listed set that holds it, or says that none does; an empty
-- list gives place 0 for the empty set". The empty set lies within the first listed set, so its place is always 0.
unfoldable pub holder : List ℕ → ℕ → Option ℕ
holder sets a =
    let i = first (λ i. within a (get_or sets i 0)) (length sets) 0 in
    let listed = cond (ltb i (length sets)) (some i) none in
    cond (eqb a 0) (some 0) listed

unfoldable pub is_some : Option ℕ → Bool
is_some none = false
is_some (some i) = true

-- 01: "A set is tolerated if it lies within a listed set; the empty set always is": it has a place. 003: an adversary set.
unfoldable pub tolerated : List ℕ → ℕ → Bool
tolerated sets a = is_some (holder sets a)

-- The place of a set in a list of at most 255 sets as a byte, FF if there is none: as a printed line and the table of holders have it.
unfoldable pub held_at : List ℕ → ℕ → ℕ
held_at sets a = Option.get_or (holder sets a) 255
