-- A middle layer: number 5 by pairs. The first pair of sets whose other boards are held, and their holder, is the first triple (proofs/Pairs.antt).
use Rattle.std.specs.Prelude.{ℕ, zero, suc, ◌-◌, ◌≤◌, ◌<◌, ◌≡◌, not, cond, List, ltb, length, get_or, Option, Some, None}
use Rattle.sets.specs.Search.{first}
use Rattle.sets.specs.Sets.{member, union, set_of}
use Rattle.sets.specs.Structure.{held_at, tolerated}
use Rattle.holders.specs.Holders.{holder_table}

-- The boards that stand in one of the first k sets.
unfoldable pub union_of : List ℕ → ℕ → ℕ
union_of sets zero = 0
union_of sets (suc k) = union (union_of sets k) (get_or sets k 0)

-- The boards below n that are not in s.
unfoldable pub outside : ℕ → ℕ → ℕ
outside n s = set_of (λ q. not (member q s)) n

-- The boards that the sets at i and j leave.
unfoldable pub others : ℕ → List ℕ → ℕ → ℕ → ℕ
others n sets i j = outside n (union (get_or sets i 0) (get_or sets j 0))

-- A place of the list; none where a search came to the list's length.
unfoldable pub place_in : List ℕ → ℕ → Option ℕ
place_in sets p = cond (ltb p (length sets)) (Some p) None

-- The place of the first set that holds them; FF if none does.
unfoldable pub third_held : ℕ → List ℕ → ℕ → ℕ → ℕ
third_held n sets i j = held_at sets (others n sets i j)

-- The first j from i on for which a set holds them; the list's length if there is none.
unfoldable pub second_held : ℕ → List ℕ → ℕ → ℕ
second_held n sets i = first (λ j. tolerated sets (others n sets i j)) (length sets - i) i

-- The first i for which there is such a j.
unfoldable pub first_held : ℕ → List ℕ → ℕ
first_held n sets = first (λ i. ltb (second_held n sets i) (length sets)) (length sets) 0

-- Numbers 1 and 3 do not apply.
pub record Limited (n : ℕ) (sets : List ℕ) : Type 0 where
  pub most-boards : n ≤ 7
  pub most-sets : length sets ≤ 32

-- The same, with the table of the list.
pub record WithTable (n : ℕ) (sets holders : List ℕ) : Type 0 where
  pub most-boards : n ≤ 7
  pub most-sets : length sets ≤ 32
  pub table : holders ≡ holder_table sets

-- Two places of the list.
pub record Pair (n : ℕ) (sets : List ℕ) (i j : ℕ) : Type 0 where
  pub most-boards : n ≤ 7
  pub first-listed : i < length sets
  pub second-listed : j < length sets

-- The same, with the table.
pub record Paired (n : ℕ) (sets holders : List ℕ) (i j : ℕ) : Type 0 where
  pub tabled : WithTable n sets holders
  pub pair : Pair n sets i j
