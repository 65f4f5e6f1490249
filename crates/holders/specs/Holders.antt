-- The table of holders: for every set of boards 0 to 6 the place of the first listed set that holds it.
-- A middle layer: `holder` of sets/Structure is the definition, the table says it as bytes.
-- Assumes nothing.
use Rattle.std.specs.Prelude.{ℕ, ◌<◌, ◌≡◌, Bool, List, length, get_or}
use Rattle.std.proofs.Math.Option.{Option}
use Rattle.sets.specs.Structure.{held_at, is_some}
use Rattle.sets.specs.Tabulate.{tabulate}
use Rattle.tolerance.specs.Bytes.{byte_place}

-- The place for every set of boards 0 to 6, 128 bytes.
unfoldable pub holder_table : List ℕ → List ℕ
holder_table sets = tabulate (held_at sets) 0 128

-- The place that the table gives for a set.
unfoldable pub holder_in : List ℕ → ℕ → Option ℕ
holder_in holders a = byte_place (get_or holders a 255)

-- Has a set a place, by the table?
unfoldable pub holds : List ℕ → ℕ → Bool
holds holders a = is_some (holder_in holders a)

-- What is asked of a table: one of the 128 sets.
pub record Asked (holders : List ℕ) (a : ℕ) : Type 0 where
  pub whole : length holders ≡ 128
  pub small : a < 128
