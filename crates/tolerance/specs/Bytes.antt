-- A middle layer: a place as a byte, FF for none, as the table of holders has it and `held_at` of sets/Structure says it.
use Rattle.std.specs.Prelude.{ℕ, min, cond, eqb, get_or}
use Rattle.std.proofs.Math.Option.{Option, some, none}
use Rattle.refusals.specs.Outcome.{Outcome}

-- The place of an answer to the test; FF also for a place that is above it.
unfoldable pub place_byte : Outcome → ℕ
place_byte o = min (get_or o.values 0 255) 255

-- The place that such a byte says.
unfoldable pub byte_place : ℕ → Option ℕ
byte_place x = cond (eqb x 255) none (some x)
