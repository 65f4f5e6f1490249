-- What an answer to the test says of the place.
-- Assumes nothing.
use Prim.Native.Nat.{ℕ, ◌≤◌, min}
use mathlib.Core.Path.{◌≡◌, refl, sym, ap, ◌∙◌}
use mathlib.Core.List.{List, [], ◌∷◌}
use mathlib.Core.Option
use mathlib.Core.Option.{Option, some, none}
use native.Mathlib.Omega.{arith}
use lib.ListN.{length, get_or}
use Rattle.sets.specs.Structure.{holder, held_at, is_some}
use Rattle.sets.proofs.Tolerated.{held-byte}
use Rattle.refusals.specs.Outcome.{Outcome, taken}
use Rattle.std.specs.Prelude.{Some, None}
use Rattle.std.specs.Prelude as S
use Rattle.tolerance.specs.Places.{place_says, found_at}
use Rattle.tolerance.specs.Bytes.{place_byte}

pub found-at : (o : Option ℕ) (i : ℕ) → taken (i ∷ []) ≡ found_at o → o ≡ some i
unfolding found_at
found-at none i e = absurd (let z : 1 ≡ 0 = ap (λ (x : Outcome). length x.values) e in omega arith)
found-at (some k) i e = ap (λ (x : Outcome). some (get_or x.values 0 0)) (sym e)

pub found_nowhere : (o : Option ℕ) → taken [] ≡ found_at o → o ≡ none
unfolding found_at
found_nowhere none e = refl
found_nowhere (some k) e = absurd (let z : 0 ≡ 1 = ap (λ (x : Outcome). length x.values) e in omega arith)

-- Whether there is a place.
pub is-found : (p : S.Option ℕ) (o : Option ℕ) → place_says p ≡ found_at o → S.is_some p ≡ is_some o
unfolding place_says is_some
is-found (Some i) o e = sym (ap is_some (found-at o i e))
is-found None o e = sym (ap is_some (found_nowhere o e))

-- As a byte, for a list of at most 255 sets.
pub found-byte : (sets : List ℕ) (a : ℕ) → length sets ≤ 255 → place_byte (found_at (holder sets a)) ≡ held_at sets a
unfolding place_byte found_at held_at
found-byte sets a short =
    go (holder sets a) ∙ (let z : min (Option.get_or (holder sets a) 255) 255 ≡ Option.get_or (holder sets a) 255 = omega (arith, held-byte sets a short) in z)
  where
    go : (o : Option ℕ) → place_byte (found_at o) ≡ min (Option.get_or o 255) 255
    go none = refl
    go (some i) = refl

-- What an answer says determines it.
pub place-says-injective : (p q : S.Option ℕ) → place_says p ≡ place_says q → p ≡ q
unfolding place_says
place-says-injective (Some i) (Some k) e = ap (λ (x : Outcome). Some (get_or x.values 0 0)) e
place-says-injective (Some i) None e = absurd (let z : 1 ≡ 0 = ap (λ (x : Outcome). length x.values) e in omega arith)
place-says-injective None (Some k) e = absurd (let z : 0 ≡ 1 = ap (λ (x : Outcome). length x.values) e in omega arith)
place-says-injective None None e = refl
