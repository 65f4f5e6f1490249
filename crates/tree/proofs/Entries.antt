-- A list has the entry at each index below its length.
-- Assumes nothing.
use Prim.Native.Nat.{ℕ, zero, suc, ◌<◌}
use mathlib.Core.Path.{refl}
use mathlib.Core.List.{List, [], ◌∷◌, Memᴰ}
use native.Mathlib.Omega.{arith}
use lib.ListN.{length, get_or}

pub get_d-mem {ℓ} : {A : Type ℓ} (l : List A) (i : ℕ) (x : A) → i < length l → Memᴰ (get_or l i x) l
get_d-mem [] i x h = absurd (omega arith)
get_d-mem (a ∷ l) zero x h = Memᴰ.head refl
get_d-mem (a ∷ l) (suc i) x h = Memᴰ.tail (get_d-mem l i x (omega arith))
