-- Lists whose every entry is mapped.
-- Assumes nothing.
use Prim.Native.Nat.{ℕ, zero, suc}
use mathlib.Core.Path.{◌≡◌, refl, ap}
use mathlib.Core.List.{List, [], ◌∷◌, map}
use lib.ListN.{set, take, drop}

module _ (f : ℕ → ℕ) where
  pub set-map : (l : List ℕ) (k v : ℕ) → set (map f l) k (f v) ≡ map f (set l k v)
  set-map [] k v = refl
  set-map (x ∷ l) zero v = refl
  set-map (x ∷ l) (suc k) v = ap (λ t. f x ∷ t) (set-map l k v)

  pub take-map : (k : ℕ) (l : List ℕ) → take k (map f l) ≡ map f (take k l)
  take-map zero l = refl
  take-map (suc k) [] = refl
  take-map (suc k) (x ∷ l) = ap (λ t. f x ∷ t) (take-map k l)

  pub drop-map : (k : ℕ) (l : List ℕ) → drop k (map f l) ≡ map f (drop k l)
  drop-map zero l = refl
  drop-map (suc k) [] = refl
  drop-map (suc k) (x ∷ l) = drop-map k l
