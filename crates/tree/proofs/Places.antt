-- Every label has a place of its own among the cells.
-- Assumes nothing.
use Prim.Native.Nat.{ℕ, suc, ◌+◌, ◌≤◌, ◌<◌}
use mathlib.Core.Path.{◌≡◌, refl, subst}
use mathlib.Core.List.{[], ◌∷◌, Memᴰ}
use native.Mathlib.Omega.{arith}
use lib.Dec.{ltb, leb}
use borrow.Author.Tests.{ltb-true, ltb-false, leb-true, leb-false}
use Rattle.sets.proofs.Tests.{cases}
use Rattle.tree.specs.Labels.{Label, labels}
use Rattle.tree.specs.Places.{level_size, level_start, cell_count, rank, place}
use Rattle.tree.proofs.Labels.{label-length, root-has}
use Rattle.tree.proofs.Sizes.{size-past, start-suc, start-mono, start-le}
use Rattle.tree.proofs.Ranks.{rank_lt, rank-injective}

pub place-split : (n d k : ℕ) (α : Label) → Memᴰ α (labels n d k) → place n α ≡ level_start n k + rank n α
unfolding place
place-split n d k α m = rw (label-length n d k α m)

-- A label's place is inside its level.
pub place_inside : (n d k : ℕ) (α : Label) → d < n → Memᴰ α (labels n d k) → (level_start n k ≤ place n α) × (place n α < level_start n (suc k))
place_inside n d k α l m = omega (arith, place-split n d k α m, rank_lt n d k α l m, start-suc n k)

-- No label is of a level past n.
pub label-level : (n d k : ℕ) (α : Label) → d < n → Memᴰ α (labels n d k) → k ≤ n
label-level n d k α l m =
    cases (leb k n)
    (λ e. leb-true k n e)
    (λ e. absurd (omega (arith, size-past n k (omega arith) (leb-false k n e), rank_lt n d k α l m)))

pub place-lt : (n d k : ℕ) (α : Label) → d < n → Memᴰ α (labels n d k) → place n α < cell_count n
place-lt n d k α l m = omega (arith, (place_inside n d k α l m).1, start-le n (suc k) (omega arith))

-- The root's cell is the first.
pub root-place : (n d : ℕ) → place n (d ∷ []) ≡ 0
unfolding place level_start level_size rank
root-place n d = refl

pub some-cell : (n d : ℕ) → d < n → 0 < cell_count n
some-cell n d l = omega (arith, place-lt n d 1 (d ∷ []) l (root-has n d))

-- The places of a level stand before those of every later level.
pub place-levels : (n d a b : ℕ) (α β : Label) → d < n → Memᴰ α (labels n d a) → Memᴰ β (labels n d b) → a < b → place n α < place n β
place-levels n d a b α β l m w h =
    omega (arith, (place_inside n d a α l m).1, (place_inside n d b β l w).0, start-mono n (suc a) b h)

-- Places of different labels differ.
pub place-injective : (n d a b : ℕ) (α β : Label) → d < n → Memᴰ α (labels n d a) → Memᴰ β (labels n d b) → place n α ≡ place n β → α ≡ β
place-injective n d a b α β l m w e =
    cases (ltb a b)
    (λ s. absurd (omega (arith, place-levels n d a b α β l m w (ltb-true a b s))))
    (λ s. cases (ltb b a)
    (λ t. absurd (omega (arith, place-levels n d b a β α l w m (ltb-true b a t))))
    (λ t. let z : b ≡ a = omega (arith, ltb-false a b s, ltb-false b a t) in
    let w' : Memᴰ β (labels n d a) = subst (λ k. Memᴰ β (labels n d k)) z w in
    rank-injective n d a α β l m w' (omega (arith, place-split n d a α m, place-split n d a β w'))))
