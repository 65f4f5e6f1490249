-- The largest listed set that holds a board, one listed set after the other.
-- Assumes nothing.
use Prim.Native.Nat.{ℕ, ◌+◌, ◌<◌, ◌≤◌, max}
use mathlib.Core.Path.{◌≡◌, ap, ◌∙◌}
use mathlib.Core.Bool.{cond}
use mathlib.Core.List.{List}
use lib.ListN.{length, get_or, drop, drop_of_length-le}
use lib.Seq.{drop-cons}
use native.Mathlib.Numerals.{add-one}
use Rattle.sets.specs.Sets.{member, size}
use Rattle.heights.specs.Levels.{largest}

-- One listed set more.
pub largest_step : (sets : List ℕ) (i d : ℕ) → i < length sets
    → largest (drop i sets) d ≡ max (cond (member d (get_or sets i 0)) (size (get_or sets i 0)) 0) (largest (drop (i + 1) sets) d)
unfolding largest
largest_step sets i d l = ap (λ x. largest x d) (drop-cons sets i 0 l) ∙ rw add-one

pub largest-end : (sets : List ℕ) (i d : ℕ) → length sets ≤ i → largest (drop i sets) d ≡ 0
unfolding largest
largest-end sets i d l = ap (λ x. largest x d) (drop_of_length-le sets l)
