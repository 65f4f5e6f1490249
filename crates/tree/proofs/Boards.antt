-- The boards outside a set, one board after the other.
-- Assumes nothing.
use Prim.Native.Nat.{ℕ, ◌+◌, ◌≤◌}
use mathlib.Core.Path.{◌≡◌, ap}
use mathlib.Core.Bool.{true, false, not}
use native.Mathlib.Numerals.{add-one}
use Rattle.sets.specs.Sets.{member}
use Rattle.sets.proofs.Count.{count-in, count-out, count-zero, count-le, count_same}
use Rattle.tree.specs.Labels.{Label, occurs, mask}
use Rattle.tree.specs.Places.{ordinal, outside_below}
use Rattle.tree.proofs.Masks.{mask-member}

pub outside-zero : (s : ℕ) → outside_below s 0 ≡ 0
unfolding outside_below
outside-zero s = count-zero (λ i. not (member i s))

pub outside-le : (s k : ℕ) → outside_below s k ≤ k
unfolding outside_below
outside-le s k = count-le (λ i. not (member i s)) k

-- One board further: one more if it is outside.
pub outside-more : (s i : ℕ) → member i s ≡ false → outside_below s (i + 1) ≡ outside_below s i + 1
unfolding outside_below
outside-more s i e = rw (add-one i) (count-in (λ i. not (member i s)) i (rw e))

pub outside-skip : (s i : ℕ) → member i s ≡ true → outside_below s (i + 1) ≡ outside_below s i
unfolding outside_below
outside-skip s i e = rw (add-one i) (count-out (λ i. not (member i s)) i (rw e))

-- Among the children of a label, the boards outside its mask are numbered.
pub ordinal-outside : (q : ℕ) (α : Label) → outside_below (mask α) q ≡ ordinal q α
unfolding outside_below ordinal
ordinal-outside q α = count_same (λ i. not (member i (mask α))) (λ i. not (occurs i α)) q (λ i _. ap not (mask-member i α))
