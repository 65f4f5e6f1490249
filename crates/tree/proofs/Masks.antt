-- The set of the boards of a label.
-- Assumes nothing.
use Prim.Native.Nat.{ℕ, ◌^◌, ◌<◌}
use mathlib.Core.Path.{◌≡◌, ◌∙◌, ap}
use mathlib.Core.Bool.{true, ◌||◌}
use mathlib.Core.List.{[], ◌∷◌}
use native.Mathlib.Omega.{arith}
use lib.Dec.{eqb}
use lib.Bits.{or_lt}
use lib.Pow.{pow-lt, pow_pos}
use borrow.Author.Tests.{eq-eqb}
use Rattle.sets.specs.Sets.{member, insert}
use Rattle.sets.proofs.Member.{member-insert, member-empty}
use Rattle.sets.proofs.Tests.{or_left, or_right}
use Rattle.tree.specs.Labels.{Label, occurs, mask}

pub mask-member : (i : ℕ) (α : Label) → member i (mask α) ≡ occurs i α
unfolding mask occurs
mask-member i [] = member-empty i
mask-member i (q ∷ α) = member-insert i q (mask α) ∙ ap (λ b. eqb i q || b) (mask-member i α)

pub mask_lt : (k : ℕ) (α : Label) → ((i : ℕ) → occurs i α ≡ true → i < k) → mask α < 2 ^ k
unfolding mask occurs insert
mask_lt k [] h = pow_pos k
mask_lt k (q ∷ α) h =
    or_lt k (mask α) (2 ^ q)
    (mask_lt k α (λ i t. h i (or_right (eqb i q) (occurs i α) t)))
    (pow-lt (h q (or_left (eqb q q) (occurs q α) (eq-eqb q q (omega arith)))))
