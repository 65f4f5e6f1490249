-- The root, as the code makes it in a byte and by number.
-- Assumes nothing.
use Prim.Native.Nat.{ℕ, ◌*◌, ◌%◌, ◌^◌, ◌<◌}
use mathlib.Core.Path.{◌≡◌, sym, ◌∙◌, subst}
use mathlib.Core.List.{[], ◌∷◌}
use native.Mathlib.Omega.{arith}
use lib.Bits.{or_zero_l}
use Rattle.sets.specs.Sets.{insert}
use Rattle.sets.proofs.Collect.{single}
use Rattle.tree.specs.Labels.{mask, labels, label_at}
use Rattle.tree.specs.Places.{level_size}

pub root-byte : (d : ℕ) → d < 8 → 1 * 2 ^ d % 256 ≡ mask (d ∷ [])
unfolding mask insert
root-byte d l = single d l ∙ sym (or_zero_l (2 ^ d))

pub root-at : (n d k i : ℕ) → k ≡ 1 → i < level_size n k → label_at n d k i ≡ d ∷ []
unfolding label_at labels level_size
root-at n d k i e h =
    let h' : i < level_size n 1 = subst (λ x. i < level_size n x) e h in
    let z : i ≡ 0 = omega arith in
    rw (e, z)
