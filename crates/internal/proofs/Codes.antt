-- What the number of a node says.
-- Assumes nothing.
use Prim.Native.Nat.{ℕ, ◌/◌, ◌%◌, ◌≤◌, ◌<◌}
use mathlib.Core.Path.{◌≡◌}
use mathlib.Core.Bool.{true}
use mathlib.Core.List.{[], ◌∷◌, Memᴰ}
use native.Mathlib.Omega.{arith}
use lib.Dec.{eqb}
use borrow.Author.Tests.{eq-eqb}
use Rattle.sets.proofs.Tests.{or_left}
use Rattle.tree.specs.Labels.{Label, occurs, mask, last, labels}
use Rattle.tree.specs.Places.{rank}
use Rattle.tree.proofs.Labels.{label-below}
use Rattle.tree.proofs.Masks.{mask_lt}
use Rattle.internal.specs.Numbers.{code}

-- The number x is that of the label: its parts, and their bounds.
pub record Coded (n : ℕ) (α : Label) (x : ℕ) : Type 0 where
  pub index : x / 1024 ≡ rank n α
  pub end : x / 128 % 8 ≡ last α
  pub boards : x % 128 ≡ mask α
  pub end_below : last α < 7
  pub boards-below : mask α < 128

last-below : (α : Label) → ((i : ℕ) → occurs i α ≡ true → i < 7) → last α < 7
unfolding last occurs
last-below [] h = omega arith
last-below (q ∷ α) h = h q (or_left (eqb q q) (occurs q α) (eq-eqb q q (omega arith)))

-- A label whose boards are below 7.
pub coded : (n : ℕ) (α : Label) → ((i : ℕ) → occurs i α ≡ true → i < 7) → Coded n α (code n α)
unfolding code
coded n α h =
    let e = last-below α h in
    let b : mask α < 128 = mask_lt 7 α h in
    record { index = omega arith; end = omega arith; boards = omega arith; end_below = e; boards-below = b }

pub label-coded : (n d k : ℕ) (α : Label) → n ≤ 7 → d < n → Memᴰ α (labels n d k) → Coded n α (code n α)
label-coded n d k α l ld m = coded n α (λ i t. let z = label-below n d k α ld m i t in omega arith)
