-- The bits of a byte that are set are its boards.
-- Assumes nothing.
use Rattle.std.proofs.Common.{ℕ, zero, suc, ◌+◌, ◌/◌, ◌%◌, ◌^◌, ◌≡◌, ◌<◌, Bool, cond, eqb, arith}
use lib.Count.{ones_step, ones-le}
use native.Mathlib.Nat.{pow-suc}
use borrow.Author.Tests.{eqb-true, eqb-false}
use Rattle.std.specs.Prelude.{count_ones}
use Rattle.sets.specs.Search.{count}
use Rattle.sets.specs.Sets.{member, size}
use Rattle.sets.proofs.Bridges.{count-shift}
use Rattle.sets.proofs.Count.{count-zero, count_same}
use Rattle.sets.proofs.Member.{member-half}
use Rattle.sets.proofs.Tests.{cases}

lowest : (s : ℕ) → cond (member 0 s) 1 0 ≡ s % 2
unfolding member
lowest s =
    cases (eqb (s / 2 ^ 0 % 2) 1)
    (λ e. rw e (omega (arith, eqb-true (s / 2 ^ 0 % 2) 1 e)))
    (λ e. rw e (let h : s / 2 ^ 0 % 2 ≡ 1 → ⊥ = eqb-false (s / 2 ^ 0 % 2) 1 e in omega arith))

ones-count : (k s : ℕ) → s < 2 ^ k → count_ones s ≡ count (λ i. member i s) k
ones-count zero s l = omega (arith, ones-le 0 s l, count-zero (λ i. member i s))
ones-count (suc k) s l =
    let ih = ones-count k (s / 2) (omega (arith, pow-suc 2 k)) in
    omega (arith, ones_step s, ih, lowest s, count-shift (λ i. member i s) k, count_same (λ i. member i (s / 2)) (λ i. member (suc i) s) k (λ i h. member-half i s))

pub ones_size : (s : ℕ) → s < 256 → count_ones s ≡ size s
unfolding size
ones_size s l = ones-count 8 s l
