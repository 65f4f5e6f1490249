-- A loop that collects the boards below n that pass a test, in a byte.
-- Assumes nothing.
use Prim.Native.Nat.{ℕ, zero, suc, ◌+◌, ◌*◌, ◌%◌, ◌^◌, ◌<◌}
use mathlib.Core.Path.{◌≡◌, refl, sym, ◌∙◌, ap}
use mathlib.Core.Bool.{Bool, true, false}
use native.Mathlib.Nat.{one-mul, mod-eq_of_lt}
use native.Mathlib.Omega.{arith}
use native.Mathlib.Numerals.{add-one}
use lib.Bits.{bit_or}
use lib.Pow.{pow-lt}
use Rattle.sets.specs.Sets.{insert, set_of}

-- The set of one board, as the code makes it in a byte.
pub single : (q : ℕ) → q < 8 → 1 * 2 ^ q % 256 ≡ 2 ^ q
single q l = ap (λ x. x % 256) (one-mul (2 ^ q)) ∙ mod-eq_of_lt (pow-lt {j = 8} l)

pub insert-byte : (s q : ℕ) → q < 8 → bit_or s (1 * 2 ^ q % 256) ≡ insert q s
unfolding insert
insert-byte s q l = ap (bit_or s) (single q l)

module _ (f : ℕ → Bool) where
  pub set_of-zero : set_of f 0 ≡ 0
  unfolding set_of
  set_of-zero = refl

  set_of-in : (k : ℕ) → f k ≡ true → set_of f (suc k) ≡ insert k (set_of f k)
  unfolding set_of
  set_of-in k t = rw t

  set_of-out : (k : ℕ) → f k ≡ false → set_of f (suc k) ≡ set_of f k
  unfolding set_of
  set_of-out k t = rw t

  pub set_of-more : (k s : ℕ) → k < 8 → s ≡ set_of f k → f k ≡ true → bit_or s (1 * 2 ^ k % 256) ≡ set_of f (k + 1)
  set_of-more k s l e t = insert-byte s k l ∙ ap (insert k) e ∙ sym (set_of-in k t) ∙ ap (set_of f) (sym (add-one k))

  pub set_of-skip : (k s : ℕ) → s ≡ set_of f k → f k ≡ false → s ≡ set_of f (k + 1)
  set_of-skip k s e t = e ∙ sym (set_of-out k t) ∙ ap (set_of f) (sym (add-one k))

  -- No board passes.
  pub set_of-none : (k : ℕ) → ((i : ℕ) → i < k → f i ≡ false) → set_of f k ≡ 0
  set_of-none zero h = set_of-zero
  set_of-none (suc k) h = set_of-out k (h k (omega arith)) ∙ set_of-none k (λ i l. h i (omega arith))
