-- Bytes that have come are those that the read counts, and at least one.
-- Assumes nothing.
use Rattle.std.proofs.Common.{◌≡◌, ℕ, zero, suc, ◌≤◌, arith, List, length, Result, Ok, Err, Some}
use Rattle.std.specs.Io.{ReadsAtMost}
use Rattle.input.specs.Input.{arrival}

pub some-came : {E : Type 0} (got : Result ℕ E) (k : ℕ) (buffer : List ℕ) → ReadsAtMost got buffer → arrival got ≡ Ok (Some k) → (1 ≤ k) × (k ≤ length buffer)
unfolding arrival
some-came (Ok zero) k buffer b e = absurd cc
some-came (Ok (suc n)) k buffer b e = let z : suc n ≡ k = cc in (omega arith, omega (arith, b.0))
some-came (Err x) k buffer b e = absurd cc
