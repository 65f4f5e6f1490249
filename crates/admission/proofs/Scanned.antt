-- What the scan of a list tests is number 4.
-- Assumes nothing.
use Rattle.std.proofs.Common.{ℕ, ◌≡◌, ◌≤◌, min, Bool, not, ap, sym, ◌∙◌, List, length, get_or, arith}
use Rattle.sets.specs.Search.{any}
use Rattle.sets.specs.Sets.{within, boards}
use Rattle.admission.specs.Calls.{strays}

pub scanned : (n : ℕ) (sets : List ℕ) (all : ℕ) (b : Bool) → n ≤ 7 → all ≡ boards (min n 8)
    → b ≡ any (λ i. not (within (get_or sets i 0) all)) (length sets) → strays n sets ≡ b
unfolding strays
scanned n sets all b l e t =
    sym (t ∙ ap (λ x. any (λ i. not (within (get_or sets i 0) x)) (length sets)) (e ∙ ap boards (let z : min n 8 ≡ n = omega arith in z)))
