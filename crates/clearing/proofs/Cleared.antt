-- Cells that hold the mark, and the first of them.
-- Assumes nothing.
use Rattle.std.proofs.Common.{ℕ, zero, suc, ◌-◌, ◌<◌, ◌≡◌, sym, ap, List, ◌∷◌, ◌++◌, drop, replicate, arith}
use native.Mathlib.Numerals.{sub-one}
use lib.ListN.{set}
use Rattle.codec.specs.Codec.{Width, blank}
use Rattle.tree.specs.Places.{cell_count}
use Rattle.protocol.specs.Rounds.{root_only}

first-set : (w : Width) (k root : ℕ) (xs : List ℕ) → 0 < k → set (replicate k (blank w) ++ xs) 0 root ≡ (root ∷ replicate (k - 1) (blank w)) ++ xs
first-set w zero root xs l = absurd (omega arith)
first-set w (suc k) root xs l = ap (λ z. root ∷ (replicate z (blank w) ++ xs)) (sym (sub-one (suc k)))

-- The first cell of cleared ones is set.
pub cleared-root : (w : Width) (n root : ℕ) (cells : List ℕ) → 0 < cell_count n → set (replicate (cell_count n) (blank w) ++ drop (cell_count n) cells) 0 root ≡ root_only w n root cells
unfolding root_only
cleared-root w n root cells l = first-set w (cell_count n) root (drop (cell_count n) cells) l
