-- Those before the cell at hand are counted.
use Rattle.std.proofs.Common.{◌≡◌, ◌≤◌, not, eqb, get_or}
use Rattle.sets.specs.Search.{count}
use Rattle.counting.proofs.counting.count_others.Given as goal

abbrev pub invariant-loop-cell : goal.invariant-loop-cell
invariant-loop-cell l = (l.others ≡ count (λ k. not (eqb (get_or l.cells k 0) l.x)) l.cell-index) × (l.others ≤ l.cell-index)
