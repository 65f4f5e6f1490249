-- A node as one number. A middle layer.
use Rattle.std.specs.Prelude.{ℕ, ◌+◌, ◌*◌}
use Rattle.tree.specs.Labels.{Label, mask, last}
use Rattle.tree.specs.Places.{rank}

-- Its number in its level, its last board, and its boards.
abbrev pub pack : ℕ → ℕ → ℕ → ℕ
pack index last boards = (index * 8 + last) * 128 + boards

unfoldable pub code : ℕ → Label → ℕ
code n α = pack (rank n α) (last α) (mask α)
