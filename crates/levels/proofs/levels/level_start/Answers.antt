-- `level_start` meets its contract: the levels before `level`, and `start` places for each node of that level, are what is asked for.
use Rattle.std.proofs.Common.{◌≡◌, ◌+◌, ◌-◌, ◌*◌, ◌≤◌, ◌∙◌, refl, sym, ap, arith}
use native.Mathlib.Nat.{mul-le-mul_right}
use Rattle.tree.specs.Places.{level_size, level_start, start_within}
use Rattle.tree.proofs.Sizes.{size-some, start_under, start-all}
use Rattle.tree.proofs.Within.{start-over, start-end, start-most}
use Rattle.levels.proofs.levels.level_start.Goals as goal
use Rattle.levels.proofs.levels.level_start.Goals.{After-from}

pub returns-then-n-gt7 : goal.returns-then-n-gt7
returns-then-n-gt7 c = let a = c.args in sym (start-over a.n a.k c.if-n-gt7.true)

-- The places for a node of the level above: its own, and those for its children. A turn keeps what is asked for.
turn : (c : After-from)
    → let a = c.args in
    let above = c.loop-level.level - 1 in
    level_start a.n above + level_size a.n above * (1 + c.loop-level.start * c.from.result) ≡ start_within a.n a.k
turn c =
    let a = c.args in
    let l = c.loop-level in
    let above = l.level - 1 in
    let z : above + 1 ≡ l.level = omega arith in
    ap (λ x. level_start a.n above + level_size a.n above * (1 + l.start * x)) c.from.ensures
    ∙ start_under a.n above l.start (omega arith)
    ∙ ap (λ x. level_start a.n x + level_size a.n x * l.start) z
    ∙ l.invariant.1

-- So the places for a node are no more than a board has cells.
under-most : (c : After-from) → 1 + c.loop-level.start * c.from.result ≤ 1957
under-most c =
    let a = c.args in
    let l = c.loop-level in
    let low : l.level ≤ a.n + 1 = omega (arith, l.auto.level, c.min-end.ensures) in
    omega (
      arith,
      turn c,
      start-most a.n a.k,
      mul-le-mul_right (1 + l.start * c.from.result) (size-some a.n (l.level - 1) (omega arith) (omega arith)),
    )

pub loop-level-init : goal.loop-level-init
loop-level-init c =
    let a = c.args in
    let at = ap (level_start a.n) c.min-end.ensures ∙ start-end a.n a.k (omega arith) in ((λ e. refl), omega (arith, at))

pub overflow_mul-start : goal.overflow_mul-start
overflow_mul-start c = record { fits = omega (arith, under-most c) }

pub overflow_add-start : goal.overflow_add-start
overflow_add-start c = record { fits = omega (arith, under-most c) }

pub loop-level-preserved : goal.loop-level-preserved
loop-level-preserved c = ((λ e. absurd (omega arith)), turn c)

pub returns : goal.returns
returns c =
    let a = c.args in
    let l = c.loop-level in
    start-all a.n l.level l.start (omega arith) l.invariant.0 ∙ l.invariant.1
