-- `level_size` meets its contract: the loop has multiplied the factors of the levels before `level`.
use Rattle.std.proofs.Common.{◌≡◌, ◌+◌, ◌-◌, ◌*◌, ◌∙◌, sym, ap, arith}
use Rattle.tree.specs.Places.{level_size, size_within}
use Rattle.tree.proofs.Sizes.{size-one, size-next, size-most}
use Rattle.tree.proofs.Within.{size-within, size-over, size-zero, size-deep}
use Rattle.levels.proofs.levels.level_size.Goals as goal
use Rattle.levels.proofs.levels.level_size.Goals.{After-from-size}
use Rattle.levels.proofs.levels.level_size.Goals.{then-n-gt7-via-then-n-gt7, then-n-gt7-via-else-n-gt7+then-n-k, then-n-gt7-via-else-n-gt7+else-n-k+then-k-eq0}

pub loop-level-init : goal.loop-level-init
loop-level-init c = sym (size-one c.args.n)

-- What the loop multiplies is the size of the next level.
next-size : (c : After-from-size) → c.loop-level.size * c.from-size.result ≡ level_size c.args.n (c.loop-level.level + 1)
next-size c =
    let l = c.loop-level in
    let size : l.size ≡ level_size c.args.n l.level = l.invariant in
    let width : c.from-size.result ≡ c.args.n - l.level = c.from-size.ensures in
    let next = size-next c.args.n l.level (omega arith) in
    cc

pub returns-then-n-gt7 : goal.returns-then-n-gt7
returns-then-n-gt7 c =
    let a = c.args in
    elim c.then-n-gt7.branch [
      | then-n-gt7-via-then-n-gt7 w ↦ sym (size-over a.n a.k w.if-n-gt7.true)
      | then-n-gt7-via-else-n-gt7+then-n-k w ↦ sym (size-deep a.n a.k w.if-n-k.true)
      | then-n-gt7-via-else-n-gt7+else-n-k+then-k-eq0 w ↦ sym (ap (size_within a.n) w.if-k-eq0.true ∙ size-zero a.n)
    ]

pub overflow_mul-size : goal.overflow_mul-size
overflow_mul-size c = record { fits = omega (arith, next-size c, size-most c.args.n (c.loop-level.level + 1) (omega arith)) }

pub loop-level-preserved : goal.loop-level-preserved
loop-level-preserved c = next-size c

pub returns : goal.returns
returns c =
    let a = c.args in
    let l = c.loop-level in
    l.invariant ∙ ap (level_size a.n) (let z : l.level ≡ a.k = omega arith in z) ∙ sym (size-within a.n a.k (omega arith) (omega arith))
