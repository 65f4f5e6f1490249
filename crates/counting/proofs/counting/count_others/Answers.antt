-- `count_others` meets its contract: one cell more each turn.
use Rattle.std.proofs.Common.{ℕ, ◌≡◌, ◌∙◌, sym, ap, Bool, not, eqb, arith, length, get_or}
use native.Mathlib.Numerals.{add-one}
use borrow.Author.Tests.{eq-eqb, ne_eqb}
use Rattle.sets.specs.Search.{count}
use Rattle.sets.proofs.Count.{count-in, count-out, count-zero}
use Rattle.sets.proofs.Tests.{true-not}
use Rattle.counting.proofs.counting.count_others.Goals as goal
use Rattle.counting.proofs.counting.count_others.Goals.{else-cell-x, then-cell-x}

pub loop-cell-init : goal.loop-cell-init
loop-cell-init c =
    let a = c.args in (sym (count-zero (λ k. not (eqb (get_or a.cells.now k 0) a.x))), omega arith)

pub loop-cell-preserved : goal.loop-cell-preserved
loop-cell-preserved c =
    let a = c.args in
    let l = c.loop-cell in
    let f : ℕ → Bool = λ k. not (eqb (get_or a.cells.now k 0) a.x) in
    elim c.if-cell-x.branch [
      | then-cell-x w ↦ (rw add-one (omega (arith, w.others-is, l.invariant.0, count-in f l.cell-index (true-not _ (ne_eqb _ _ w.if-cell-x.true)))), omega (arith, w.others-is))
      | else-cell-x w ↦ (rw add-one (omega (arith, w.others-is, l.invariant.0, count-out f l.cell-index (ap not (eq-eqb _ _ w.if-cell-x.false)))), omega (arith, w.others-is))
    ]

pub returns : goal.returns
returns c =
    let a = c.args in
    let l = c.loop-cell in
    let z : l.cell-index ≡ length a.cells.now = omega arith in
    record { value = l.invariant.0 ∙ ap (count (λ k. not (eqb (get_or a.cells.now k 0) a.x))) z; bound = omega arith }
