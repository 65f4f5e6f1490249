use Rattle.std.proofs.Common.{sym, ◌∙◌, arith}
use Rattle.sets.proofs.Collect.{set_of-zero, set_of-more, set_of-skip}
use Rattle.sets.proofs.choosing.set_of.Goals as goal
use Rattle.sets.proofs.choosing.set_of.Goals.{then-passes, else-passes}

pub loop-c-init : goal.loop-c-init
loop-c-init g c = λ p h. sym (set_of-zero p)

pub loop-c-preserved : goal.loop-c-preserved
loop-c-preserved g c = λ p h.
    let l = c.loop-c in
    let is = h l.c c.passes.result (omega arith) c.passes.ensures in
    elim c.if-passes.branch [
      | then-passes w ↦ w.set-is ∙ set_of-more p l.c l.set (omega arith) (l.invariant p h) (sym is ∙ w.if-passes.true)
      | else-passes w ↦ w.set-is ∙ set_of-skip p l.c l.set (l.invariant p h) (sym is ∙ w.if-passes.false)
    ]
