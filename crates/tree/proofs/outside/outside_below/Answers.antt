use Rattle.std.proofs.Common.{sym, ◌∙◌, arith}
use Rattle.tree.proofs.Boards.{outside-zero, outside-le, outside-more, outside-skip}
use Rattle.tree.proofs.outside.outside_below.Goals as goal
use Rattle.tree.proofs.outside.outside_below.Goals.{else-not-member, then-not-member}

pub loop-i-init : goal.loop-i-init
loop-i-init c = sym (outside-zero c.args.s)

pub overflow_add-seen : goal.overflow_add-seen
overflow_add-seen c =
    let l = c.loop-i in
    record { fits = omega (arith, outside-le c.args.s l.i) }

pub loop-i-preserved : goal.loop-i-preserved
loop-i-preserved c =
    let a = c.args in
    let l = c.loop-i in
    elim c.if-not-member.branch [
      | then-not-member w ↦ omega (arith, w.seen-is, outside-more a.s l.i (sym c.member.ensures ∙ w.if-not-member.true))
      | else-not-member w ↦ omega (arith, w.seen-is, outside-skip a.s l.i (sym c.member.ensures ∙ w.if-not-member.false))
    ]
