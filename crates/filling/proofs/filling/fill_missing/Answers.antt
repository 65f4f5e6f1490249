-- `fill_missing` meets its contract: the loop has stored what is missing of the boards below q.
use mathlib.Core.Path.{refl, sym, ap, ◌∙◌}
use mathlib.Core.List.{[]}
use native.Mathlib.Omega.{arith}
use Rattle.protocol.specs.Nodes.{sent}
use Rattle.protocol.specs.Rounds.{fill, fill_missing}
use Rattle.filling.proofs.Filled.{missing-own, missing-marked, missing-stored}
use Rattle.filling.proofs.filling.fill_missing.Goals as goal
use Rattle.filling.proofs.filling.fill_missing.Goals.{else-q-seat, else-q-seat-via-else-q-seat, else-q-seat-via-then-q-seat+else-not-member, then-q-seat+then-not-member}

pub loop-q-init : goal.loop-q-init
unfolding fill_missing
loop-q-init c = refl

pub loop-q-preserved : goal.loop-q-preserved
loop-q-preserved c =
    let l = c.loop-q in
    let a = c.args in
    let more = missing-stored c.args.seat.now.standing a.marks l.q (omega arith) a.cells.now in
    elim c.if-q-seat.branch [
      | then-q-seat+then-not-member w ↦ w.cells-is ∙ w.silence.ensures ∙ ap (fill a.seat.now.tabled.plan l.q (sent a.seat.now.tabled.plan l.q a.seat.now.board a.seat.now.round) []) l.invariant
          ∙ sym (more w.if-q-seat.true (sym w.member.ensures ∙ w.if-not-member.true))
      | else-q-seat w ↦ w.cells-is ∙ l.invariant
          ∙ sym (elim w.else-q-seat.branch [
            | else-q-seat-via-then-q-seat+else-not-member x ↦ missing-marked c.args.seat.now.standing a.marks l.q (omega arith) a.cells.now (sym x.member.ensures ∙ x.if-not-member.false)
            | else-q-seat-via-else-q-seat x ↦ missing-own c.args.seat.now.standing a.marks l.q (omega arith) a.cells.now x.if-q-seat.false
          ])
    ]
