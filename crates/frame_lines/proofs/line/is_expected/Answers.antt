-- `is_expected` meets its contract.
use mathlib.Core.Path.{refl, sym, ◌∙◌}
use Rattle.protocol.proofs.Judgement.{plan-facts}
use Rattle.frames.proofs.Standing.{with-table}
use Rattle.frame_lines.proofs.FrameLines.{no-round, no-board, no_cells, is-expected-due, receiver-stands}
use Rattle.frame_lines.proofs.line.is_expected.Goals as goal
use Rattle.frame_lines.proofs.line.is_expected.Goals.{then-not-has_round-via-then-not-has_round, then-not-has_round-via-else-not-has_round+then-plan-receiver, then-not-has_round-via-else-not-has_round+else-plan-receiver+then-receiver-plan}

pub returns-then-not-has_round : goal.returns-then-not-has_round
returns-then-not-has_round c =
    let a = c.args in
    elim c.then-not-has_round.branch [
      | then-not-has_round-via-then-not-has_round w ↦ no-round a.plan a.run a.round a.sender a.receiver (sym c.has_round.ensures ∙ w.if-not-has_round.true)
      | then-not-has_round-via-else-not-has_round+then-plan-receiver w ↦ no-board a.plan a.run a.round a.sender a.receiver w.if-plan-receiver.true
      | then-not-has_round-via-else-not-has_round+else-plan-receiver+then-receiver-plan w ↦ no_cells a.plan a.run a.round a.sender a.receiver w.if-receiver-plan.true
    ]

pub new-requires : goal.new-requires
new-requires c = (plan-facts c.args.plan c.requires).admission.most-boards

pub new-seat-requires : goal.new-seat-requires
new-seat-requires c =
    with-table c.new.result.tabled c.new.ensures
    (receiver-stands c.args.plan c.args.run c.args.round c.args.sender c.args.receiver c.requires (sym c.has_round.ensures ∙ c.if-not-has_round.false)
    c.if-plan-receiver.false c.if-receiver-plan.false _ refl)

pub returns : goal.returns
returns c =
    let a = c.args in
    let s = c.new-seat.ensures in
    c.is_due.ensures
    ∙ rw (s.plan ∙ c.new.ensures, s.board, s.round) refl
    ∙ is-expected-due a.plan a.run a.round a.sender a.receiver (sym c.has_round.ensures ∙ c.if-not-has_round.false)
