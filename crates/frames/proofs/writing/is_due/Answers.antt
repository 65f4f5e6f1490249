-- `is_due` meets its contract: the tests are the definition's, and the frame has a value exactly if it carries a node.
use mathlib.Core.Path.{refl, sym, ap, ◌∙◌}
use mathlib.Core.Logic.{◌≢◌, inl, inr}
use native.Mathlib.Omega.{arith}
use lib.Dec.{ltb}
use lib.ListN.{length}
use Rattle.frames.proofs.Listed.{carried-walkable, sent-carried}
use Rattle.frames.proofs.Due.{due-none, due-own, due-is, due-first}
use Rattle.frames.proofs.writing.is_due.Goals as goal

pub returns-then-plan-q : goal.returns-then-plan-q
returns-then-plan-q c =
    let a = c.args in
    elim c.then-plan-q.either [
      | inl h ↦ sym (due-none a.seat.now.tabled.plan a.q a.seat.now.board a.seat.now.round h)
      | inr h ↦ sym (due-own c.args.seat.now.standing a.q h.0 h.1)
    ]

pub returns-then-seat-eq1 : goal.returns-then-seat-eq1
returns-then-seat-eq1 c =
    let apart : c.args.q ≢ c.args.seat.now.board = omega arith in
    sym (due-first c.args.seat.now.standing c.args.q (omega arith) apart c.if-seat-eq1.true)

pub carried_nodes-requires : goal.carried_nodes-requires
carried_nodes-requires c =
    let one : c.args.seat.now.round.0 ≢ 1 = c.if-seat-eq1.false in
    carried-walkable c.args.seat.now.standing (omega (arith, c.args.seat.now.standing.round-low)) c.args.q (omega arith) _ refl

pub returns : goal.returns
returns c =
    let one : c.args.seat.now.round.0 ≢ 1 = c.if-seat-eq1.false in
    let apart : c.args.q ≢ c.args.seat.now.board = omega arith in
    ap (ltb 0) (c.carried_nodes.ensures.counted ∙ sym (ap length (sent-carried c.args.seat.now.standing (omega (arith, c.args.seat.now.standing.round-low)) c.args.q)))
    ∙ sym (due-is c.args.seat.now.standing c.args.q (omega arith) apart)
