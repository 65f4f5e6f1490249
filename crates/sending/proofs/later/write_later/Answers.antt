-- `write_later` meets its contract: 16, 17, and the values of the nodes that the frame carries.
use Prim.Native.Nat.{◌-◌}
use mathlib.Core.Path.{◌≡◌, refl, sym, ◌∙◌}
use mathlib.Core.Bool.{false}
use native.Mathlib.Omega.{arith}
use lib.ListN.{take, length-take}
use borrow.Author.Rules.{rules}
use Rattle.refusals.specs.Outcome.{refusal}
use Rattle.protocol.specs.Answers.{sent_says}
use Rattle.frames.proofs.Listed.{labels_length, carried-walkable, front_fits, front-nodes, front-labels}
use Rattle.sending.proofs.Writing.{later-none, later-short, later-all}
use Rattle.sending.proofs.later.write_later.Goals as goal

pub carried_nodes-count-requires : goal.carried_nodes-count-requires
carried_nodes-count-requires c =
    carried-walkable c.args.seat.now.standing c.requires.later c.args.seat.now.board c.args.seat.now.standing.board-below _ refl

pub overflow_mul-length : goal.overflow_mul-length
overflow_mul-length c =
    let x = c.carried_nodes-count in
    search (rules, front_fits c.args.seat.now.standing c.requires.later c.args.seat.now.board x.ensures c.args.seat.now.standing.board-below x.auto.nodes, x.auto.nodes)

pub returns-then-is_idle : goal.returns-then-is_idle
unfolding sent_says refusal
returns-then-is_idle c =
    let a = c.args in
    later-none c.args.seat.now.standing c.requires.later a.cells.now a.out.now c.carried_nodes-count.result c.carried_nodes-count.ensures.counted
    (sym c.is_idle.ensures ∙ c.if-is_idle.true)

pub returns-then-out-length : goal.returns-then-out-length
unfolding sent_says refusal
returns-then-out-length c =
    let a = c.args in
    let busy : c.is_idle.result ≡ false = search rules in
    later-short c.args.seat.now.standing c.requires.later a.cells.now a.out.now c.carried_nodes-count.result c.carried_nodes-count.ensures.counted
    (sym c.is_idle.ensures ∙ busy) (omega (arith, c.if-out-length.true))

pub slice_bounds-write_at-end : goal.slice_bounds-write_at-end
slice_bounds-write_at-end c =
    let x = c.carried_nodes-count in
    front_fits c.args.seat.now.standing c.requires.later c.args.seat.now.board x.ensures c.args.seat.now.standing.board-below x.auto.nodes

pub write_at-requires : goal.write_at-requires
write_at-requires c =
    let x = c.carried_nodes-count in
    record { are-nodes = front-nodes c.args.seat.now.standing c.requires.later c.args.seat.now.board x.ensures; enough = c.requires.enough; room = omega (arith, length-take x.result x.new.nodes, c.if-out-length.false) }

pub returns : goal.returns
unfolding sent_says
returns c =
    let a = c.args in
    let x = c.carried_nodes-count in
    later-all c.args.seat.now.standing c.requires.later a.cells.now a.out.now x.result x.ensures.counted
    (sym c.is_idle.ensures ∙ c.if-is_idle.false) c.if-out-length.false _ _ _
    (front-labels c.args.seat.now.standing c.requires.later a.seat.now.board x.ensures)
    (sym (labels_length a.seat.now.tabled.plan (a.seat.now.round.0 - 1) (take (x.result - 0) x.new.nodes))) c.write_at.ensures
