-- `take_later` meets its contract: 14, 15, and the frame at the nodes that it carries.
use mathlib.Core.Path.{refl, sym, ◌∙◌}
use Rattle.codec.specs.Codec.{current, decode}
use Rattle.refusals.specs.Outcome.{refusal, verdict}
use Rattle.protocol.specs.Nodes.{sent, due}
use Rattle.frames.proofs.Due.{due-own}
use Rattle.frames.proofs.Listed.{carried-walkable, front_fits, front-nodes, front-without, front-labels}
use Rattle.first_round.proofs.Takes.{takes_none}
use Rattle.taking.proofs.Takes.{later-none, later-again, later-new}
use Rattle.taking.proofs.later.take_later.Goals as goal

pub returns-then-q-seat : goal.returns-then-q-seat
unfolding verdict refusal
returns-then-q-seat c =
    let a = c.args in
    takes_none a.seat.now.tabled.plan a.q a.list a.marks (due a.seat.now.tabled.plan a.q a.seat.now.board a.seat.now.round) (sent a.seat.now.tabled.plan a.q a.seat.now.board a.seat.now.round) (decode current a.frame.now) a.cells.now
    (due-own c.args.seat.now.standing a.q c.requires.sender c.if-q-seat.true)

pub carried_nodes-count-requires : goal.carried_nodes-count-requires
carried_nodes-count-requires c =
    carried-walkable c.args.seat.now.standing c.requires.later c.args.q c.requires.sender _ refl

pub returns-then-count-eq0 : goal.returns-then-count-eq0
unfolding verdict refusal
returns-then-count-eq0 c =
    let a = c.args in
    later-none c.args.seat.now.standing c.requires.later a.q c.requires.sender c.if-q-seat.false a.list a.marks (decode current a.frame.now) a.cells.now c.carried_nodes-count.result c.carried_nodes-count.ensures.counted c.if-count-eq0.true

pub returns-then-member : goal.returns-then-member
unfolding verdict refusal
returns-then-member c =
    let a = c.args in
    later-again c.args.seat.now.standing c.requires.later a.q c.requires.sender c.if-q-seat.false a.list a.marks (decode current a.frame.now) a.cells.now c.carried_nodes-count.result c.carried_nodes-count.ensures.counted c.if-count-eq0.false (sym c.member.ensures ∙ c.if-member.true)

pub slice_bounds-store_frame-end : goal.slice_bounds-store_frame-end
slice_bounds-store_frame-end c =
    let x = c.carried_nodes-count in
    front_fits c.args.seat.now.standing c.requires.later c.args.q x.ensures c.requires.sender x.auto.nodes

pub store_frame-requires : goal.store_frame-requires
store_frame-requires c =
    let l = c.carried_nodes-count.ensures in
    record {
      are-nodes = front-nodes c.args.seat.now.standing c.requires.later c.args.q l;
      without = front-without c.args.seat.now.standing c.requires.later c.args.q l;
      sender = c.requires.sender;
      enough = c.requires.enough;
    }

pub returns : goal.returns
unfolding verdict
returns c =
    let a = c.args in
    let l = c.carried_nodes-count.ensures in
    later-new c.args.seat.now.standing c.requires.later a.q c.requires.sender c.if-q-seat.false a.list a.marks (decode current a.frame.now) a.cells.now c.carried_nodes-count.result l.counted
    c.if-count-eq0.false (sym c.member.ensures ∙ c.if-member.false) _ _ (front-labels c.args.seat.now.standing c.requires.later a.q l) c.store_frame.ensures
