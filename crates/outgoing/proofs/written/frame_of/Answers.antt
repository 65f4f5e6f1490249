-- `frame_of` meets its contract.
use Prim.Native.Nat.{ℕ}
use mathlib.Core.Path.{ap, ◌∙◌}
use native.Mathlib.Omega.{arith}
use lib.ListN.{length, length-replicate}
use Rattle.codec.specs.Codec.{current}
use Rattle.protocol.specs.Limits.{frame_room}
use Rattle.protocol.specs.Rounds.{board_with}
use Rattle.outgoing.proofs.Sender.{from-dealer, from-sent}
use Rattle.outgoing.proofs.written.frame_of.Goals as goal

pub dealer_frame-requires : goal.dealer_frame-requires
dealer_frame-requires c =
    let e = ap length c.requires ∙ length-replicate {A = ℕ} (frame_room current) 0 in omega (arith, e)

pub returns-then-q-head : goal.returns-then-q-head
returns-then-q-head c =
    let a = c.args in
    let d = c.dealer_frame in
    record { fits = omega (arith, d.ensures.fits); front = d.ensures.front ∙ from-dealer a.head a.q (board_with a.r a.cells.now) c.if-q-head.true }

pub returns : goal.returns
returns c =
    let a = c.args in
    rw c.unwrap_or.ensures (from-sent a.head a.q (board_with a.r a.cells.now) c.send.result a.frame.now c.send.new.out c.if-q-head.false c.requires c.send.ensures)
