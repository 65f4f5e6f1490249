-- `sender_frame` meets its contract: the board's part lies within the cells.
use Prim.Native.Nat.{◌+◌, ◌*◌, ◌≤◌}
use mathlib.Core.Path.{sym, ap, ◌∙◌}
use native.Mathlib.Omega.{arith}
use lib.ListN.{length}
use borrow.Author.Rules.{rules}
use Rattle.stage.specs.Stage.{Stage, board_on}
use Rattle.stage.proofs.Room.{count-is, part-inside}
use Rattle.outgoing.specs.Outgoing.{frame_from}
use Rattle.outgoing.proofs.Sender.{board-lent, none-faulty, frame-healthy}
use Rattle.outgoing.proofs.written.sender_frame.Goals as goal
use Rattle.outgoing.proofs.written.sender_frame.Goals.{After-from-place}

-- The board's part is within the cells.
inside : (c : After-from-place) → let a = c.args in
    let size = c.cell_count-size.result in
    c.from-place.result * size + size ≤ length a.cells.now
inside c =
    rw c.from-place.ensures (part-inside c.args.head c.args.cells.now c.requires.roomy c.args.q c.cell_count-size.result c.cell_count-size.ensures c.requires.sender)

pub returns-then-member : goal.returns-then-member
returns-then-member c =
    let a = c.args in
    record { fits = omega arith; front = none-faulty a.head a.q _ (sym c.member.ensures ∙ c.if-member.true) }

pub overflow_mul-at : goal.overflow_mul-at
overflow_mul-at c = record { fits = omega (arith, inside c) }

pub overflow_add-at : goal.overflow_add-at
overflow_add-at c = record { fits = omega (arith, inside (goal.at.overflow_add-at c).After-from-place) }

pub offset_bounds-cells-at : goal.offset_bounds-cells-at
offset_bounds-cells-at c = search (rules, inside (goal.at.offset_bounds-cells-at c).After-from-place)

pub slice_bounds-frame_of-end : goal.slice_bounds-frame_of-end
slice_bounds-frame_of-end c = omega (arith, inside (goal.at.slice_bounds-frame_of-end c).After-from-place)

pub returns : goal.returns
returns c =
    let a = c.args in
    let size = c.cell_count-size in
    let is-size = count-is a.head a.cells.now c.requires.roomy a.q size.result size.ensures c.requires.sender in
    let frame = c.frame_of.ensures in
    let st : Stage = record { recs = a.records; cells = a.cells.now } in
    let healthy = sym c.member.ensures ∙ c.if-member.false in
    record {
      fits = frame.fits;
      front = (rw c.from-place.ensures at frame.front) ∙ ap (frame_from a.head a.q) (board-lent a.head a.q st size.result is-size)
          ∙ sym (frame-healthy a.head a.q (board_on a.head.plan.n st a.q) healthy);
    }
