-- `hear_faulty` meets its contract: the frame is heard as it stands in the sheet.
use Prim.Native.Nat.{◌≤◌}
use mathlib.Core.Path.{refl, ap, ◌∙◌}
use native.Mathlib.Omega.{arith}
use lib.ListN.{length, replicate, length-take}
use Rattle.codec.specs.Codec.{current}
use Rattle.protocol.specs.Limits.{frame_room}
use Rattle.protocol.specs.Rounds.{board_with}
use Rattle.protocol.specs.Calls.{Result}
use Rattle.sheet.specs.Playing.{find_frame}
use Rattle.finding.specs.Frames.{frames_in}
use Rattle.hearing.proofs.FromSheet.{read-missing, read_fits, read-heard}
use Rattle.hearing.proofs.hearing.hear_faulty.Goals as goal
use Rattle.hearing.proofs.hearing.hear_faulty.Goals.{In-Some}

-- No more was read than there is room for.
fits : (c : In-Some) → c.in-Some.k ≤ length c.read_frame.new.bytes
fits c =
    let a = c.args in
    let v = find_frame a.r.now.run a.r.now.round a.q a.r.now.board (frames_in a.frames.now) in
    let d = c.read_frame in
    omega (arith, read_fits v (replicate (frame_room current) 0) refl d.result _ d.ensures c.in-Some.k c.in-Some.is, d.auto.bytes)

pub slice_bounds-frame-end : goal.slice_bounds-frame-end
slice_bounds-frame-end c = fits ((goal.at.slice_bounds-frame-end c).In-Some)

pub slice_bounds-receive-end : goal.slice_bounds-receive-end
slice_bounds-receive-end c = omega (arith, fits ((goal.at.slice_bounds-receive-end c).In-Some), length-take c.in-Some.k c.read_frame.new.bytes)

pub returns-in_default : goal.returns-in_default
returns-in_default c =
    let a = c.args in
    let v = find_frame a.r.now.run a.r.now.round a.q a.r.now.board (frames_in a.frames.now) in
    let d = c.read_frame in
    read-missing v (replicate (frame_room current) 0) refl d.result _ d.ensures a.q (board_with a.r.now a.cells.now) c.in_default.is

pub returns-in-Some : goal.returns-in-Some
returns-in-Some c =
    let a = c.args in
    let v = find_frame a.r.now.run a.r.now.round a.q a.r.now.board (frames_in a.frames.now) in
    let d = c.read_frame in
    ap (λ (x : Result). x.board) c.receive.ensures
    ∙ read-heard v (replicate (frame_room current) 0) refl d.result _ d.ensures c.in-Some.k a.q a.r.now a.cells.now c.in-Some.is
