-- `read_frame` meets its contract.
use Rattle.std.proofs.Common.{arith}
use lib.ListN.{length-take}
use Rattle.sheet.specs.Playing.{find_frame}
use Rattle.text.proofs.LineEnds.{stop_le}
use Rattle.finding.specs.Frames.{frames_in}
use Rattle.finding.specs.Places.{frame_found}
use Rattle.fetching.specs.Fetched.{found_says}
use Rattle.fetching.proofs.FetchedFrame.{read-missing, read_found}
use Rattle.fetching.proofs.fetching.read_frame.Goals as goal

pub returns-in_err-rest : goal.returns-in_err-rest
unfolding found_says frame_found
returns-in_err-rest c =
    let a = c.args in
    rw (c.from_residual.ensures) (read-missing (find_frame a.run a.round a.sender a.receiver (frames_in a.frames.now)) a.bytes.now c.in_err-rest.ensures.finds)

pub slice_bounds-values_of-end : goal.slice_bounds-values_of-end
slice_bounds-values_of-end c =
    let rest = c.in_ok-rest.rest.now in
    omega (arith, c.line_end-end.ensures, stop_le rest 0 (omega arith), length-take c.line_end-end.result rest)

pub returns : goal.returns
unfolding found_says frame_found
returns c =
    let a = c.args in
    let rest = c.in_ok-rest in
    read_found (find_frame a.run a.round a.sender a.receiver (frames_in a.frames.now)) rest.rest.now a.bytes.now rest.ensures.finds rest.ensures.within
    c.line_end-end.result _ _ c.line_end-end.ensures c.values_of.ensures c.decode.ensures
