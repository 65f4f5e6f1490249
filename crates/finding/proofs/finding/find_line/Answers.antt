-- `find_line` meets its contract: the lines before those that are left have smaller keys, and the first of these is the frame's or past it.
use Rattle.std.proofs.Common.{◌≡◌, ◌<◌, ◌≤◌, length, arith, rules}
use lib.ListN.{length-take}
use Rattle.text.proofs.LineEnds.{stop_le}
use Rattle.finding.specs.Places.{frame_found}
use Rattle.finding.proofs.FrameSearch.{search-end, search-hit, search-none}
use Rattle.finding.proofs.finding.find_line.Goals as goal
use Rattle.finding.proofs.finding.find_line.Goals.{Start}

pub slice_bounds-key_of-end : goal.slice_bounds-key_of-end
slice_bounds-key_of-end c =
    let rest = c.skip-rest.result.now in
    omega (arith, c.line_end-end.ensures, stop_le rest 0 (omega arith), length-take c.line_end-end.result rest)

pub returns-then-is_empty-clause-finds : goal.returns-then-is_empty-clause-finds
unfolding frame_found
returns-then-is_empty-clause-finds c =
    let a = c.args in
    let rest = c.skip-rest in
    let none : length rest.result.now ≡ 0 = search rules in
    search-end a.frames.now rest.result.now a.run a.round a.sender a.receiver c.key-wanted.result c.key-wanted.ensures rest.ensures none

pub returns-then-key_of-wanted-clause-finds : goal.returns-then-key_of-wanted-clause-finds
unfolding frame_found
returns-then-key_of-wanted-clause-finds c =
    let start = (goal.at.returns-then-key_of-wanted-clause-finds c).Start in
    let a = start.args in
    let bk : a.round.0 ≤ 255 = search rules in
    let bq : a.sender ≤ 255 = search rules in
    let bi : a.receiver ≤ 255 = search rules in
    let w = c.key-wanted in
    let rest = c.skip-rest in
    let some : 0 < length rest.result.now = search rules in
    search-hit a.frames.now rest.result.now a.run a.round a.sender a.receiver w.result w.ensures rest.ensures
    c.line_end-end.result c.key_of.result c.line_end-end.ensures c.key_of.ensures some (omega arith) (omega arith) (omega arith) c.if-key_of-wanted.true

pub returns-else-key_of-wanted-clause-finds : goal.returns-else-key_of-wanted-clause-finds
unfolding frame_found
returns-else-key_of-wanted-clause-finds c =
    let a = c.args in
    let w = c.key-wanted in
    let rest = c.skip-rest in
    let some : 0 < length rest.result.now = search rules in
    search-none a.frames.now rest.result.now a.run a.round a.sender a.receiver w.result w.ensures rest.ensures
    c.line_end-end.result c.key_of.result c.line_end-end.ensures c.key_of.ensures some c.requires c.if-key_of-wanted.false
