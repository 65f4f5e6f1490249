-- `skip` meets its contract: what is skipped of what is left is what is skipped of all.
use Rattle.std.proofs.Common.{◌≡◌, ◌+◌, ◌<◌, ◌∙◌, ap, length, drop, arith, rules}
use lib.ListN.{length-drop, length-take}
use Rattle.std.proofs.lemmas.Grind.{common_steps}
use Rattle.text.proofs.LineEnds.{stop_le}
use Rattle.finding.specs.Frames.{frames_in, skip_frames}
use Rattle.finding.proofs.FrameSearch.{skip_stop, skip-line, skip-end}
use Rattle.finding.proofs.finding.skip.Goals as goal

pub slice_bounds-key_of-end : goal.slice_bounds-key_of-end
slice_bounds-key_of-end c =
    let rest = c.loop-end.rest.now in
    omega (arith, c.line_end-end.ensures, stop_le rest 0 (omega arith), length-take c.line_end-end.result rest)

pub returns-then-least-key_of : goal.returns-then-least-key_of
returns-then-least-key_of c =
    let rest = c.loop-end.rest.now in
    let some : 0 < length rest = search rules in
    skip_stop rest c.line_end-end.result c.key_of.result c.line_end-end.ensures c.key_of.ensures c.args.least some c.if-least-key_of.true ∙ c.loop-end.invariant.0

pub overflow_add-end : goal.overflow_add-end
overflow_add-end c = record { fits = omega (arith, c.line_end-end.ensures, stop_le c.loop-end.rest.now 0 (omega arith), c.loop-end.invariant.1) }

pub loop-end-preserved : goal.loop-end-preserved
loop-end-preserved c =
    let rest = c.loop-end.rest.now in
    let e = c.line_end-end in
    let some : 0 < length rest = search rules in
    let next : c.unwrap_or-rest.result.now ≡ drop (e.result + 1) rest = grind (arith, common_steps) in (
      ap (λ x. skip_frames c.args.least (frames_in x)) next
          ∙ skip-line rest e.result c.key_of.result e.ensures c.key_of.ensures c.args.least some c.if-least-key_of.false ∙ c.loop-end.invariant.0,
      omega (arith, ap length next, length-drop (e.result + 1) rest, c.loop-end.invariant.1),
    )

pub returns : goal.returns
returns c =
    let none : length c.loop-end.rest.now ≡ 0 = search rules in
    skip-end c.loop-end.rest.now c.args.least none ∙ c.loop-end.invariant.0
