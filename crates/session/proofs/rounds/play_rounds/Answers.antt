-- `play_rounds` meets its contract: one step more each turn, with what is left of the frames.
use mathlib.Core.Path.{◌≡◌, refl, ap, ◌∙◌}
use native.Mathlib.Omega.{arith}
use lib.ListN.{replicate}
use borrow.Author.Rules.{rules}
use Rattle.protocol.specs.Calls.{void_record}
use Rattle.finding.specs.Frames.{frames_in, rising, skip_frames}
use Rattle.finding.proofs.ByKey.{rising-skipped}
use Rattle.stage.specs.Stage.{Stage, on_stage}
use Rattle.session.specs.Steps.{begins, step_key, frames_left, play_steps}
use Rattle.session.proofs.Steps.{left-more, played-more, left_rising}
use Rattle.session.proofs.rounds.play_rounds.Goals as goal

pub loop-j-init : goal.loop-j-init
unfolding frames_left
loop-j-init c = record { played = λ t e. e; left = refl }

pub skip_to_step-rest-requires : goal.skip_to_step-rest-requires
skip_to_step-rest-requires c =
    omega (arith, c.steps-j-end.ensures)

pub play_round-next-requires : goal.play_round-next-requires
play_round-next-requires c =
    let a = c.args in
    let l = c.loop-j in
    let fs = frames_in a.frames.now in
    let rest = c.skip_to_step-rest.ensures ∙ ap (skip_frames (step_key a.head.plan l.j)) l.invariant.left in
    record {
      roomy = record { few = c.requires.roomy.few; room = omega (arith, c.requires.roomy.room, l.auto.cells, c.on_stage-all.auto.cells) };
      rising = ap (rising 0) rest ∙ rising-skipped (step_key a.head.plan l.j) (frames_left a.head.plan l.j fs) (left_rising a.head.plan l.j fs c.requires.rising);
    }

pub loop-j-preserved : goal.loop-j-preserved
loop-j-preserved c =
    let a = c.args in
    let l = c.loop-j in
    let d = c.play_round-next in
    let next = c.skip_to_step-rest in
    let fs = frames_in a.frames.now in
    let rest = next.ensures ∙ ap (skip_frames (step_key a.head.plan l.j)) l.invariant.left in
    record {
      played = λ t e. d.ensures ∙ played-more a.head fs (frames_in next.result.now) l.j (record { recs = l.all; cells = l.cells }) t rest (l.invariant.played t e);
      left = rest ∙ left-more a.head.plan l.j fs;
    }

pub returns : goal.returns
unfolding play_steps begins
returns c =
    let a = c.args in
    let l = c.loop-j in
    let fs = frames_in a.frames.now in
    let t : Stage = record { recs = replicate 7 void_record; cells = a.cells.now } in
    let begun = c.on_stage-all.ensures (begins a.head.plan) (λ i r x r' x' l e. search rules) in
    let first = begun ∙ ap (λ x. on_stage a.head (begins a.head.plan) a.head.plan.n (record { recs = x; cells = a.cells.now })) c.void_records.ensures in
    l.invariant.played t first ∙ ap (λ m. play_steps a.head fs m t) (let all : l.j ≡ c.steps-j-end.result = omega arith in all ∙ c.steps-j-end.ensures)
