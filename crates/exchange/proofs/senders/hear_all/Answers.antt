-- `hear_all` meets its contract: one sender more each turn.
use mathlib.Core.Path.{refl, ◌∙◌}
use native.Mathlib.Omega.{arith}
use Rattle.finding.specs.Frames.{frames_in}
use Rattle.exchange.specs.Exchange.{hear_senders}
use Rattle.exchange.proofs.Heard.{heard-more}
use Rattle.exchange.proofs.senders.hear_all.Goals as goal

pub loop-q-init : goal.loop-q-init
unfolding hear_senders
loop-q-init c = refl

pub hear_sender-next-requires : goal.hear_sender-next-requires
hear_sender-next-requires c =
    record {
      ready = record { roomy = record { few = c.requires.roomy.few; room = omega (arith, c.requires.roomy.room, c.loop-q.auto.cells) }; rising = c.requires.rising };
      sender = omega arith;
    }

pub loop-q-preserved : goal.loop-q-preserved
loop-q-preserved c =
    let a = c.args in
    let l = c.loop-q in
    let d = c.hear_sender-next in
    d.ensures ∙ heard-more a.head (frames_in a.frames.now) l.q (record { recs = l.all; cells = l.cells }) (record { recs = a.records; cells = a.cells.now }) l.invariant
