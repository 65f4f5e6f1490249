-- `take` meets its contract: round 1 or a later one.
use mathlib.Core.Path.{sym, ◌∙◌}
use mathlib.Core.Logic.{◌≢◌}
use native.Mathlib.Omega.{arith}
use Rattle.codec.specs.Codec.{current, decode}
use Rattle.refusals.specs.Outcome.{refusal, verdict}
use Rattle.protocol.specs.Nodes.{sent, due}
use Rattle.frames.proofs.Due.{due-none}
use Rattle.frames.proofs.Standing.{with-table}
use Rattle.first_round.proofs.Takes.{takes_none}
use Rattle.taking.proofs.Takes.{takes-word}
use Rattle.taking.proofs.rounds.take.Goals as goal

pub returns-then-plan-q : goal.returns-then-plan-q
unfolding verdict refusal
returns-then-plan-q c =
    let a = c.args in
    takes_none a.plan a.q a.list a.marks (due a.plan a.q a.board a.round) (sent a.plan a.q a.board a.round) (decode current a.frame.now) a.cells.now
    (due-none a.plan a.q a.board a.round c.if-plan-q.true)

pub returns-then-round-eq1 : goal.returns-then-round-eq1
returns-then-round-eq1 c =
    let a = c.args in
    takes-word c.requires.standing c.if-round-eq1.true a.q (omega arith) a.list a.marks (decode current a.frame.now) a.cells.now _ _ c.take_word.ensures

pub new-requires : goal.new-requires
new-requires c = c.requires.standing.most-boards

pub new-seat-requires : goal.new-seat-requires
new-seat-requires c = with-table c.new.result.tabled c.new.ensures c.requires.standing

pub take_later-requires : goal.take_later-requires
take_later-requires c =
    let ne : c.args.round.0 ≢ 1 = c.if-round-eq1.false in
    let s = c.new-seat.ensures in
    record {
      later = rw (s.round) (omega (arith, c.requires.standing.round-low));
      sender = rw (s.plan ∙ c.new.ensures) (omega arith);
      enough = rw (s.plan ∙ c.new.ensures) c.requires.enough;
    }

pub returns : goal.returns
returns c =
    let s = c.new-seat.ensures in
    rw (sym (s.plan ∙ c.new.ensures), sym s.board, sym s.round) c.take_later.ensures
