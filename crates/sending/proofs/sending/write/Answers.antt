-- `write` meets its contract: in round 1 there is nothing to send; later the frame is written from the board's seat.
use Rattle.std.proofs.Common.{◌≢◌, sym, ◌∙◌, subst, arith}
use Rattle.refusals.specs.Outcome.{refusal}
use Rattle.protocol.specs.Answers.{sent_says}
use Rattle.frames.proofs.Standing.{with-table}
use Rattle.sending.specs.Writing.{Writes}
use Rattle.sending.proofs.Writing.{idle-first, writes-none}
use Rattle.sending.proofs.sending.write.Goals as goal

pub returns-then-r-eq1 : goal.returns-then-r-eq1
unfolding sent_says refusal
returns-then-r-eq1 c =
    writes-none c.requires.standing c.args.cells.now c.args.out.now (idle-first c.requires.standing c.if-r-eq1.true)

pub new-requires : goal.new-requires
new-requires c = c.requires.standing.most-boards

pub new-seat-requires : goal.new-seat-requires
new-seat-requires c = with-table c.new.result.tabled c.new.ensures c.requires.standing

pub write_later-requires : goal.write_later-requires
write_later-requires c =
    let ne : c.args.r.round.0 ≢ 1 = c.if-r-eq1.false in
    let s = c.new-seat.ensures in
    record {
      later = rw (s.round) (omega (arith, c.requires.standing.round-low));
      enough = rw (s.plan ∙ c.new.ensures) c.requires.enough;
    }

pub returns : goal.returns
returns c =
    let s = c.new-seat.ensures in
    rw (sym (s.plan ∙ c.new.ensures), sym s.board, sym s.round) c.write_later.ensures
