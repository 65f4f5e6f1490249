-- `close_round` meets its contract: the next round, or conversion.
use mathlib.Core.Path.{refl, sym, ap, ap₂, ◌∙◌}
use native.Mathlib.Omega.{arith}
use Rattle.schedule.specs.declared.rounds.Round.{Round}
use Rattle.protocol.specs.Records.{advanced}
use Rattle.protocol.specs.Rounds.{board_with, Board, gather, next_round, convert}
use Rattle.protocol.proofs.Judgement.{good-record, plan-facts}
use Rattle.frames.proofs.Standing.{good-stands, with-table}
use Rattle.gathering.specs.Gathered.{gathered, Gathers}
use Rattle.closing.proofs.Answers.{close-next, close-last}
use Rattle.closing.proofs.closing.close_round.Goals as goal
use Rattle.closing.proofs.closing.close_round.Goals.{After-gather_round-found}

pub new-requires : goal.new-requires
new-requires c = (plan-facts c.args.r.plan (good-record c.args.r c.requires.good).plan-good).admission.most-boards

pub new-seat-requires : goal.new-seat-requires
new-seat-requires c =
    let r = c.args.r in
    with-table c.new.result.tabled c.new.ensures (good-stands r (good-record r c.requires.good) _ refl)

pub gather_round-found-requires : goal.gather_round-found-requires
gather_round-found-requires c = rw (c.new-seat.ensures.plan ∙ c.new.ensures) c.requires.enough

-- What the seat gathers is what the record's board does.
gathers : (c : After-gather_round-found) → Gathers c.args.r.plan c.args.r.board c.args.r.run c.args.r.round c.args.r.marks c.args.r.list c.gather_round-found.result c.args.cells.now c.gather_round-found.new.cells
gathers c =
    let s = c.new-seat.ensures in
    rw (sym (s.plan ∙ c.new.ensures), sym s.board, sym s.run, sym s.round) c.gather_round-found.ensures

pub next_round-requires : goal.next_round-requires
next_round-requires c =
    record { good = c.requires.good; before_last = omega (arith, ap (λ (k : Round). k.0) c.rounds.ensures, c.if-r-rounds.true) }

pub returns-then-r-rounds : goal.returns-then-r-rounds
unfolding gather gathered next_round
returns-then-r-rounds c =
    let a = c.args in
    let o : Board = board_with a.r a.cells.now in
    let e = close-next o (omega (arith, ap (λ (k : Round). k.0) c.rounds.ensures, c.if-r-rounds.true)) in
    let g = gathers (goal.at.returns-then-r-rounds c).After-gather_round-found in
    ap₂ board_with (c.next_round.ensures ∙ ap (advanced a.r) g.list-is) g.cells_are ∙ sym e

pub returns : goal.returns
unfolding gather gathered convert
returns c =
    let a = c.args in
    let o : Board = board_with a.r a.cells.now in
    let e = close-last o (omega (arith, ap (λ (k : Round). k.0) c.rounds.ensures, c.if-r-rounds.false)) in
    let g = gathers (goal.at.returns c).After-gather_round-found in
    c.convert_round.ensures ∙ ap₂ (λ d x. convert o (record { list = d; cells = x })) g.list-is g.cells_are ∙ sym e
