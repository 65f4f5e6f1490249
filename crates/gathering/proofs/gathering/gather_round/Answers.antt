-- `gather_round` meets its contract: round 1, or a later one, one part after the other.
use Prim.Native.Nat.{◌-◌}
use mathlib.Core.Path.{ap, ◌∙◌}
use Rattle.protocol.specs.Nodes.{inner}
use Rattle.protocol.specs.Detection.{Scan, detect_all_g}
use Rattle.protocol.specs.Rounds.{copy_own}
use Rattle.gathering.specs.Gathered.{gathered}
use Rattle.gathering.proofs.FirstRound.{gathers-word}
use Rattle.gathering.proofs.gathering.gather_round.Goals as goal

pub returns-then-seat-eq1 : goal.returns-then-seat-eq1
returns-then-seat-eq1 c =
    let a = c.args in
    gathers-word c.args.seat.now.standing c.if-seat-eq1.true a.marks a.cells.now a.seat.now.run a.list _ c.gather_word.ensures

pub returns : goal.returns
unfolding gathered
returns c =
    let a = c.args in
    let e = c.copy_own.ensures ∙ ap (copy_own a.seat.now.tabled.plan a.seat.now.board a.seat.now.round) c.fill_missing.ensures in
    let d = c.detect_cells.ensures ∙ ap (λ x. detect_all_g a.seat.now.tabled.plan a.seat.now.board a.seat.now.run a.seat.now.round (inner a.seat.now.tabled.plan a.seat.now.board (a.seat.now.round.0 - 1)) (record { list = a.list; cells = x })) e in
    record { list-is = ap (λ (s : Scan). s.list) d; cells_are = ap (λ (s : Scan). s.cells) d }
