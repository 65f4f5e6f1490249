use Prim.Native.Nat.{◌-◌}
use mathlib.Core.Path.{◌≡◌}
use lib.ListN.{drop}
use Rattle.protocol.specs.Detection.{detect_all_g}
use Rattle.frames.specs.Nodes.{labels_of}
use Rattle.detection.proofs.detecting.detect_list.Given as goal

abbrev pub invariant-loop-node : goal.invariant-loop-node
invariant-loop-node l = let αs = labels_of l.seat.tabled.plan (l.seat.round.0 - 1) l.nodes in
    detect_all_g l.seat.tabled.plan l.seat.board l.seat.run l.seat.round (drop l.node-index αs) (record { list = l.grown; cells = l.cells }) ≡ detect_all_g l.seat.tabled.plan l.seat.board l.seat.run l.seat.round αs (record { list = l.initial.grown; cells = l.initial.cells })
