use mathlib.Core.Path.{◌≡◌}
use lib.ListN.{drop}
use Rattle.codec.specs.Codec.{current, decode}
use Rattle.protocol.specs.Rounds.{fill}
use Rattle.frames.specs.Nodes.{labels_of}
use Rattle.storing.proofs.storing.store_at.Given as goal

abbrev pub invariant-loop-i : goal.invariant-loop-i
invariant-loop-i l = let αs = labels_of l.plan l.level l.nodes in
    fill l.plan l.q (drop l.i αs) (drop l.i (decode current l.frame)) l.cells ≡ fill l.plan l.q αs (decode current l.frame) l.initial.cells
