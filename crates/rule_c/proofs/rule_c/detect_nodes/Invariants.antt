use mathlib.Core.Path.{◌≡◌}
use lib.ListN.{drop}
use Rattle.protocol.specs.Nodes.{inner}
use Rattle.rule_c.specs.Reading.{detect_by}
use Rattle.rule_c.proofs.rule_c.detect_nodes.Given as goal

abbrev pub invariant-loop-node : goal.invariant-loop-node
invariant-loop-node l = detect_by l.tabled.plan l.run l.round l.cells (drop l.node-index (inner l.tabled.plan l.board l.level)) l.grown ≡ detect_by l.tabled.plan l.run l.round l.cells (inner l.tabled.plan l.board l.level) l.initial.grown
