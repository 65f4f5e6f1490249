-- `detect_nodes` meets its contract: the nodes that are left give the same.
use mathlib.Core.Path.{sym, ◌∙◌}
use Rattle.rule_c.proofs.Level.{from-fits, beside, passes-here, node_kept, node-joined, nodes-done}
use Rattle.rule_c.proofs.rule_c.detect_nodes.Goals as goal
use Rattle.rule_c.proofs.rule_c.detect_nodes.Goals.{else-not-passes_at, then-not-passes_at}

pub overflow_add-from : goal.overflow_add-from
overflow_add-from c =
    from-fits c.requires.convertible c.requires.listed c.loop-node.node-index c.loop-node-test.true c.level_start-start.ensures c.index_of.ensures

pub passes_at-requires : goal.passes_at-requires
passes_at-requires c =
    beside c.requires.convertible c.requires.listed c.loop-node.node-index c.loop-node-test.true c.level_start-start.ensures c.index_of.ensures

pub loop-node-preserved : goal.loop-node-preserved
loop-node-preserved c =
    let l = c.loop-node in
    let r = passes-here c.requires.convertible c.requires.listed l.node-index c.loop-node-test.true c.level_start-start.ensures c.index_of.ensures l.grown c.passes_at.ensures in
    elim c.if-not-passes_at.branch [
      | then-not-passes_at w ↦ node-joined c.requires.convertible c.requires.listed l.node-index c.loop-node-test.true c.args.run c.args.round l.grown c.if-not-passes_at.grown w.last_of.result (r ∙ w.if-not-passes_at.true) w.last_of.ensures (w.grown-is ∙ w.join-joined.ensures) ∙ l.invariant
      | else-not-passes_at w ↦ node_kept c.requires.convertible c.requires.listed l.node-index c.loop-node-test.true c.args.run c.args.round l.grown c.if-not-passes_at.grown (r ∙ w.if-not-passes_at.false) w.grown-is ∙ l.invariant
    ]

pub returns : goal.returns
returns c =
    let l = c.loop-node in
    sym (nodes-done c.requires.convertible c.requires.listed c.args.run c.args.round l.node-index l.grown c.loop-node-test.false) ∙ l.invariant
