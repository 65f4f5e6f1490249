use Rattle.resolving.proofs.Steps.{Filling}
use Rattle.resolving.proofs.resolving.+resolve_node.Given as goal

abbrev pub decreases-resolve_node : goal.decreases-resolve_node
decreases-resolve_node l = l.left

abbrev pub invariant-loop-c : goal.invariant-loop-c
invariant-loop-c l = Filling l.tabled.plan l.board l.level l.index l.boards l.left l.c l.child l.values l.initial.cells l.cells
