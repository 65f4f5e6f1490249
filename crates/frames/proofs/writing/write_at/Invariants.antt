use mathlib.Core.Path.{◌≡◌}
use Rattle.frames.specs.Nodes.{labels_of}
use Rattle.frames.proofs.Strokes.{sofar}
use Rattle.frames.proofs.writing.write_at.Given as goal

abbrev pub invariant-loop-i : goal.invariant-loop-i
invariant-loop-i l = l.out ≡ sofar l.plan l.cells (labels_of l.plan l.level l.nodes) l.i l.initial.out
