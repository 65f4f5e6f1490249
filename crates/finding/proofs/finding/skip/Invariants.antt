use Prim.Native.Nat.{◌≤◌}
use mathlib.Core.Path.{◌≡◌}
use lib.ListN.{length}
use Rattle.finding.specs.Frames.{frames_in, skip_frames}
use Rattle.finding.proofs.finding.skip.Given as goal

abbrev pub invariant-loop-end : goal.invariant-loop-end
invariant-loop-end l = (skip_frames l.least (frames_in l.rest) ≡ skip_frames l.least (frames_in l.frames)) × (length l.rest ≤ length l.frames)

abbrev pub decreases-loop-end : goal.decreases-loop-end
decreases-loop-end l = length l.rest
