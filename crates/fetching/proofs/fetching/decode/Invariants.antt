use mathlib.Core.Path.{◌≡◌}
use Rattle.fetching.proofs.FetchedFrame.{decoded}
use Rattle.fetching.proofs.fetching.decode.Given as goal

abbrev pub invariant-loop-i : goal.invariant-loop-i
invariant-loop-i l = l.bytes ≡ decoded l.digits l.initial.bytes l.i
