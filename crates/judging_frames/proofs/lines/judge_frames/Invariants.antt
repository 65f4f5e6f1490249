use Prim.Native.Nat.{◌-◌, ◌≤◌}
use mathlib.Core.Path.{◌≡◌}
use lib.ListN.{length, drop}
use Rattle.sheet.specs.Sheet.{lines}
use Rattle.judging_frames.specs.Lines.{judge_lines}
use Rattle.judging_frames.proofs.lines.judge_frames.Given as goal

abbrev pub invariant-loop-at : goal.invariant-loop-at
invariant-loop-at l = (judge_lines l.plan l.faulty l.least l.line (lines (drop l.at l.text)) ≡ judge_lines l.plan l.faulty 0 2 (lines (drop l.from l.text))) × (2 ≤ l.line) × (l.line ≤ l.at)

abbrev pub decreases-loop-at : goal.decreases-loop-at
decreases-loop-at l = length l.text - l.at
