use Prim.Native.Nat.{◌-◌, ◌≤◌}
use mathlib.Core.Path.{◌≡◌}
use Rattle.schedule.specs.Schedule.{rounds}
use Rattle.rule_c.specs.Reading.{levels_by}
use Rattle.rule_c.proofs.rule_c.detect_levels.Given as goal

abbrev pub invariant-loop-level : goal.invariant-loop-level
invariant-loop-level l = (1 ≤ l.level) × (levels_by l.tabled.plan l.board l.run l.round l.cells (l.level - 1) l.grown ≡ levels_by l.tabled.plan l.board l.run l.round l.cells ((rounds l.tabled.plan).0 - 1) l.initial.grown)
