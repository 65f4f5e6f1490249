-- `detect_levels` meets its contract: the levels that are left give the same.
use Prim.Native.Nat.{◌-◌}
use mathlib.Core.Path.{sym, ap, ◌∙◌}
use native.Mathlib.Omega.{arith}
use Rattle.rule_c.specs.Reading.{levels_by}
use Rattle.rule_c.proofs.Level.{levels-step, levels-done}
use Rattle.rule_c.proofs.rule_c.detect_levels.Goals as goal

pub loop-level-init : goal.loop-level-init
loop-level-init c =
    let a = c.args in
    (omega (arith, c.requires.convertible.some-round, c.requires.top-is), ap (λ k. levels_by a.tabled.now.plan a.board a.run a.round a.cells.now (k - 1) a.list) c.requires.top-is)

pub loop-level-preserved : goal.loop-level-preserved
loop-level-preserved c =
    let l = c.loop-level in
    let a = c.args in
    (omega arith, levels-step a.tabled.now.plan a.board a.run a.round a.cells.now (l.level - 1) l.grown c.detect_level-next.result (omega arith) c.detect_level-next.ensures ∙ l.invariant.1)

pub returns : goal.returns
returns c =
    let l = c.loop-level in
    let a = c.args in
    sym (levels-done a.tabled.now.plan a.board a.run a.round a.cells.now (l.level - 1) l.grown (omega arith)) ∙ l.invariant.1
