use Rattle.std.proofs.Common.{◌-◌, ◌∙◌, sym, ap, arith}
use Rattle.std.specs.Int.{div_ceil}
use Rattle.schedule.proofs.Levels.{ceil-is, ceil-le, ceil-none}
use Rattle.schedule.proofs.rounds.later_runs.Goals as goal

-- `later_runs` meets its contract.
pub returns-then-depth-le3 : goal.returns-then-depth-le3
returns-then-depth-le3 c = let a = c.args in record { value = sym (ceil-none (a.n - 3) (a.depth - 3) (omega arith)); bound = omega arith }

pub returns : goal.returns
returns c =
    let a = c.args in
    let e = c.div_ceil.ensures ∙ ap (λ x. div_ceil x (a.depth - 3)) c.saturating_sub.ensures ∙ ceil-is (a.n - 3) (a.depth - 3) (omega arith) in
    record { value = e; bound = omega (arith, e, ceil-le (a.n - 3) (a.depth - 3) (omega arith)) }
