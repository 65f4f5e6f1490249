use Rattle.schedule.specs.declared.rounds.Run.{Run}
use Rattle.schedule.specs.declared.rounds.Round.{Round}
use Prim.Native.Nat.{◌≤◌, ◌+◌, ◌-◌, ◌*◌}
use mathlib.Core.Path.{◌∙◌, ap, ap₂}
use native.Mathlib.Nat.{mul-le-mul}
use native.Mathlib.Omega.{arith}
use Rattle.schedule.specs.Schedule.{steps}
use Rattle.schedule.proofs.Levels.{rounds-pos, runs-pos}
use Rattle.schedule.proofs.rounds.steps.Goals as goal

pub returns : goal.returns
unfolding steps
returns c =
    let t = c.from-t.ensures ∙ ap (λ (x : Run). x.0) c.runs.ensures in
    let k = c.from-k.ensures ∙ ap (λ (x : Round). x.0) c.rounds.ensures in
    ap₂ (λ t k. k + (t - 1) * (k - 1)) t k

pub overflow_sub-result : goal.overflow_sub-result
overflow_sub-result c =
    let p = c.args.plan in
    omega (arith, runs-pos p, ap (λ (x : Run). x.0) c.runs.ensures)

pub overflow_sub-result-2 : goal.overflow_sub-result-2
overflow_sub-result-2 c =
    let p = c.args.plan in
    omega (arith, rounds-pos p, ap (λ (x : Round). x.0) c.rounds.ensures)

pub overflow_mul-result : goal.overflow_mul-result
overflow_mul-result c =
    let t = c.from-t.result in
    let k = c.from-k.result in
    let lt : t ≤ 255 = omega (arith, c.from-t.ensures, c.runs.type_inv) in
    let lk : k ≤ 255 = omega (arith, c.from-k.ensures, c.rounds.type_inv) in
    record { fits = omega (arith, mul-le-mul {n₁ = t - 1} {m₁ = k - 1} {n₂ = 255} {m₂ = 255} (omega arith) (omega arith)) }

pub overflow_add-result : goal.overflow_add-result
overflow_add-result c =
    let t = c.from-t.result in
    let k = c.from-k.result in
    let lt : t ≤ 255 = omega (arith, c.from-t.ensures, c.runs.type_inv) in
    let lk : k ≤ 255 = omega (arith, c.from-k.ensures, c.rounds.type_inv) in
    record { fits = omega (arith, mul-le-mul {n₁ = t - 1} {m₁ = k - 1} {n₂ = 255} {m₂ = 255} (omega arith) (omega arith)) }
