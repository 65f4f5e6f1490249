-- `next_round` meets its contract.
use mathlib.Core.Path.{refl}
use native.Mathlib.Omega.{arith}
use Rattle.protocol.proofs.Judgement.{plan-facts, good-record}
use Rattle.walk.proofs.Whole.{rounds-most}
use Rattle.advancing.proofs.advancing.next_round.Goals as goal

pub overflow_add-result : goal.overflow_add-result
overflow_add-result c =
    let r = c.args.r in
    let g = good-record r c.requires.good in
    record { fits = omega (arith, c.requires.before_last, rounds-most r.plan g.plan-good, (plan-facts r.plan g.plan-good).admission.most-boards) }

pub returns : goal.returns
returns c = refl
