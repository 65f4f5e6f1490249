-- A plan's own table is that of its listed sets, which are at most 32.
use Rattle.std.proofs.Common.{◌≡◌, length, rules, arith}
use Rattle.tables.proofs.Slots.{listed-few}
use Rattle.tables.proofs.asking.TabledPlan.new.Goals as goal

pub invariant_of-result : goal.invariant_of-result
invariant_of-result c =
    let p = c.args.plan in
    let h : length p.sets ≡ 32 = search rules in
    record { tabled = record { most-boards = c.requires; few-sets = omega (arith, listed-few p h); table = c.table_of-holders.ensures } }
