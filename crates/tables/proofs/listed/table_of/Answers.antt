use mathlib.Core.Path.{◌≡◌, ap, ◌∙◌}
use native.Mathlib.Omega.{arith}
use lib.ListN.{length, take}
use borrow.Author.Rules.{rules}
use Rattle.holders.specs.Holders.{holder_table}
use Rattle.tables.proofs.Slots.{slots-listed}
use Rattle.tables.proofs.listed.table_of.Goals as goal

pub slice_bounds-holders_of-end : goal.slice_bounds-holders_of-end
slice_bounds-holders_of-end c =
    let h : length c.args.plan.sets ≡ 32 = search rules in
    omega arith

pub returns : goal.returns
returns c =
    let p = c.args.plan in
    let h : length p.sets ≡ 32 = search rules in
    c.holders_of.ensures ∙ ap holder_table (ap (λ m. take m p.sets) c.slots_used.ensures ∙ slots-listed p h)
