-- `passes_at` meets its contract: the table is that of the children's cells.
use Rattle.std.proofs.Common.{rules, tests}
use Rattle.children.specs.Standing.{passes_at}
use Rattle.children.proofs.children.passes_at.Goals as goal

pub returns-else-member : goal.returns-else-member
unfolding passes_at
returns-else-member c =
    let table = c.child_table.ensures (λ x. x) (λ x y h e. search (rules, tests)) in
    search rules
