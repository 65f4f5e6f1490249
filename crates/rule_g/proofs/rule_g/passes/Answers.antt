-- `passes` meets its contract: the table is that of the children's cells.
use Rattle.std.proofs.Common.{◌≡◌, false, ap₂, ◌∙◌, rules, tests}
use Rattle.plan.specs.Values.{value}
use Rattle.sets.specs.Sets.{member}
use Rattle.tree.specs.Labels.{last}
use Rattle.protocol.specs.Listing.{as_set}
use Rattle.protocol.specs.Detection.{passes}
use Rattle.voting.specs.Worth.{child_table}
use Rattle.frames.specs.Nodes.{node_at}
use Rattle.rule_g.specs.Visits.{kid}
use Rattle.rule_g.proofs.Kids.{start_fits, kids-there, explained-kids}
use Rattle.rule_g.proofs.rule_g.passes.Goals as goal

pub first_child-requires : goal.first_child-requires
first_child-requires c = record { level-below = c.requires.level-below; start-most = start_fits c.requires }

pub child_table-requires-clause-beside : goal.child_table-requires-clause-beside
child_table-requires-clause-beside c = let there = kids-there c.requires in search rules

pub returns-else-member : goal.returns-else-member
unfolding passes kid
returns-else-member c =
    let a = c.args in
    let table =
    c.child_table.ensures (value a.tabled.now.plan) (λ x y h e. search (rules, tests))
    ∙ ap₂ (λ s k. child_table (kid a.tabled.now.plan s k a.cells.now) s a.tabled.now.plan.n) c.boards_of-boards.ensures c.first_child.ensures in
    let same = explained-kids c.requires a.list in
    let out : member (last (node_at a.tabled.now.plan a.level a.node)) (as_set a.list) ≡ false = search rules in
    rw out (search rules)
