-- `resolve_root` meets its contract.
use Rattle.resolving.proofs.Steps.{root_stands, none-roots, some-roots}
use Rattle.resolving.proofs.resolving.resolve_root.Goals as goal

pub resolve_node-v-requires : goal.resolve_node-v-requires
resolve_node-v-requires c = record { convertible = c.requires.convertible; at-node = root_stands c.requires.convertible c.requires.top-is }

pub returns-then-v : goal.returns-then-v
returns-then-v c =
    none-roots c.requires.convertible c.requires.top-is c.resolve_node-v.ensures c.if-v.true c.default.ensures

pub returns-else-v : goal.returns-else-v
returns-else-v c =
    some-roots c.requires.convertible c.requires.top-is c.resolve_node-v.ensures c.if-v.false
