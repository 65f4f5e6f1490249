use Rattle.tree.specs.Places.{child_index}
use Rattle.tree.proofs.nodes.child_index.Goals as goal

-- `child_index` meets its contract, the definition itself.
pub returns : goal.returns
unfolding child_index
returns c = cc
