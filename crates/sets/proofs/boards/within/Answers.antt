use mathlib.Core.Path.{refl}
use Rattle.sets.specs.Sets.{within}
use Rattle.sets.proofs.boards.within.Goals as goal

pub returns : goal.returns
unfolding within
returns c = refl
