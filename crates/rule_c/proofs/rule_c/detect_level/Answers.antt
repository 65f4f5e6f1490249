-- `detect_level` meets its contract: the walk lists the level's internal nodes.
use mathlib.Core.Path.{refl, sym}
use Rattle.std.proofs.lemmas.List.{length-take-le}
use Rattle.rule_c.proofs.Level.{level-walkable, front_fits, front-listed}
use Rattle.rule_c.proofs.rule_c.detect_level.Goals as goal

pub inner_nodes-count-requires : goal.inner_nodes-count-requires
inner_nodes-count-requires c = level-walkable c.requires.convertible c.requires.low c.requires.high refl

pub slice_bounds-detect_nodes-end : goal.slice_bounds-detect_nodes-end
slice_bounds-detect_nodes-end c =
    sym (length-take-le _ _ (front_fits c.requires.convertible c.requires.low c.requires.high c.inner_nodes-count.ensures refl))

pub detect_nodes-requires : goal.detect_nodes-requires
detect_nodes-requires c =
    record { convertible = c.requires.convertible; listed = front-listed c.requires.convertible c.requires.low c.requires.high c.inner_nodes-count.ensures }
