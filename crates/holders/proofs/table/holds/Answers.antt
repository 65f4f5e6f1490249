-- `holds` meets its contract: the test gives a place or none.
use Rattle.std.proofs.Common.{◌∙◌}
use Rattle.tolerance.proofs.Places.{is-found}
use Rattle.holders.specs.Holders.{holds}
use Rattle.holders.proofs.table.holds.Goals as goal

pub returns : goal.returns
unfolding holds
returns c = c.is_some.ensures ∙ is-found _ _ c.holder_in.ensures
