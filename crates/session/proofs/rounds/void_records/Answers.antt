-- `void_records` meets its contract.
use mathlib.Core.Path.{ap}
use lib.ListN.{replicate}
use Rattle.session.proofs.rounds.void_records.Goals as goal

pub returns : goal.returns
returns c = ap (replicate 7) c.void.ensures
