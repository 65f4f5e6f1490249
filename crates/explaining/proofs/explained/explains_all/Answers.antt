-- `explains_all` meets its contract.
use Rattle.voting.proofs.Collect.{dissenting-below}
use Rattle.explaining.proofs.explained.explains_all.Goals as goal

pub tolerates-requires : goal.tolerates-requires
tolerates-requires c =
    dissenting-below c.args.tabled.now.plan.n c.args.boards _ c.args.list _ c.args.values c.dissenting_from.ensures
