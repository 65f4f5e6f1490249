-- `elects` meets its contract.
use Rattle.voting.proofs.Collect.{agreeing-below}
use Rattle.voting.proofs.voting.elects.Goals as goal

pub tolerates-requires : goal.tolerates-requires
tolerates-requires c =
    agreeing-below c.args.tabled.now.plan.n c.args.boards _ _ c.args.values c.agreeing_on.ensures
