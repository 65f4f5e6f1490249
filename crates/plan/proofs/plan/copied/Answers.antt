use Rattle.std.proofs.Common.{ap, ◌++◌, length}
use Rattle.std.proofs.lemmas.List.{drop-replicate}
use Rattle.plan.proofs.plan.copied.Goals as goal

pub returns : goal.returns
returns c =
    let sets = c.args.sets.now in
    rw c.copy_from_slice.ensures.after (ap (λ t. sets ++ t) (drop-replicate (length sets) 32 0))
