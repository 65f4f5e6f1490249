-- `tolerates` meets its contract.
use Rattle.std.proofs.Common.{◌∙◌}
use Rattle.tables.proofs.Tabled.{asked, held-is}
use Rattle.tables.proofs.asking.TabledPlan.tolerates.Goals as goal

pub holds-requires : goal.holds-requires
holds-requires c = asked (record { tabled = c.args.self.now.tabled; below = c.requires })

pub returns : goal.returns
returns c = c.holds.ensures ∙ held-is (record { tabled = c.args.self.now.tabled; below = c.requires })
