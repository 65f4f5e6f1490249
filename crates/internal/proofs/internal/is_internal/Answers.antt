-- `is_internal` meets its contract: a set is tolerated exactly if the table holds it.
use mathlib.Core.Path.{ap₂, ◌∙◌}
use mathlib.Core.Bool.{◌&&◌}
use lib.Bits.{bit_and}
use lib.Dec.{eqb}
use Rattle.tables.proofs.Tabled.{asked, held-is}
use Rattle.internal.specs.Tests.{is_open, is_internal}
use Rattle.internal.proofs.internal.is_internal.Goals as goal

pub is_open-requires : goal.is_open-requires
is_open-requires c = asked (record { tabled = c.args.tabled.now.tabled; below = c.requires })

pub returns : goal.returns
unfolding is_open is_internal
returns c =
    let a = c.args in
    c.is_open.ensures ∙ ap₂ (λ w b. eqb (bit_and a.boards w) 0 && b) c.barred_to.ensures (held-is (record { tabled = a.tabled.now.tabled; below = c.requires }))
