-- `holder_in` meets its contract: the byte that stands in the table.
use mathlib.Core.Path.{ap, ◌∙◌}
use borrow.Author.Rules.{rules}
use Rattle.tolerance.specs.Places.{found_at}
use Rattle.tolerance.specs.Bytes.{byte_place}
use Rattle.holders.specs.Holders.{holder_in}
use Rattle.std.proofs.lemmas.List.{get_or_default}
use Rattle.holders.proofs.table.holder_in.Goals as goal

pub returns : goal.returns
unfolding holder_in
returns c =
    let a = c.args in
    c.byte_place.ensures ∙ ap (λ x. found_at (byte_place x)) (get_or_default a.holders.now a.a 0 255 (search rules))
