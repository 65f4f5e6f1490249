-- `print_value` meets its contract.
use Prim.Native.Nat.{◌+◌}
use mathlib.Core.Path.{◌∙◌, ap, ap₂}
use mathlib.Core.List.{[]}
use lib.ListN.{get_or}
use lib.Seq.{sets}
use borrow.Author.Rules.{rules}
use Rattle.codec.proofs.Codec.{to_be_bytes-pair}
use Rattle.hexadecimal.specs.Hex.{hex_byte}
use Rattle.printer.proofs.Stores.{value-stores}
use Rattle.printer.proofs.printing.print_value.Goals as goal

pub returns : goal.returns
returns c =
    let a = c.args in
    let pair = c.to_be_bytes.ensures ∙ to_be_bytes-pair a.v (search rules) in
    let first = c.print_byte.ensures ∙ ap (λ bytes. sets a.out.now a.at (hex_byte (get_or bytes 0 0) [])) pair in
    c.print_byte-2.ensures
    ∙ ap₂ (λ o bytes. sets o (a.at + 2) (hex_byte (get_or bytes 1 0) [])) first pair
    ∙ value-stores a.out.now a.at a.v
