-- `print` meets its contract: board, decision, list, place and a newline, stored one after the other.
use Prim.Native.Nat.{◌+◌}
use mathlib.Core.Path.{ap, ◌∙◌}
use mathlib.Core.List.{[]}
use lib.ListN.{set, length-set}
use lib.Seq.{sets}
use Rattle.codec.specs.Codec.{current}
use Rattle.hexadecimal.specs.Hex.{hex_byte}
use Rattle.sheet.specs.Playing.{hex_value}
use Rattle.printer.proofs.Stores.{list_at, place_at, newline_at, line-stores}
use Rattle.printer.proofs.printing.Line.print.Goals as goal

pub shape_of-out : goal.shape_of-out
shape_of-out c =
    let fourth = c.print_byte-3 in
    let third = c.print_byte-2 in
    let second = c.print_value in
    let first = c.print_byte in
    length-set fourth.new.out (c.args.at + newline_at current) _ ∙ fourth.auto.out ∙ third.auto.out ∙ second.auto.out ∙ first.auto.out

pub returns : goal.returns
returns c =
    let a = c.args in
    let fourth = c.print_byte-3.ensures in
    let third = c.print_byte-2.ensures in
    let second = c.print_value.ensures in
    let first = c.print_byte.ensures in
    let listed = third ∙ ap (λ o. sets o (a.at + list_at current) (hex_byte a.self.list [])) (second ∙ ap (λ o. sets o (a.at + 2) (hex_value current a.self.decision [])) first) in
    ap (λ o. set o (a.at + newline_at current) 10) (fourth ∙ ap (λ o. sets o (a.at + place_at current) (hex_byte a.self.place [])) listed)
    ∙ line-stores current a.out.now a.at a.self.board a.self.decision a.self.list a.self.place
