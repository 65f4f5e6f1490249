-- `print_refusal` meets its contract: four bytes and a newline, stored one after the other.
use mathlib.Core.Path.{ap, ap₂, ◌∙◌}
use mathlib.Core.List.{[]}
use lib.ListN.{get_or, set, length-set}
use lib.Seq.{sets}
use borrow.Author.Rules.{rules}
use Rattle.codec.proofs.Codec.{to_be_bytes-pair}
use Rattle.refusals.specs.Outcome.{refusal}
use Rattle.hexadecimal.specs.Hex.{hex_byte}
use Rattle.reports.proofs.Refusals.{refusal-stores}
use Rattle.reports.proofs.reporting.print_refusal.Goals as goal

pub shape_of-out : goal.shape_of-out
shape_of-out c =
    let fourth = c.print_byte-4 in
    let third = c.print_byte-3 in
    let second = c.print_byte-2 in
    let first = c.print_byte in
    length-set fourth.new.out 8 _ ∙ fourth.auto.out ∙ third.auto.out ∙ second.auto.out ∙ first.auto.out

pub returns : goal.returns
returns c =
    let a = c.args in
    let line = a.refused.line in
    let pair = c.to_be_bytes.ensures ∙ to_be_bytes-pair line (search rules) in
    let third = c.print_byte-2.ensures ∙ ap₂ (λ o b. sets o 2 (hex_byte b [])) c.print_byte.ensures c.number.ensures in
    let fourth = c.print_byte-3.ensures ∙ ap₂ (λ o b. sets o 4 (hex_byte b [])) third (ap (λ bytes. get_or bytes 0 0) pair) in
    let fifth = c.print_byte-4.ensures ∙ ap₂ (λ o b. sets o 6 (hex_byte b [])) fourth (ap (λ bytes. get_or bytes 1 0) pair) in
    ap (λ o. set o 8 10) fifth ∙ refusal-stores a.out.now (refusal a.refused.why).number line
