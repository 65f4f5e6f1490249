-- `of` meets its contract: the dealer's line, or that of another board.
use mathlib.Core.Path.{refl, ap, ap₂, ◌∙◌}
use mathlib.Core.List.{[]}
use borrow.Author.Tests.{eq-eqb, ne_eqb}
use Rattle.codec.specs.Codec.{current}
use Rattle.sets.specs.Structure.{held_at}
use Rattle.plan.specs.Listed.{listed}
use Rattle.sheet.specs.Playing.{printed}
use Rattle.printer.specs.Printed.{healthy_line}
use Rattle.printer.proofs.printing.Line.of.Goals as goal

pub returns-then-i-head : goal.returns-then-i-head
unfolding healthy_line
returns-then-i-head c =
    let a = c.args in
    rw (eq-eqb a.i a.head.plan.dealer c.if-i-head.true) refl

pub returns : goal.returns
unfolding healthy_line
returns c =
    let a = c.args in
    let list = c.as_set-list.ensures in
    let place = c.held_at.ensures ∙ ap (held_at (listed a.head.plan)) list in
    rw (ne_eqb a.i a.head.plan.dealer c.if-i-head.false)
    (ap₂ (λ s k. printed current a.i a.r.decision s k []) list place)
