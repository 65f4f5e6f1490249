-- `take_word` meets its contract: 14, 15, and the root's cell.
use mathlib.Core.Path.{sym, ◌∙◌}
use mathlib.Core.List.{[], ◌∷◌}
use native.Mathlib.Omega.{arith}
use lib.Dec.{eqb}
use borrow.Author.Tests.{eq-eqb, ne_eqb}
use Rattle.codec.specs.Codec.{current, decode}
use Rattle.refusals.specs.Outcome.{refusal, verdict}
use Rattle.tree.proofs.Places.{some-cell}
use Rattle.first_round.proofs.Takes.{takes_none, takes-again, takes-root}
use Rattle.first_round.proofs.word.take_word.Goals as goal

pub returns-then-q-plan : goal.returns-then-q-plan
unfolding verdict refusal
returns-then-q-plan c =
    let a = c.args in
    takes_none a.plan a.q a.list a.marks (eqb a.q a.plan.dealer) ([] ∷ []) (decode current a.frame.now) a.cells.now (ne_eqb _ _ c.if-q-plan.true)

pub returns-then-member : goal.returns-then-member
unfolding verdict refusal
returns-then-member c =
    let a = c.args in
    takes-again a.plan a.q a.list a.marks (eqb a.q a.plan.dealer) ([] ∷ []) (decode current a.frame.now) a.cells.now
    (eq-eqb a.q a.plan.dealer (omega arith)) (sym c.member.ensures ∙ c.if-member.true)

pub bounds-cells-0 : goal.bounds-cells-0
bounds-cells-0 c =
    omega (arith, some-cell c.args.plan.n c.args.plan.dealer c.requires.dealer-below, c.requires.enough)

pub returns : goal.returns
unfolding verdict
returns c =
    let a = c.args in
    takes-root a.plan a.list a.q (decode current a.frame.now) a.marks (eqb a.q a.plan.dealer) a.cells.now _
    (eq-eqb _ _ c.if-q-plan.false) (sym c.member.ensures ∙ c.if-member.false) c.word_of.ensures
