-- `child_table` meets its contract: the children below c are read, and `at` is where the next one stands.
use Rattle.std.proofs.Common.{ℕ, ◌≡◌, ◌+◌, sym, ap, ◌∙◌, arith, get_or, set, rules}
use mathlib.Core.Option.{some}
use Rattle.tree.specs.Places.{outside_below}
use Rattle.tree.proofs.Boards.{outside-zero, outside-more, outside-skip}
use Rattle.voting.specs.Worth.{worth, child_table}
use Rattle.voting.proofs.Table.{table-zero, table_more, table-skip}
use Rattle.voting.proofs.worth.child_table.Goals as goal
use Rattle.voting.proofs.worth.child_table.Goals.{then-not-member, else-not-member}

pub loop-c-init : goal.loop-c-init
loop-c-init g c = record { place = omega (arith, outside-zero c.args.boards); table = λ p h. sym (table-zero _ c.args.boards) }

pub loop-c-preserved : goal.loop-c-preserved
unfolding worth
loop-c-preserved g c =
    let a = c.args in
    let l = c.loop-c in
    let m = sym c.member.ensures in
    elim c.if-not-member.branch [
      | then-not-member w ↦ let out = m ∙ w.if-not-member.true in record {
        place = omega (arith, w.at-is, l.invariant.place, outside-more a.boards l.c out);
        table = λ p h.
            let f : ℕ → ℕ = λ i. p (get_or a.cells.now (a.from + outside_below a.boards i) 0) in
            let cell : w.worth.result ≡ f l.c = h _ _ (search rules) w.worth.ensures ∙ ap (λ i. p (get_or a.cells.now i 0)) l.invariant.place in
            w.values-is ∙ ap (λ v. set l.values l.c v) cell ∙ ap (λ t. set t l.c (f l.c)) (l.invariant.table p h) ∙ sym (table_more (λ i. some (f i)) a.boards l.c out);
      }
      | else-not-member w ↦ let on = m ∙ w.if-not-member.false in record {
        place = omega (arith, w.at-is, l.invariant.place, outside-skip a.boards l.c on);
        table = λ p h. w.values-is ∙ l.invariant.table p h ∙ sym (table-skip _ a.boards l.c on);
      }
    ]

pub returns : goal.returns
returns g c = λ p h.
    let l = c.loop-c in
    let a = c.args in
    let whole : l.c ≡ a.n = omega arith in
    l.invariant.table p h ∙ ap (child_table (λ i. some (p (get_or a.cells.now (a.from + outside_below a.boards i) 0))) a.boards) whole
