-- `clear` meets its contract.
use Rattle.std.proofs.Common.{ℕ, ◌≡◌, ◌∙◌, sym, arith, rules, length-take-le}
use Rattle.plan.specs.declared.plan.Plan.{Plan}
use Rattle.plan.specs.Calls.{judged}
use Rattle.tree.specs.Places.{cell_count, count_within}
use Rattle.tree.proofs.Within.{count-within}
use Rattle.protocol.proofs.Judgement.{plan-facts}
use Rattle.clearing.proofs.cells.clear.Goals as goal

-- An accepted plan has all its cells.
counted : (p : Plan) {k : ℕ} → (judged p).number ≡ 0 → k ≡ count_within p.n → k ≡ cell_count p.n
counted p ok e = let f = (plan-facts p ok).admission in e ∙ count-within p.n f.some-board f.most-boards

pub slice_bounds-fill-end : goal.slice_bounds-fill-end
slice_bounds-fill-end c = omega (arith, counted c.args.plan c.requires.accepted c.cell_count.ensures, c.requires.enough)

pub slice_bounds-fill-end-2 : goal.slice_bounds-fill-end-2
slice_bounds-fill-end-2 c =
    sym (length-take-le c.cell_count.result c.args.cells.now (omega (arith, counted c.args.plan c.requires.accepted c.cell_count.ensures, c.requires.enough)))

pub returns : goal.returns
returns c =
    let a = c.args in
    let count = counted a.plan c.requires.accepted c.cell_count.ensures in
    rw (sym count) (search rules)
