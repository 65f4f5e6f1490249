-- `on_stage` meets its contract: one board more each turn, each on its part.
use Prim.Native.Nat.{◌+◌, ◌*◌, ◌≤◌}
use mathlib.Core.Path.{refl, sym, ap₂, ◌∙◌}
use native.Mathlib.Omega.{arith}
use lib.ListN.{length}
use borrow.Author.Rules.{rules}
use Rattle.stage.specs.Stage.{Stage, on_stage}
use Rattle.stage.proofs.Room.{count-is, part-inside}
use Rattle.stage.proofs.Turn.{turn-at, turn-left}
use Rattle.stage.proofs.acting.on_stage.Goals as goal
use Rattle.stage.proofs.acting.on_stage.Goals.{After-from-place, else-is_keeper, then-is_keeper}

pub loop-i-init : goal.loop-i-init
unfolding on_stage
loop-i-init g c = λ f h. refl

-- The board's part is within the cells.
inside : (g : _) (c : After-from-place g) → let size = c.cell_count-size.result in
    c.from-place.result * size + size ≤ length c.args.cells.now
inside g c =
    let size = c.cell_count-size in
    rw c.from-place.ensures (part-inside c.args.head c.args.cells.now c.requires.roomy c.loop-i.i size.result size.ensures (omega arith))

pub overflow_mul-at : goal.overflow_mul-at
overflow_mul-at g c = record { fits = omega (arith, inside g c) }

pub overflow_add-at : goal.overflow_add-at
overflow_add-at g c = record { fits = omega (arith, inside g ((goal.at.overflow_add-at g c).After-from-place)) }

pub offset_bounds-cells-at : goal.offset_bounds-cells-at
offset_bounds-cells-at g c =
    search (rules, inside g ((goal.at.offset_bounds-cells-at g c).After-from-place))

pub slice_bounds-act-end : goal.slice_bounds-act-end
slice_bounds-act-end g c = omega (arith, inside g ((goal.at.slice_bounds-act-end g c).After-from-place), c.loop-i.auto.cells)

pub loop-i-preserved : goal.loop-i-preserved
loop-i-preserved g c = λ f h.
    let a = c.args in
    let l = c.loop-i in
    let size = c.cell_count-size.result in
    let is-size = count-is a.head a.cells.now c.requires.roomy l.i size c.cell_count-size.ensures (omega arith) in
    let t : Stage = record { recs = a.records; cells = a.cells.now } in
    let test = c.is_keeper.ensures in
    elim c.if-is_keeper.branch [
      | then-is_keeper w ↦ let did = w.act in
          let acted = h l.i _ _ did.result _ (omega arith) did.ensures in
          ap₂ (λ u v. record { recs = u; cells = v }) w.all-is w.cells-is
          ∙ turn-at a.head f t l.i w.from-place.result l.all l.cells size is-size did.result did.new.arg4 w.from-place.ensures (l.invariant f h) (sym test ∙ w.if-is_keeper.true) acted
      | else-is_keeper w ↦ ap₂ (λ u v. record { recs = u; cells = v }) w.all-is w.cells-is
          ∙ turn-left a.head f t l.i (record { recs = l.all; cells = l.cells }) (l.invariant f h) (sym test ∙ w.if-is_keeper.false)
    ]
