-- `resolve_node` meets its contract: the children below c are resolved, in the table and in the cells. The levels left fall.
use Prim.Native.Nat.{ℕ}
use mathlib.Core.Path.{◌≡◌, refl, sym, ◌∙◌}
use mathlib.Core.Logic.{◌≢◌}
use mathlib.Core.Bool.{true}
use native.Mathlib.Omega.{arith}
use lib.Dec.{ltb}
use borrow.Author.Tests.{ltb-true}
use Rattle.sets.proofs.Tests.{and_l, not_t, not_f}
use Rattle.protocol.specs.Nodes.{internal}
use Rattle.resolving.specs.Promises.{node}
use Rattle.resolving.proofs.Steps.{boards-below, inner-is, place-fits, place-there, bytes_fit, next_fits, first_fits, leaf-settles, filling-start, filling-room, filling-there, number_small, filling_skip, child-stands, filling-here, filling-end}
use Rattle.resolving.proofs.resolving.+resolve_node.Goals as goal
use Rattle.resolving.proofs.resolving.+resolve_node.Goals.{Else-is_leaf, then-not-member, else-not-member}

-- The node is internal, so levels are left.
is-internal : (t : ℕ) (c : Else-is_leaf t) → internal c.args.tabled.now.plan c.args.board (node c.args.tabled.now.plan c.args.level c.args.index) ≡ true
is-internal t c = sym (inner-is c.requires.convertible c.requires.at-node) ∙ not_f _ (sym c.is_leaf.ensures ∙ c.if-is_leaf.false)

some_left : (t : ℕ) (c : Else-is_leaf t) → c.args.left ≢ 0
some_left t c e =
    let a = c.args in
    omega (arith, ltb-true 0 a.left (and_l (ltb 0 a.left) _ (not_f _ (sym c.is_leaf.ensures ∙ c.if-is_leaf.false))))

pub overflow_add-at : goal.overflow_add-at
overflow_add-at t c = place-fits c.requires.convertible c.requires.at-node

pub is_leaf-requires : goal.is_leaf-requires
is_leaf-requires t c = boards-below c.requires.convertible c.requires.at-node

pub settle_leaf-requires : goal.settle_leaf-requires
settle_leaf-requires t c = place-there c.requires.convertible c.requires.at-node

pub returns-then-is_leaf : goal.returns-then-is_leaf
returns-then-is_leaf t c =
    leaf-settles c.requires.convertible c.requires.at-node
    (sym (inner-is c.requires.convertible c.requires.at-node) ∙ not_t _ (sym c.is_leaf.ensures ∙ c.if-is_leaf.true))
    c.settle_leaf.ensures

pub overflow_add-next : goal.overflow_add-next
overflow_add-next t c = next_fits c.requires.convertible c.requires.at-node c.level_size.result c.level_size.ensures

pub overflow_mul-child : goal.overflow_mul-child
overflow_mul-child t c = first_fits c.requires.convertible c.requires.at-node

pub loop-c-init : goal.loop-c-init
loop-c-init t c = filling-start c.requires.convertible c.requires.at-node

pub resolve_node-requires : goal.resolve_node-requires
resolve_node-requires t c =
    let l = c.loop-c in
    let ne = some_left t (goal.at.resolve_node-requires t c).Else-is_leaf in
    let out = sym c.member.ensures ∙ c.if-not-member.true in (
      omega (arith, c.decreases),
      record {
        convertible = filling-room c.requires.convertible c.requires.at-node l.invariant;
        at-node = child-stands c.requires.convertible c.requires.at-node l.invariant c.loop-c-test.true out ne c.level_size.ensures refl;
      },
    )

pub overflow_add-child : goal.overflow_add-child
overflow_add-child t c = record { fits = omega (arith, number_small c.requires.convertible c.requires.at-node c.loop-c.invariant) }

pub loop-c-preserved : goal.loop-c-preserved
loop-c-preserved t c =
    let f = c.loop-c.invariant in
    let inside = c.loop-c-test.true in
    elim c.if-not-member.branch [
      | then-not-member w ↦ filling-here c.requires.convertible c.requires.at-node f inside (sym c.member.ensures ∙ w.if-not-member.true) w.resolve_node.ensures w.child-is w.values-is w.cells-is
      | else-not-member w ↦ filling_skip c.requires.convertible c.requires.at-node f inside (sym c.member.ensures ∙ w.if-not-member.false) w.child-is w.values-is w.cells-is
    ]

pub offset_bounds-cells-at : goal.offset_bounds-cells-at
offset_bounds-cells-at t c = bytes_fit c.requires.convertible c.requires.at-node

pub bounds-cells-at : goal.bounds-cells-at
bounds-cells-at t c = filling-there c.requires.convertible c.requires.at-node c.loop-c.invariant

pub returns : goal.returns
returns t c =
    let z = (goal.at.returns t c).Else-is_leaf in
    filling-end c.requires.convertible c.requires.at-node c.loop-c.invariant c.loop-c-test.false (some_left t z) (is-internal t z) c.vote-v.ensures
