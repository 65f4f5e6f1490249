-- `store_at` meets its contract: storing what is left of the frame gives the same as storing all of it.
use Prim.Native.Nat.{◌+◌, ◌≤◌, ◌<◌}
use mathlib.Core.Path.{◌≡◌, sym, ap, ap₂, ◌∙◌}
use native.Mathlib.Omega.{arith}
use mathlib.Core.List.{[], ◌∷◌}
use lib.ListN.{length, get_or, drop, drop_of_length-le}
use borrow.Author.Rules.{rules}
use Rattle.codec.specs.Codec.{current, decode}
use Rattle.tree.specs.Places.{place, child_index}
use Rattle.protocol.specs.Rounds.{fill}
use Rattle.frames.specs.Nodes.{node_at, labels_of}
use Rattle.frames.proofs.Listed.{labels-drop, labels_length, node-most, child-cell}
use Rattle.frames.proofs.Strokes.{fill_step}
use Rattle.storing.proofs.storing.store_at.Goals as goal
use Rattle.storing.proofs.storing.store_at.Goals.{After-entry_at}

-- The place where the value is stored.
abbrev Stroke : After-entry_at → Type 0
Stroke c =
    let a = c.args in
    let spot = c.level_start-start.result + c.child_index-child.result in
    (spot ≡ place a.plan.n (a.q ∷ node_at a.plan a.level (get_or a.nodes.now c.loop-i.i 0))) × (spot < length c.loop-i.cells)

stroke : (c : After-entry_at) → Stroke c
stroke c =
    child-cell c.requires.are-nodes c.loop-i.i (omega arith) c.args.q c.level_start-start.result c.child_index-child.result (length c.loop-i.cells)
    c.requires.without c.requires.sender c.level_start-start.ensures
    (c.child_index-child.ensures
    ∙ ap₂ (λ x s. child_index c.args.plan.n c.args.level x s c.args.q) c.index_of.ensures c.boards_of.ensures)
    (omega (arith, c.requires.enough, c.loop-i.auto.cells))

pub overflow_cast-index_of : goal.overflow_cast-index_of
overflow_cast-index_of c =
    let l = c.loop-i in
    let h = node-most c.requires.are-nodes l.i (omega arith) in
    record { fits = omega (arith, c.index_of.ensures) }

pub overflow_add-cells : goal.overflow_add-cells
overflow_add-cells c = record { fits = omega (arith, (stroke (goal.at.overflow_add-cells c).After-entry_at).1) }

pub offset_bounds-cells-start : goal.offset_bounds-cells-start
offset_bounds-cells-start c = search (rules, (stroke (goal.at.offset_bounds-cells-start c).After-entry_at).1)

pub bounds-cells-start : goal.bounds-cells-start
bounds-cells-start c = (stroke (goal.at.bounds-cells-start c).After-entry_at).1

pub loop-i-preserved : goal.loop-i-preserved
loop-i-preserved c =
    let l = c.loop-i in
    let a = c.args in
    let αs = labels_of a.plan a.level a.nodes.now in
    sym (fill_step a.plan a.q (node_at a.plan a.level (get_or a.nodes.now l.i 0)) (drop (l.i + 1) αs) (drop l.i αs) l.i _ c.entry_at.result (decode current a.frame.now) l.cells
    (labels-drop a.plan a.level l.i a.nodes.now (omega arith)) (stroke (goal.at.loop-i-preserved c).After-entry_at).0 c.entry_at.ensures)
    ∙ l.invariant

pub returns : goal.returns
unfolding fill
returns c =
    let l = c.loop-i in
    let a = c.args in
    let αs = labels_of a.plan a.level a.nodes.now in
    let end : drop l.i αs ≡ [] = drop_of_length-le αs (let z : length αs ≤ l.i = omega (arith, labels_length a.plan a.level a.nodes.now) in z) in
    sym (ap (λ βs. fill a.plan a.q βs (drop l.i (decode current a.frame.now)) l.cells) end) ∙ l.invariant
