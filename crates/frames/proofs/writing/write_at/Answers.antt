-- `write_at` meets its contract: the values of the nodes so far are written, and the rest of the output stays.
use Prim.Native.Nat.{◌+◌, ◌*◌, ◌<◌}
use mathlib.Core.Path.{◌≡◌, sym, ap, ◌∙◌}
use mathlib.Core.List.{[], ◌++◌, map}
use native.Mathlib.Omega.{arith}
use lib.ListN.{length, get_or, drop}
use lib.Seq.{take_all}
use borrow.Author.Rules.{rules}
use Rattle.codec.specs.Codec.{current, value_size, encode, written}
use Rattle.codec.proofs.Codec.{written_none}
use Rattle.tree.specs.Places.{place}
use Rattle.protocol.specs.Nodes.{read}
use Rattle.frames.specs.Nodes.{node_at, labels_of}
use Rattle.frames.proofs.Places.{read-place}
use Rattle.frames.proofs.Listed.{labels_at, labels_length, own-cell}
use Rattle.frames.proofs.Strokes.{write_step}
use Rattle.frames.proofs.writing.write_at.Goals as goal
use Rattle.frames.proofs.writing.write_at.Goals.{After-index_of}

-- The cell that is read.
abbrev Own : After-index_of → Type 0
Own c =
    let a = c.args in
    let spot = c.level_start-start.result + c.index_of.result in
    (spot ≡ place a.plan.n (node_at a.plan a.level (get_or a.nodes.now c.loop-i.i 0))) × (spot < length a.cells.now)

own : (c : After-index_of) → Own c
own c =
    let spot = own-cell c.requires.are-nodes c.loop-i.i (omega arith) c.level_start-start.result (length c.args.cells.now) c.level_start-start.ensures c.requires.enough in
    let z = ap (λ x. c.level_start-start.result + x) c.index_of.ensures in
    (z ∙ spot.0, omega (arith, z, spot.1))

pub loop-i-init : goal.loop-i-init
loop-i-init c = written_none current _

pub overflow_add-start : goal.overflow_add-start
overflow_add-start c = record { fits = omega (arith, (own c).1) }

pub offset_bounds-cells-start : goal.offset_bounds-cells-start
offset_bounds-cells-start c = search (rules, (own c).1)

pub bounds-cells-start : goal.bounds-cells-start
bounds-cells-start c = (own (goal.at.bounds-cells-start c).After-index_of).1

pub loop-i-preserved : goal.loop-i-preserved
loop-i-preserved c =
    let l = c.loop-i in
    let a = c.args in
    let αs = labels_of a.plan a.level a.nodes.now in
    let spot = own (goal.at.loop-i-preserved c).After-index_of in
    let here = node_at a.plan a.level (get_or a.nodes.now l.i 0) in
    let v = c.value.result in
    let reads : v ≡ read a.plan a.cells.now (get_or αs l.i []) =
    c.value.ensures ∙ read-place a.plan a.cells.now here _ spot.0
    ∙ ap (read a.plan a.cells.now) (sym (labels_at a.plan a.level a.nodes.now l.i (omega arith))) in
    c.put_value.ensures ∙ ap (written current l.i v) l.invariant
    ∙ write_step a.plan a.cells.now a.out.now αs l.i v (omega (arith, labels_length a.plan a.level a.nodes.now)) reads

pub returns : goal.returns
returns c =
    let l = c.loop-i in
    let a = c.args in
    let αs = labels_of a.plan a.level a.nodes.now in
    let size = labels_length a.plan a.level a.nodes.now in
    let end : l.i ≡ length a.nodes.now = omega arith in
    l.invariant
    ∙ ap (λ βs. encode current (map (read a.plan a.cells.now) βs) ++ drop (value_size current * l.i) a.out.now) (take_all l.i αs (omega arith))
    ∙ ap (λ k. encode current (map (read a.plan a.cells.now) αs) ++ drop (value_size current * k) a.out.now) end
