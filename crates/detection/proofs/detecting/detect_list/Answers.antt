-- `detect_list` meets its contract: the rule over what is left of the list gives the same as over all of it.
use Prim.Native.Nat.{◌+◌, ◌-◌, ◌≤◌}
use mathlib.Core.Path.{◌≡◌, sym, ap, ◌∙◌}
use mathlib.Core.List.{[]}
use native.Mathlib.Omega.{arith}
use mir.Syntax.{w16}
use mir.Val.{Fits}
use lib.ListN.{length, get_or, drop, drop_of_length-le}
use borrow.Author.Rules.{rules}
use Rattle.protocol.specs.Detection.{Scan, detect_all_g}
use Rattle.frames.specs.Nodes.{node_at, labels_of}
use Rattle.frames.proofs.Listed.{labels-drop, labels_length}
use Rattle.rule_g.proofs.Kids.{visiting}
use Rattle.detection.proofs.detecting.detect_list.Goals as goal
use Rattle.detection.proofs.detecting.detect_list.Goals.{Start}

pub detect_at-next-requires : goal.detect_at-next-requires
detect_at-next-requires c =
    let e =
    (goal.at.detect_at-next-requires c).Start in
    let h : Fits w16 e.args.seat.now.tabled.plan.span = search rules in
    let l = c.loop-node in
    record {
      later = e.requires.later;
      visit =
          visiting e.args.seat.now.standing (omega (arith, h.fits)) e.args.nodes.now e.requires.are-nodes e.requires.held l.node-index c.level_start-start.result l.cells (omega arith)
          c.level_start-start.ensures (omega (arith, e.requires.enough, l.auto.cells));
    }

pub loop-node-preserved : goal.loop-node-preserved
unfolding detect_all_g
loop-node-preserved c =
    let l = c.loop-node in
    let a = c.args in
    let x = c.detect_at-next in
    let level = a.seat.now.round.0 - 1 in
    let α = node_at a.seat.now.tabled.plan level (get_or a.nodes.now l.node-index 0) in
    let αs = labels_of a.seat.now.tabled.plan level a.nodes.now in
    let now : Scan = record { list = l.grown; cells = l.cells } in
    ap (detect_all_g a.seat.now.tabled.plan a.seat.now.board a.seat.now.run a.seat.now.round (drop (l.node-index + 1) αs)) x.ensures
    ∙ sym (ap (λ βs. detect_all_g a.seat.now.tabled.plan a.seat.now.board a.seat.now.run a.seat.now.round βs now) (labels-drop a.seat.now.tabled.plan level l.node-index a.nodes.now (omega arith)))
    ∙ l.invariant

pub returns : goal.returns
unfolding detect_all_g
returns c =
    let l = c.loop-node in
    let a = c.args in
    let αs = labels_of a.seat.now.tabled.plan (a.seat.now.round.0 - 1) a.nodes.now in
    let end : drop l.node-index αs ≡ [] = drop_of_length-le αs (let z : length αs ≤ l.node-index = omega (arith, labels_length a.seat.now.tabled.plan (a.seat.now.round.0 - 1) a.nodes.now) in z) in
    sym (ap (λ βs. detect_all_g a.seat.now.tabled.plan a.seat.now.board a.seat.now.run a.seat.now.round βs (record { list = l.grown; cells = l.cells })) end) ∙ l.invariant
