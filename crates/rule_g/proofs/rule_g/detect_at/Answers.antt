-- `detect_at` meets its contract: the list and the cells stay, or the last board joins and is silenced.
use Prim.Native.Nat.{◌-◌, ◌<◌}
use mathlib.Core.Path.{◌≡◌, sym, ap, ap₂, ◌∙◌}
use mathlib.Core.List.{[]}
use native.Mathlib.Omega.{arith}
use Rattle.tree.specs.Labels.{last}
use Rattle.protocol.specs.Nodes.{sent}
use Rattle.protocol.specs.declared.records.Rule.TheVariants as Rule
use Rattle.protocol.specs.Listing.{join}
use Rattle.protocol.specs.Detection.{Scan}
use Rattle.protocol.specs.Rounds.{fill}
use Rattle.frames.specs.Nodes.{node_at}
use Rattle.rule_g.proofs.Kids.{end_below, label-level}
use Rattle.rule_g.proofs.Masking.{mask-sent, detect-kept, detect-joined}
use Rattle.rule_g.proofs.rule_g.detect_at.Goals as goal

pub returns-then-passes : goal.returns-then-passes
returns-then-passes c =
    let a = c.args in
    let now : Scan = record { list = a.list; cells = a.cells.now } in
    sym (detect-kept a.seat.now.tabled.plan a.seat.now.board a.seat.now.run a.seat.now.round (node_at a.seat.now.tabled.plan (a.seat.now.round.0 - 1) a.node) now (sym c.passes.ensures ∙ c.if-passes.true))

pub silence-requires : goal.silence-requires
silence-requires c =
    record {
      later = c.requires.later;
      sender = omega (arith, c.last_of-end.ensures, end_below c.requires.visit);
      enough = c.requires.visit.enough;
    }

pub returns : goal.returns
returns c =
    let a = c.args in
    let v = c.requires.visit in
    let α = node_at a.seat.now.tabled.plan (a.seat.now.round.0 - 1) a.node in
    let now : Scan = record { list = a.list; cells = a.cells.now } in
    let end : c.last_of-end.result ≡ last α = c.last_of-end.ensures ∙ v.is-node.end in
    let below : last α < a.seat.now.tabled.plan.n = omega (arith, v.is-node.end, end_below v) in
    let joined = detect-joined a.seat.now.tabled.plan a.seat.now.board a.seat.now.run a.seat.now.round α now (sym c.passes.ensures ∙ c.if-passes.false) in
    ap₂ (λ d cells. record { list = d; cells = cells })
    (c.join.ensures ∙ ap₂ (λ q level. join q a.seat.now.run a.seat.now.round (Rule.G level) a.list) end (sym (label-level v)))
    (c.silence.ensures
    ∙ ap (λ q. fill a.seat.now.tabled.plan q (sent a.seat.now.tabled.plan q a.seat.now.board a.seat.now.round) [] a.cells.now) end
    ∙ sym (mask-sent c.args.seat.now.standing c.requires.later (last α) α a.cells.now below (label-level v)))
    ∙ sym joined
