-- `store_frame` meets its contract: what is stored are the values that count.
use mathlib.Core.Path.{◌≡◌, sym, ap, ◌∙◌}
use native.Mathlib.Omega.{arith}
use Rattle.codec.specs.Codec.{current, decode}
use Rattle.codec.proofs.Codec.{decode-none}
use Rattle.sets.specs.Sets.{member}
use Rattle.protocol.specs.Rounds.{fill, counted}
use Rattle.frames.specs.Nodes.{labels_of}
use Rattle.frames.proofs.Listed.{labels_length}
use Rattle.frames.proofs.Strokes.{counted-all, counted-misfit, counted-listed}
use Rattle.storing.proofs.storing.store_frame.Goals as goal
use Rattle.storing.proofs.storing.store_frame.Goals.{else-value_count-nodes, else-value_count-nodes-via-else-value_count-nodes, else-value_count-nodes-via-then-value_count-nodes+else-not-member, then-value_count-nodes+then-not-member}

pub returns : goal.returns
returns c =
    let a = c.args in
    let αs = labels_of a.plan a.level a.nodes.now in
    let f = a.frame.now in
    let nodes = labels_length a.plan a.level a.nodes.now in
    let values : decode current c.if-value_count-nodes.values.now ≡ counted a.list a.q αs (decode current f) =
    elim c.if-value_count-nodes.branch [
      | then-value_count-nodes+then-not-member w ↦ ap (λ x. decode current x.now) w.values-is
          ∙ sym (counted-all a.list a.q αs (decode current f) (omega (arith, w.if-value_count-nodes.true, c.value_count.ensures)) (ap (member a.q) (sym w.as_set.ensures) ∙ sym w.member.ensures ∙ w.if-not-member.true))
      | else-value_count-nodes w ↦ ap (λ x. decode current x.now) w.values-is ∙ decode-none current
          ∙ sym (elim w.else-value_count-nodes.branch [
            | else-value_count-nodes-via-then-value_count-nodes+else-not-member x ↦ counted-listed a.list a.q αs (decode current f) (ap (member a.q) (sym x.as_set.ensures) ∙ sym x.member.ensures ∙ x.if-not-member.false)
            | else-value_count-nodes-via-else-value_count-nodes x ↦ counted-misfit a.list a.q αs (decode current f) (λ e. x.if-value_count-nodes.false (c.value_count.ensures ∙ e ∙ nodes))
          ])
    ] in
    c.store_at.ensures ∙ ap (λ vs. fill a.plan a.q αs vs a.cells.now) values
