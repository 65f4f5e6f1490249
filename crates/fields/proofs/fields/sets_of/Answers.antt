-- `sets_of` meets its contract: the first k sets.
use mathlib.Core.Path.{◌≡◌, ap, ap₂, ◌∙◌}
use native.Mathlib.Omega.{arith}
use lib.ListN.{set}
use Rattle.fields.proofs.Slots.{slots, slots-start, slots-more}
use Rattle.fields.proofs.fields.sets_of.Goals as goal

pub loop-k-init : goal.loop-k-init
loop-k-init c = slots-start c.args.line.now

pub loop-k-preserved : goal.loop-k-preserved
loop-k-preserved c =
    let l = c.loop-k in
    ap₂ (λ x v. set x l.k v) l.invariant c.byte_at.ensures ∙ slots-more c.args.line.now l.k (omega arith)

pub returns : goal.returns
returns c =
    let l = c.loop-k in
    l.invariant ∙ ap (slots c.args.line.now) (let z : l.k ≡ c.args.count = omega arith in z)
