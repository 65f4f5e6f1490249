use mathlib.Core.Path.{◌≡◌, refl}
use lib.ListN.{length-set}
use native.Mathlib.Omega.{arith}
use borrow.Author.Rules.{rules}
use Rattle.holders.proofs.Filling.{fold_more, fold-by}
use Rattle.holders.proofs.table.folded.Goals as goal

pub loop-t-init : goal.loop-t-init
loop-t-init c = (refl, λ j l. absurd (omega arith))

pub loop-t-preserved : goal.loop-t-preserved
loop-t-preserved c =
    let l = c.loop-t in
    (simp length-set l.invariant.0, fold_more c.args.from l.to l.t _ (search rules) (omega arith) l.invariant.0 l.invariant.1)

pub returns : goal.returns
returns c =
    let l = c.loop-t in
    let z : l.t ≡ 64 = omega arith in
    fold-by c.args.from l.to l.invariant.0 (λ j lj. l.invariant.1 j (omega arith))
