-- `decode` meets its contract: the first i bytes, and the buffer after them.
use mathlib.Core.Path.{◌≡◌, ap, ◌∙◌}
use mathlib.Core.Option.{some}
use native.Mathlib.Omega.{arith}
use lib.ListN.{length, set}
use Rattle.fetching.proofs.FetchedFrame.{decoded, decoded-none, decoded-more, decoded-length, decoded-all}
use Rattle.fetching.proofs.fetching.decode.Goals as goal

pub loop-i-init : goal.loop-i-init
loop-i-init c = decoded-none c.args.digits.now c.args.bytes.now

pub bounds-bytes-i : goal.bounds-bytes-i
bounds-bytes-i c =
    let a = c.args in
    let l = c.loop-i in
    omega (arith, c.min-count.ensures, ap length l.invariant, decoded-length a.digits.now a.bytes.now l.i (omega (arith, c.min-count.ensures)))

pub loop-i-preserved : goal.loop-i-preserved
loop-i-preserved c =
    let a = c.args in
    let l = c.loop-i in
    ap (λ x. set x l.i c.byte_at.result) l.invariant
    ∙ decoded-more a.digits.now a.bytes.now l.i c.byte_at.result (omega (arith, c.min-count.ensures)) c.byte_at.ensures

pub shape_of-bytes : goal.shape_of-bytes
shape_of-bytes c =
    let a = c.args in
    let l = c.loop-i in
    ap length l.invariant ∙ decoded-length a.digits.now a.bytes.now l.i (omega (arith, c.min-count.ensures))

pub returns : goal.returns
returns c =
    let a = c.args in
    let l = c.loop-i in
    let count = c.min-count in
    let e : l.i ≡ count.result = omega arith in
    ap (λ b. record { count = some count.result; buffer = b }) (l.invariant ∙ ap (decoded a.digits.now a.bytes.now) e)
    ∙ decoded-all a.digits.now a.bytes.now count.result count.ensures
