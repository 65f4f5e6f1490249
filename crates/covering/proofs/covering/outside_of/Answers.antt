use Prim.Native.Nat.{◌-◌, min}
use mathlib.Core.Path.{ap, ◌∙◌}
use native.Mathlib.Omega.{arith}
use lib.Bits.{bit_and}
use Rattle.covering.proofs.Pairs.{outside-byte}
use Rattle.covering.proofs.covering.outside_of.Goals as goal

pub returns : goal.returns
returns c =
    let a = c.args in
    ap (λ x. bit_and x (255 - a.s)) c.all_boards.ensures ∙ outside-byte (min a.n 8) a.s (omega arith) (omega arith)
