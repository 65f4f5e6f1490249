-- `number_at` meets its contract.
use Prim.Native.Nat.{suc, ◌+◌, ◌*◌}
use mathlib.Core.Path.{◌∙◌, ap, ap₂}
use native.Mathlib.Omega.{arith}
use native.Mathlib.Numerals.{add-one}
use Rattle.codec.specs.Codec.{number_at}
use Rattle.hexadecimal.specs.Bytes.{byte_at}
use Rattle.hexadecimal.proofs.Digits.{byte-short}
use Rattle.text.proofs.lines.number_at.Goals as goal

pub returns-then-line-k : goal.returns-then-line-k
unfolding number_at
returns-then-line-k c =
    let a = c.args in
    omega (arith, byte-short a.line.now a.k (omega arith), byte-short a.line.now (suc a.k) (omega arith))

pub returns : goal.returns
unfolding number_at
returns c =
    let a = c.args in
    c.from_be_bytes.ensures
    ∙ ap₂ (λ h l. h * 256 + l) c.byte_at.ensures (c.byte_at-2.ensures ∙ ap (byte_at a.line.now) (add-one a.k))
