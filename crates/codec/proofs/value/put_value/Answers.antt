use Rattle.std.proofs.Common.{◌+◌, ◌-◌, ◌*◌, ◌≡◌, ◌∙◌, ap, ap₂, suc, take, drop, ◌++◌, arith}
use lib.Seq.{drop-drop}
use Rattle.codec.specs.Codec.{encode, written}
use Rattle.codec.proofs.Codec.{to_be_bytes-pair}
use Rattle.codec.proofs.value.put_value.Goals as goal

-- `put_value` meets its contract.
pub returns : goal.returns
unfolding written encode
returns c =
    let a = c.args in
    let at = 2 * a.i in
    let size = at + 2 - at in
    let bytes = c.copy_from_slice.ensures.after ∙ c.to_be_bytes.ensures ∙ to_be_bytes-pair a.v (omega arith) in
    let rest = drop-drop size at a.out.now ∙ ap (λ k. drop k a.out.now) (let z : at + size ≡ 2 * suc a.i = omega arith in z) in
    ap₂ (λ x y. take at a.out.now ++ (x ++ y)) bytes rest
