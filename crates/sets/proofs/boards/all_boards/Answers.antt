use lib.Pow.{pow-lt, pow_pos}
use native.Mathlib.Nat.{one-mul, mod-eq_of_lt}
use Rattle.sets.specs.Sets.{boards}
use native.Mathlib.Omega.{arith}
use Prim.Native.Nat.{ℕ, min, ◌^◌, ◌*◌, ◌%◌, ◌-◌, ◌<◌}
use mathlib.Core.Path.{◌≡◌, ap, ◌∙◌}
use Rattle.sets.proofs.boards.all_boards.Goals as goal

shifted : (n : ℕ) → n < 8 → 1 * 2 ^ n % 256 ≡ 2 ^ n
shifted n l = ap (λ x. x % 256) (one-mul (2 ^ n)) ∙ mod-eq_of_lt (pow-lt {j = 8} l)

pub returns-then-n-ge8 : goal.returns-then-n-ge8
unfolding boards
returns-then-n-ge8 c = let a = c.args in ap boards (let z : 8 ≡ min a.n 8 = omega arith in z)

pub overflow_sub-result : goal.overflow_sub-result
overflow_sub-result c = let n = c.args.n in omega (arith, shifted n c.if-n-ge8.false, pow_pos n)

pub returns : goal.returns
unfolding boards
returns c =
    let n = c.args.n in
    ap (λ x. x - 1) (shifted n c.if-n-ge8.false) ∙ ap boards (let z : n ≡ min n 8 = omega arith in z)
