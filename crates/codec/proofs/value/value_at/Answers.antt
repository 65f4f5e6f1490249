use Prim.Native.Nat.{ℕ, ◌+◌, ◌*◌, ◌<◌}
use mathlib.Core.Path.{◌≡◌, ◌∙◌, sym, ap}
use mathlib.Core.List.{List}
use native.Mathlib.Omega.{arith}
use native.Mathlib.Numerals.{add-one}
use lib.ListN.{length, get_or}
use borrow.Author.Rules.{rules}
use Rattle.codec.specs.Codec.{current, decode, number_at}
use Rattle.codec.proofs.Codec.{decode-fits, decode-at}
use Rattle.codec.proofs.value.value_at.Goals as goal

-- `value_at` meets its contract.
-- A value that is counted has both its bytes.
fits : (f : List ℕ) (i : ℕ) {k : ℕ} → k ≡ length (decode current f) → i < k → 2 * i + 1 < length f
fits f i e l = let z = decode-fits current f i (omega (arith, e, l)) in omega arith

pub overflow_mul-at : goal.overflow_mul-at
overflow_mul-at c =
    let a = c.args in
    search (rules, fits a.frame.now a.i c.value_count.ensures (omega (arith, c.if-i-value_count.true)))

pub bounds-frame-at : goal.bounds-frame-at
bounds-frame-at c =
    let a = c.args in
    omega (arith, fits a.frame.now a.i c.value_count.ensures (omega (arith, c.if-i-value_count.true)))

pub overflow_add-at : goal.overflow_add-at
overflow_add-at c =
    let a = c.args in
    search (rules, fits a.frame.now a.i c.value_count.ensures (omega (arith, c.if-i-value_count.true)))

pub bounds-frame-at-then-i-value_count : goal.bounds-frame-at-then-i-value_count
bounds-frame-at-then-i-value_count c =
    let a = c.args in
    omega (arith, fits a.frame.now a.i c.value_count.ensures (omega (arith, c.if-i-value_count.true)))

pub returns-then-i-value_count : goal.returns-then-i-value_count
unfolding number_at
returns-then-i-value_count c =
    let a = c.args in
    c.from_be_bytes.ensures
    ∙ ap (λ k. get_or a.frame.now (2 * a.i) 0 * 256 + get_or a.frame.now k 0) (add-one (2 * a.i))
    ∙ sym (decode-at current a.frame.now a.i (omega (arith, c.if-i-value_count.true, c.value_count.ensures)))
