-- The laws of levels and runs.
-- Assumes nothing.
use Prim.Native.Nat.{ℕ, ◌+◌, ◌-◌, ◌*◌, ◌/◌, ◌%◌, ◌≤◌, ◌<◌, min}
use mathlib.Core.Path.{◌≡◌, ◌∙◌, ap}
use native.Mathlib.Nat.{div-zero, div-lt_iff_lt-mul, div-add-mod', mod-lt, mul-le-mul_left, mul-one, suc-mul}
use native.Mathlib.Numerals.{add-one}
use native.Mathlib.Omega.{arith}
use mathlib.Core.Logic.{◌≢◌}
use lib.Dec.{eqb, ltb}
use borrow.Author.Tests.{eqb-false, ltb-true, ltb-false}
use Rattle.std.proofs.lemmas.Grind.{div_ceil_times}
use mathlib.Core.Bool.{true, false, not}
use Rattle.plan.specs.declared.plan.Plan.{Plan}
use Rattle.schedule.specs.Schedule.{ceil_div, rounds, runs}
use Rattle.heights.specs.Levels.{height, is_cut}
use Rattle.sets.proofs.Tests.{cases, and_l, and_r, not_t}

pub ceil-none : (a b : ℕ) → b ≡ 0 → ceil_div a b ≡ 0
unfolding ceil_div
ceil-none a b e = ap (λ x. (a + (x - 1)) / x) e ∙ div-zero (a + (0 - 1))

pub ceil-le : (a b : ℕ) → 0 < b → ceil_div a b ≤ a
unfolding ceil_div
ceil-le a b l =
    let q : a + (b - 1) < (a + 1) * b = omega (arith, mul-le-mul_left a l, mul-one a, suc-mul a b, add-one a) in
    let r : (a + (b - 1)) / b < a + 1 = (div-lt_iff_lt-mul l).1 q in
    omega arith

pub ceil-enough : (a b : ℕ) → 0 < b → a ≤ ceil_div a b * b
unfolding ceil_div
ceil-enough a b l = omega (arith, div-add-mod' (a + (b - 1)) b, mod-lt (a + (b - 1)) l)

-- std's quotient, rounded up.
pub ceil-is : (a b : ℕ) → 0 < b → a / b + min 1 (a % b) ≡ ceil_div a b
unfolding ceil_div
ceil-is a b l =
    let d = a / b + min 1 (a % b) in
    let times = div_ceil_times a b l in
    let most : (a + (b - 1)) / b < d + 1 = (div-lt_iff_lt-mul l).1 (omega (arith, times.0, suc-mul d b, add-one d)) in
    let least : d ≤ (a + (b - 1)) / b =
    cases (ltb ((a + (b - 1)) / b) d)
    (λ e. let low = (div-lt_iff_lt-mul l).0 (ltb-true _ _ e) in absurd (omega (arith, times.1)))
    (λ e. ltb-false _ _ e) in
    omega arith

module _ (p : Plan) where
  pub rounds-cut : is_cut p ≡ true → rounds p ≡ record { 0 = p.depth }
  unfolding rounds
  rounds-cut e = rw e

  pub rounds-full : is_cut p ≡ false → rounds p ≡ record { 0 = height p }
  unfolding rounds
  rounds-full e = rw e

  pub runs-cut : is_cut p ≡ true → runs p ≡ record { 0 = ceil_div (p.n - 3) (p.depth - 3) + 1 }
  unfolding runs
  runs-cut e = rw e

  pub runs-full : is_cut p ≡ false → runs p ≡ record { 0 = 1 }
  unfolding runs
  runs-full e = rw e

  -- A cut tree has a depth, and more levels than that.
  pub cut-depth : is_cut p ≡ true → (0 < p.depth) × (p.depth < height p)
  unfolding is_cut
  cut-depth e =
      let z : p.depth ≢ 0 = eqb-false p.depth 0 (not_t (eqb p.depth 0) (and_l (not (eqb p.depth 0)) (ltb p.depth (height p)) e)) in
      (omega arith, ltb-true p.depth (height p) (and_r (not (eqb p.depth 0)) (ltb p.depth (height p)) e))

  pub rounds-pos : 0 < (rounds p).0
  unfolding height
  rounds-pos =
      cases (is_cut p)
      (λ e. rw (rounds-cut e) (cut-depth e).0)
      (λ e. rw (rounds-full e) (omega arith))

  pub runs-pos : 0 < (runs p).0
  runs-pos = cases (is_cut p) (λ e. rw (runs-cut e) (omega arith)) (λ e. rw (runs-full e) (omega arith))
