-- The rounds of a plan over all runs and the step numbers 1 to `steps` correspond one to one, in order.
-- Assumes nothing.
use Prim.Native.Nat.{ℕ, zero, suc, ◌+◌, ◌-◌, ◌*◌, ◌/◌, ◌%◌, ◌≤◌, ◌<◌}
use mathlib.Core.Path.{◌≡◌, sym, ◌∙◌, ap}
use mathlib.Core.Logic.{◌≢◌, ◌⊎◌, inl, inr, ⊎_elim}
use mathlib.Core.Bool.{true, ◌&&◌, cond}
use native.Mathlib.Nat.{div-add-mod', mod-lt, mul-le-mul_right, mul-add-div_right, mul-add-mod_self_right, div-eq_of_lt, mod-eq_of_lt, lt_of_mul-lt-mul_right, zero-div, zero-mul, mul-zero, suc-mul}
use native.Mathlib.Omega.{arith}
use lib.Dec.{eqb, leb, ltb}
use borrow.Author.Tests.{ne_eqb, le-leb, lt-leb, leb-true, leb-false, eqb-true, eqb-false, ltb-true, ltb-false}
use Rattle.plan.specs.declared.plan.Plan.{Plan}
use Rattle.schedule.specs.declared.rounds.Run.{Run}
use Rattle.schedule.specs.declared.rounds.Round.{Round}
use Rattle.plan.specs.Listed.{listed}
use Rattle.heights.specs.Levels.{is_cut}
use Rattle.schedule.specs.Schedule.{rounds, runs, first_round, has_round, steps, step, step_run, step_round, ceil_div}
use Rattle.plan.specs.Calls.{judged, settings_of}
use Rattle.settings.specs.Planning.{is_depth}
use Rattle.sets.proofs.Tests.{cases, and_l, and_r, and-true, or-true}
use Rattle.schedule.proofs.Levels.{rounds-pos, runs-pos, rounds-cut, runs-cut, runs-full, cut-depth, ceil-enough}
use Rattle.plan.proofs.Accepted.{accepted}

-- Round k of run t is one of the plan's.
pub record Has (p : Plan) (t : Run) (k : Round) : Type 0 where
  pub run-low : 1 ≤ t.0
  pub run-high : t.0 ≤ (runs p).0
  pub round-low : 1 ≤ k.0
  pub round-later : t.0 ≢ 1 → 2 ≤ k.0
  pub round-high : k.0 ≤ (rounds p).0

pub has-round : (p : Plan) (t : Run) (k : Round) → has_round p t k ≡ true → Has p t k
unfolding has_round first_round
has-round p t k e =
    let run = and_l (leb 1 t.0 && leb t.0 (runs p).0) (leb (first_round t).0 k.0 && leb k.0 (rounds p).0) e in
    let round = and_r (leb 1 t.0 && leb t.0 (runs p).0) (leb (first_round t).0 k.0 && leb k.0 (rounds p).0) e in
    let low : (first_round t).0 ≤ k.0 = leb-true (first_round t).0 k.0 (and_l (leb (first_round t).0 k.0) (leb k.0 (rounds p).0) round) in
    record {
      run-low = leb-true 1 t.0 (and_l (leb 1 t.0) (leb t.0 (runs p).0) run);
      run-high = leb-true t.0 (runs p).0 (and_r (leb 1 t.0) (leb t.0 (runs p).0) run);
      round-low = cases (eqb t.0 1) (λ b. rw b at low) (λ b. let two : 2 ≤ k.0 = rw b at low in omega arith);
      round-later = λ ne. rw (ne_eqb t.0 1 ne) at low;
      round-high = leb-true k.0 (rounds p).0 (and_r (leb (first_round t).0 k.0) (leb k.0 (rounds p).0) round);
    }

pub round-has : (p : Plan) (t : Run) (k : Round) → Has p t k → has_round p t k ≡ true
unfolding has_round first_round
round-has p t k h =
    and-true (leb 1 t.0 && leb t.0 (runs p).0) (leb (first_round t).0 k.0 && leb k.0 (rounds p).0)
    (and-true (leb 1 t.0) (leb t.0 (runs p).0) (le-leb 1 t.0 h.run-low) (le-leb t.0 (runs p).0 h.run-high))
    (and-true (leb (first_round t).0 k.0) (leb k.0 (rounds p).0)
    (cases (eqb t.0 1) (λ b. rw b (le-leb 1 k.0 h.round-low)) (λ b. rw b (le-leb 2 k.0 (h.round-later (eqb-false t.0 1 b)))))
    (le-leb k.0 (rounds p).0 h.round-high))

pub run-split : (a b : ℕ) → 0 < a → a * b ≡ (a - 1) * b + b
run-split zero b l = absurd (omega arith)
run-split (suc a) b l = let z : suc a - 1 ≡ a = omega arith in rw z (suc-mul a b)

module _ (p : Plan) where
  -- One run's rounds after its first message.
  abbrev w : ℕ
  w = (rounds p).0 - 1

  -- Step numbers run from 1 to `steps`.
  pub step-low : (t : Run) (k : Round) → Has p t k → 1 ≤ step p t k
  unfolding step
  step-low t k h = omega (arith, h.round-low)

  pub step-high : (t : Run) (k : Round) → Has p t k → step p t k ≤ steps p
  unfolding step steps
  step-high t k h =
      let m = mul-le-mul_right w (let l : t.0 - 1 ≤ (runs p).0 - 1 = omega (arith, h.run-high) in l) in
      omega (arith, h.round-high)

  -- The run and the round of a step, as numbers: a runs before it, and r + 2 for the round.
  quotient : (a r : ℕ) → r < w → (a * w + r) / w ≡ a
  quotient a r l = mul-add-div_right (let z : 0 < w = omega arith in z) a r ∙ omega (arith, div-eq_of_lt l)

  remainder : (a r : ℕ) → r < w → (a * w + r) % w ≡ r
  remainder a r l = mul-add-mod_self_right a w r ∙ mod-eq_of_lt l

  -- Past the first step.
  later : (t : Run) (k : Round) → Has p t k → 2 ≤ k.0 → step p t k - 2 ≡ (t.0 - 1) * w + (k.0 - 2)
  unfolding step
  later t k h l = omega arith

  first_run : (t : Run) (k : Round) → Has p t k → k.0 < 2 → (t.0 ≡ 1) × (k.0 ≡ 1)
  first_run t k h l =
      let q = h.round-low in
      cases (eqb t.0 1)
      (λ e. (eqb-true t.0 1 e, omega arith))
      (λ e. let z = h.round-later (eqb-false t.0 1 e) in absurd (omega arith))

  first_step : (t : Run) (k : Round) → Has p t k → k.0 < 2 → step p t k ≡ 1
  unfolding step
  first_step t k h l =
      let (et, ek) = first_run t k h l in
      let z : t.0 - 1 ≡ 0 = omega arith in
      ap (λ x. x * w + k.0) z ∙ omega (arith, zero-mul w)

  -- From a round to its step and back.
  pub run-of-step : (t : Run) (k : Round) → Has p t k → step_run p (step p t k) ≡ t
  unfolding step_run
  run-of-step t k h =
      let run : ℕ → Run = λ x. record { 0 = x } in
      let low = h.run-low in
      cases (ltb k.0 2)
      (λ e. let l = ltb-true k.0 2 e in
      let z : step p t k - 2 ≡ 0 = omega (arith, first_step t k h l) in
      ap run (ap (λ x. x / w + 1) z ∙ omega (arith, zero-div w, first_run t k h l)))
      (λ e. let l = ltb-false k.0 2 e in
      let r : k.0 - 2 < w = omega (arith, h.round-high) in
      ap run (ap (λ x. x / w + 1) (later t k h l) ∙ omega (arith, quotient (t.0 - 1) (k.0 - 2) r)))

  pub round-of-step : (t : Run) (k : Round) → Has p t k → step_round p (step p t k) ≡ k
  unfolding step_round
  round-of-step t k h =
      let round : ℕ → Round = λ x. record { 0 = x } in
      cases (ltb k.0 2)
      (λ e. let l = ltb-true k.0 2 e in
      let one = first_step t k h l in
      ap round (ap (λ b. cond b 1 ((step p t k - 2) % w + 2)) (le-leb (step p t k) 1 (omega arith)) ∙ omega (arith, first_run t k h l)))
      (λ e. let l = ltb-false k.0 2 e in
      let r : k.0 - 2 < w = omega (arith, h.round-high) in
      let past : 1 < step p t k = step-two t k l in
      ap round (ap (λ b. cond b 1 ((step p t k - 2) % w + 2)) (lt-leb (step p t k) 1 past)
      ∙ ap (λ x. x % w + 2) (later t k h l) ∙ omega (arith, remainder (t.0 - 1) (k.0 - 2) r)))
    where
      step-two : (t : Run) (k : Round) → 2 ≤ k.0 → 1 < step p t k
      step-two t k l = unfold step in omega arith

  -- From a step to its round and back.
  module _ (j : ℕ) (low : 1 ≤ j) (high : j ≤ steps p) where
    room : 2 ≤ j → 0 < w
    unfolding steps
    room l =
        cases (eqb w 0)
        (λ e. let z : w ≡ 0 = eqb-true w 0 e in
        absurd (omega (arith, rounds-pos p, ap (λ x. ((runs p).0 - 1) * x) z, mul-zero ((runs p).0 - 1))))
        (λ e. let z : w ≢ 0 = eqb-false w 0 e in omega arith)

    parts : (j - 2) / w * w + (j - 2) % w ≡ j - 2
    parts = div-add-mod' (j - 2) w

    -- Fewer runs are over than the plan has.
    over : 2 ≤ j → (j - 2) / w < (runs p).0
    unfolding steps
    over l =
        lt_of_mul-lt-mul_right w
        (let split : (runs p).0 * w ≡ ((runs p).0 - 1) * w + w = run-split (runs p).0 w (runs-pos p) in omega (arith, rounds-pos p, room l, parts))

    pub step-has : Has p (step_run p j) (step_round p j)
    unfolding step_run step_round
    step-has =
        cases (leb j 1)
        (λ e. let one : j ≡ 1 = omega (arith, leb-true j 1 e) in
        let z : (j - 2) / w ≡ 0 = ap (λ x. x / w) (let y : j - 2 ≡ 0 = omega arith in y) ∙ zero-div w in
        record {
          run-low = omega arith;
          run-high = omega (arith, z, runs-pos p);
          round-low = rw e (omega arith);
          round-later = λ ne. absurd (ne (omega (arith, z)));
          round-high = rw e (rounds-pos p);
        })
        (λ e. let l = leb-false j 1 e in
        let r : (j - 2) % w < w = mod-lt (j - 2) (room l) in
        record {
          run-low = omega arith;
          run-high = omega (arith, over l);
          round-low = rw e (omega arith);
          round-later = λ _. rw e (omega arith);
          round-high = rw e (omega (arith, r));
        })

    pub step-of-round : step p (step_run p j) (step_round p j) ≡ j
    unfolding step step_run step_round
    step-of-round =
        cases (leb j 1)
        (λ e. let one : j ≡ 1 = omega (arith, leb-true j 1 e) in
        let z : (j - 2) / w ≡ 0 = ap (λ x. x / w) (let y : j - 2 ≡ 0 = omega arith in y) ∙ zero-div w in
        let q : (j - 2) / w + 1 - 1 ≡ 0 = omega arith in
        rw (e, q) (omega (arith, zero-mul w)))
        (λ e. let l = leb-false j 1 e in
        let q : (j - 2) / w + 1 - 1 ≡ (j - 2) / w = omega arith in
        rw (e, q) (omega (arith, parts)))

  -- In order: a later run, or the same run and a later round, is a later step.
  abbrev pub Earlier : Run → Round → Run → Round → Type 0
  Earlier t k u l = (t.0 < u.0) ⊎ ((t.0 ≡ u.0) × (k.0 < l.0))

  pub step-earlier : (t : Run) (k : Round) (u : Run) (l : Round) → Has p t k → Has p u l → Earlier t k u l → step p t k < step p u l
  unfolding step
  step-earlier t k u l h g (inl a) =
      let m = mul-le-mul_right w (let z : t.0 ≤ u.0 - 1 = omega arith in z) in
      let split : t.0 * w ≡ (t.0 - 1) * w + w = run-split t.0 w h.run-low in
      let two = g.round-later (let z : u.0 ≢ 1 = omega (arith, h.run-low) in z) in
      omega (arith, h.round-high, rounds-pos p)
  step-earlier t k u l h g (inr a) =
      let m : (t.0 - 1) * w ≡ (u.0 - 1) * w = ap (λ x. (x - 1) * w) a.0 in omega (arith, a.1)

  pub earlier_step : (t : Run) (k : Round) (u : Run) (l : Round) → Has p t k → Has p u l → step p t k < step p u l → Earlier t k u l
  earlier_step t k u l h g s =
      cases (ltb t.0 u.0)
      (λ e. inl (ltb-true t.0 u.0 e))
      (λ e. let ge = ltb-false t.0 u.0 e in
      cases (eqb t.0 u.0)
      (λ f. let same = eqb-true t.0 u.0 f in
      cases (ltb k.0 l.0)
      (λ b. inr (same, ltb-true k.0 l.0 b))
      (λ b. absurd (not-later same (ltb-false k.0 l.0 b))))
      (λ f. let ne : t.0 ≢ u.0 = eqb-false t.0 u.0 f in
      let back = step-earlier u l t k g h (inl (omega arith)) in absurd (omega arith)))
    where
      not-later : t.0 ≡ u.0 → l.0 ≤ k.0 → ⊥
      not-later same le =
          cases (eqb l.0 k.0)
          (λ b. let z : step p u l ≡ step p t k = unfold step in cc (eqb-true l.0 k.0 b) in omega arith)
          (λ b. let ne : l.0 ≢ k.0 = eqb-false l.0 k.0 b in
          let back = step-earlier u l t k g h (inr (sym same, omega arith)) in omega arith)

-- A cut tree of an accepted plan has four levels or more.
pub cut-four : (p : Plan) → (judged p).number ≡ 0 → is_cut p ≡ true → 4 ≤ p.depth
unfolding judged is_depth
cut-four p e cut =
    ⊎_elim
    (λ z. let zero : p.depth ≡ 0 = eqb-true p.depth 0 z in absurd (omega (arith, cut-depth p cut)))
    (λ z. leb-true 4 p.depth (and_l (leb 4 p.depth) (leb p.depth 7) z))
    (or-true (eqb p.depth 0) (leb 4 p.depth && leb p.depth 7)
    (accepted p.n p.count (listed p) (settings_of p) e).depth-good)

-- A cut tree has runs enough: n ≤ (T - 1)(b - 3) + 3.
pub runs-enough : (p : Plan) → (judged p).number ≡ 0 → is_cut p ≡ true → p.n ≤ ((runs p).0 - 1) * (p.depth - 3) + 3
runs-enough p e cut =
    let four = cut-four p e cut in
    let t : (runs p).0 - 1 ≡ ceil_div (p.n - 3) (p.depth - 3) = omega (arith, ap (λ (x : Run). x.0) (runs-cut p cut)) in
    rw t (omega (arith, ceil-enough (p.n - 3) (p.depth - 3) (omega arith)))

-- Where there is a second run, it has a round.
pub later-rounds : (p : Plan) → (judged p).number ≡ 0 → 1 < (runs p).0 → 2 ≤ (rounds p).0
later-rounds p e l =
    cases (is_cut p)
    (λ c. omega (arith, ap (λ (x : Round). x.0) (rounds-cut p c), cut-four p e c))
    (λ c. absurd (omega (arith, ap (λ (x : Run). x.0) (runs-full p c))))
