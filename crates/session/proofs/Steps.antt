-- Frames step by step: those before a step are skipped, and what the step looks for is left.
-- Assumes nothing.
use Prim.Native.Nat.{ℕ, zero, suc, ◌+◌, ◌-◌, ◌/◌, ◌%◌, ◌≤◌, ◌<◌}
use mathlib.Core.Path.{◌≡◌, refl, sym, ap, ap₂, ◌∙◌}
use mathlib.Core.Logic.{⊎_elim}
use mathlib.Core.Bool.{true}
use mathlib.Core.List.{List}
use mathlib.Core.Option.{Option}
use native.Mathlib.Nat.{zero-div}
use native.Mathlib.Omega.{arith}
use lib.Dec.{eqb}
use borrow.Author.Tests.{eqb-true, eqb-false, lt-leb}
use Rattle.sets.proofs.Tests.{cases}
use Rattle.plan.specs.declared.plan.Plan.{Plan}
use Rattle.schedule.specs.declared.rounds.Run.{Run}
use Rattle.schedule.specs.declared.rounds.Round.{Round}
use Rattle.heights.specs.Levels.{depth_of, is_cut}
use Rattle.schedule.specs.Schedule.{ceil_div, rounds, runs, steps, step_run, step_round}
use Rattle.schedule.proofs.Levels.{ceil-none, ceil-le, runs-cut, runs-full}
use Rattle.schedule.proofs.Steps.{step-has, step-of-round, earlier_step}
use Rattle.sheet.specs.Sheet.{Frame}
use Rattle.sheet.specs.Playing.{find_frame}
use Rattle.finding.specs.Frames.{key_of, rising, skip_frames}
use Rattle.finding.proofs.ByKey.{rising-skipped, find-skipped}
use Rattle.session.specs.Steps.{step_key, frames_left, play_step, play_steps}
use native.Mathlib.Numerals.{add-one}
use Rattle.sheet.specs.declared.head.Head.{Head}
use Rattle.stage.specs.Stage.{Stage}

-- One step more, with what is left of the frames.
pub left-more : (p : Plan) (j : ℕ) (fs : List Frame) → skip_frames (step_key p j) (frames_left p j fs) ≡ frames_left p (j + 1) fs
unfolding frames_left
left-more p j fs = rw (add-one j) refl

pub played-more : (h : Head) (fs rest : List Frame) (j : ℕ) (st t : Stage) → rest ≡ skip_frames (step_key h.plan j) (frames_left h.plan j fs) → st ≡ play_steps h fs j t
    → play_step h rest st ≡ play_steps h fs (j + 1) t
unfolding play_steps frames_left
played-more h fs rest j st t er e = rw (add-one j) (ap₂ (play_step h) er e)

module _ (p : Plan) where
  -- The keys of steps rise.
  step-rises : (i j : ℕ) → (rounds p).0 ≤ 255 → i ≤ j → j < steps p → step_key p i ≤ step_key p j
  unfolding step_key key_of
  step-rises i j few l inside =
      cases (eqb i j)
      (λ x. let same = eqb-true i j x in omega (arith, ap (λ m. (step_run p (suc m)).0) same, ap (λ m. (step_round p (suc m)).0) same))
      (λ x. let ne = eqb-false i j x in
      let hi = step-has p (suc i) (omega arith) (omega arith) in
      let hj = step-has p (suc j) (omega arith) (omega arith) in
      let less = earlier_step p (step_run p (suc i)) (step_round p (suc i)) (step_run p (suc j)) (step_round p (suc j)) hi hj
      (omega (arith, step-of-round p (suc i) (omega arith) (omega arith), step-of-round p (suc j) (omega arith) (omega arith))) in
      ⊎_elim
      (λ a. omega (arith, hi.round-high))
      (λ a. omega (arith, a.0, a.1))
      less)

  pub left_rising : (j : ℕ) (fs : List Frame) → rising 0 fs ≡ true → rising 0 (frames_left p j fs) ≡ true
  unfolding frames_left
  left_rising zero fs e = e
  left_rising (suc j) fs e = rising-skipped (step_key p j) (frames_left p j fs) (left_rising j fs e)

  -- What is looked for in step j.
  module _ (few : (rounds p).0 ≤ 255) (j : ℕ) (inside : j < steps p) (q i : ℕ) (fs : List Frame) where
    abbrev sought : List Frame → Option (List ℕ)
    sought gs = find_frame (step_run p (suc j)) (step_round p (suc j)) q i gs

    found_left : (k : ℕ) → k ≤ suc j → sought (frames_left p k fs) ≡ sought fs
    unfolding frames_left
    found_left zero l = refl
    found_left (suc k) l =
        find-skipped (step_run p (suc j)) (step_round p (suc j)) q i (step_key p k) (frames_left p k fs) (low k l) ∙ found_left k (omega arith)
      where
        low : (k : ℕ) → suc k ≤ suc j → step_key p k ≤ key_of (step_run p (suc j)).0 (step_round p (suc j)).0 q i
        low k l = let h = step-rises k j few (omega arith) inside in unfold step_key key_of in omega arith

    pub sought-left : sought (frames_left p (suc j) fs) ≡ sought fs
    sought-left = found_left (suc j) (omega arith)

-- Step j by its numbers, as the code computes them.
pub first_key : (p : Plan) → key_of 1 1 0 0 ≡ step_key p 0
unfolding step_key step_run step_round
first_key p = ap (λ m. key_of (m + 1) 1 0 0) (let z : 0 / ((rounds p).0 - 1) ≡ 0 = zero-div ((rounds p).0 - 1) in sym z)

runs-byte : (p : Plan) → p.n ≤ 255 → (runs p).0 ≤ 255
runs-byte p few =
    cases (is_cut p)
    (λ x. omega (arith, ap (λ (t : Run). t.0) (runs-cut p x), ceil-few (p.n - 3) (depth_of p - 3)))
    (λ x. omega (arith, ap (λ (t : Run). t.0) (runs-full p x)))
  where
    ceil-few : (a b : ℕ) → ceil_div a b ≤ a
    ceil-few a b =
        cases (eqb b 0)
        (λ x. omega (arith, ceil-none a b (eqb-true b 0 x)))
        (λ x. ceil-le a b (let ne = eqb-false b 0 x in omega arith))

pub record Later (p : Plan) (last : ℕ) (j : ℕ) : Type 0 where
  pub long : 2 ≤ last
  pub run_fits : (j - 1) / (last - 1) + 1 ≤ 255
  pub round-fits : (j - 1) % (last - 1) + 2 ≤ 255
  pub key : key_of ((j - 1) / (last - 1) + 1) ((j - 1) % (last - 1) + 2) 0 0 ≡ step_key p j

pub later : (p : Plan) (last : Round) (j : ℕ) → last ≡ rounds p → last.0 ≤ 255 → p.n ≤ 255 → 0 < j → j < steps p → Later p last.0 j
later p last j e round few l inside =
    let h = step-has p (suc j) (omega arith) inside in
    let w = last.0 - 1 in
    let top : last.0 ≡ (rounds p).0 = ap (λ (k : Round). k.0) e in
    let run_is : (step_run p (suc j)).0 ≡ (j - 1) / w + 1 = run_at in
    let round_is : (step_round p (suc j)).0 ≡ (j - 1) % w + 2 = round-at in
    record {
      long = omega (arith, h.round-high);
      run_fits = omega (arith, h.run-high, runs-byte p few);
      round-fits = omega (arith, h.round-high);
      key = key-is ((j - 1) / w + 1) ((j - 1) % w + 2) run_is round_is;
    }
  where
    key-is : (t k : ℕ) → (step_run p (suc j)).0 ≡ t → (step_round p (suc j)).0 ≡ k → key_of t k 0 0 ≡ step_key p j
    key-is t k x y = unfold step_key in ap₂ (λ a b. key_of a b 0 0) (sym x) (sym y)

    less : suc j - 2 ≡ j - 1
    less = omega arith

    run_at : (step_run p (suc j)).0 ≡ (j - 1) / (last.0 - 1) + 1
    run_at = unfold step_run in ap₂ (λ (x : ℕ) (k : Round). x / (k.0 - 1) + 1) less (sym e)

    round-at : (step_round p (suc j)).0 ≡ (j - 1) % (last.0 - 1) + 2
    round-at = unfold step_round in rw (lt-leb (suc j) 1 (omega arith)) (ap₂ (λ (x : ℕ) (k : Round). x % (k.0 - 1) + 2) less (sym e))
