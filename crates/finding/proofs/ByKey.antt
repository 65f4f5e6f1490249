-- Frames by key: skipping those below a key, and finding one among frames that rise.
-- Assumes nothing.
use Prim.Native.Nat.{ℕ, ◌+◌, ◌≤◌, ◌<◌}
use mathlib.Core.Path.{◌≡◌, refl, sym, ap, ap₂, ◌∙◌}
use mathlib.Core.Logic.{◌≢◌}
use mathlib.Core.Bool.{true, false, ◌&&◌}
use mathlib.Core.List.{List, [], ◌∷◌}
use mathlib.Core.Option.{none}
use native.Mathlib.Omega.{arith}
use lib.Dec.{eqb, leb, ltb}
use borrow.Author.Tests.{eqb-true, ltb-true, ltb-false, leb-true, le-leb}
use Rattle.sets.proofs.Tests.{cases, is_false, and_l, and_r}
use Rattle.schedule.specs.declared.rounds.Run.{Run}
use Rattle.schedule.specs.declared.rounds.Round.{Round}
use Rattle.sheet.specs.Sheet.{Frame}
use Rattle.sheet.specs.Playing.{find_frame}
use Rattle.finding.specs.Frames.{key_of, frame_key, rising, skip_frames}

-- The first frame of those that are left.
pub skip-low : (least : ℕ) (fs : List Frame) (f : Frame) (rest : List Frame) → skip_frames least fs ≡ f ∷ rest → least ≤ frame_key f
unfolding skip_frames
skip-low least [] f rest e = let z : ◌≡◌ {A = ℕ} 0 1 = cc in absurd (omega arith)
skip-low least (g ∷ gs) f rest e =
    cases (ltb (frame_key g) least)
    (λ x. skip-low least gs f rest (rw x at e))
    (λ x. let same : g ∷ gs ≡ f ∷ rest = rw x at e in
    let is : g ≡ f = cc in
    omega (arith, ltb-false (frame_key g) least x, ap frame_key is))

-- Frames that rise.
rising-lower : (low least : ℕ) (fs : List Frame) → low ≤ least → rising least fs ≡ true → rising low fs ≡ true
unfolding rising
rising-lower low least [] l e = refl
rising-lower low least (f ∷ fs) l e =
    let key = leb-true least (frame_key f) (and_l (leb least (frame_key f)) (rising (frame_key f + 1) fs) e) in
    rw (le-leb low (frame_key f) (omega arith)) (and_r (leb least (frame_key f)) (rising (frame_key f + 1) fs) e)

pub rising-rest : (least : ℕ) (f : Frame) (fs : List Frame) → rising least (f ∷ fs) ≡ true → rising (frame_key f + 1) fs ≡ true
unfolding rising
rising-rest least f fs e = and_r (leb least (frame_key f)) (rising (frame_key f + 1) fs) e

pub rising-skipped : (least : ℕ) (fs : List Frame) → rising 0 fs ≡ true → rising 0 (skip_frames least fs) ≡ true
unfolding skip_frames
rising-skipped least [] e = e
rising-skipped least (f ∷ fs) e =
    cases (ltb (frame_key f) least)
    (λ x. rw x (rising-skipped least fs (rising-lower 0 (frame_key f + 1) fs (omega arith) (rising-rest 0 f fs e))))
    (λ x. rw x e)

module _ (t : Run) (k : Round) (q i : ℕ) where
  -- A frame with another key is passed over.
  find-other : (f : Frame) (fs : List Frame) → frame_key f ≢ key_of t.0 k.0 q i → find_frame t k q i (f ∷ fs) ≡ find_frame t k q i fs
  unfolding find_frame frame_key
  find-other f fs ne =
      let a = eqb f.run.0 t.0 in
      let b = eqb f.round.0 k.0 in
      let c = eqb f.sender q in
      let d = eqb f.receiver i in
      let no : ((a && b) && (c && d)) ≡ false =
      is_false ((a && b) && (c && d)) (λ x. let ab = and_l (a && b) (c && d) x in
      let cd = and_r (a && b) (c && d) x in
      ne (ap₂ (λ x y. key_of x y f.sender f.receiver) (eqb-true f.run.0 t.0 (and_l a b ab)) (eqb-true f.round.0 k.0 (and_r a b ab))
      ∙ ap₂ (λ x y. key_of t.0 k.0 x y) (eqb-true f.sender q (and_l c d cd)) (eqb-true f.receiver i (and_r c d cd)))) in
      rw no refl

  find_past : (least : ℕ) (fs : List Frame) → rising least fs ≡ true → key_of t.0 k.0 q i < least → find_frame t k q i fs ≡ none
  unfolding rising
  find_past least [] e l = unfold find_frame in refl
  find_past least (f ∷ fs) e l =
      let key = leb-true least (frame_key f) (and_l (leb least (frame_key f)) (rising (frame_key f + 1) fs) e) in
      find-other f fs (λ x. absurd (omega arith)) ∙ find_past (frame_key f + 1) fs (rising-rest least f fs e) (omega arith)

  -- No frame has the key if the first is past it.
  pub find_none : (fs : List Frame) (f : Frame) (rest : List Frame) → rising 0 fs ≡ true → fs ≡ f ∷ rest → key_of t.0 k.0 q i < frame_key f
      → find_frame t k q i fs ≡ none
  find_none fs f rest e x l = find_past (frame_key f) fs (low fs x e) l
    where
      low : (gs : List Frame) → gs ≡ f ∷ rest → rising 0 gs ≡ true → rising (frame_key f) gs ≡ true
      low gs y r = rw y (unfold rising in rw (le-leb (frame_key f) (frame_key f) (omega arith)) (rising-rest 0 f rest (rw y at r)))

  -- Skipping frames below the key changes nothing.
  pub find-skipped : (least : ℕ) (fs : List Frame) → least ≤ key_of t.0 k.0 q i → find_frame t k q i (skip_frames least fs) ≡ find_frame t k q i fs
  unfolding skip_frames
  find-skipped least [] l = refl
  find-skipped least (f ∷ fs) l =
      cases (ltb (frame_key f) least)
      (λ x. let low = ltb-true (frame_key f) least x in
      rw x (find-skipped least fs l ∙ sym (find-other f fs (λ y. absurd (omega arith)))))
      (λ x. rw x refl)
