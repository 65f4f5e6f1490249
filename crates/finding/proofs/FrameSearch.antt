-- Finding a frame line.
-- Assumes nothing.
use Prim.Native.Nat.{ℕ, ◌+◌, ◌-◌, ◌≤◌, ◌<◌}
use mathlib.Core.Path.{◌≡◌, refl, sym, ap, ◌∙◌}
use mathlib.Core.Logic.{◌≢◌}
use mathlib.Core.Bool.{true}
use mathlib.Core.List.{List, [], ◌∷◌}
use mathlib.Core.Option.{Option, none}
use native.Mathlib.Omega.{arith}
use lib.ListN.{length, take, drop}
use borrow.Author.Tests.{eq-eqb, lt-ltb, le-ltb}
use Rattle.schedule.specs.declared.rounds.Run.{Run}
use Rattle.schedule.specs.declared.rounds.Round.{Round}
use Rattle.sheet.specs.Playing.{find_frame}
use Rattle.hexadecimal.specs.Bytes.{byte_at}
use Rattle.hexadecimal.proofs.Bytes.{byte-below}
use Rattle.text.proofs.LineEnds.{lines_none, lines_at}
use Rattle.finding.specs.Frames.{line_frame, frames_of, frames_in, key_of, frame_key, rising, Rising, skip_frames}
use Rattle.finding.specs.Places.{line_stop, line_at, frame_at}
use Rattle.finding.proofs.ByKey.{skip-low, rising-skipped, find_none, find-skipped}

-- Equal keys have equal bytes.
pub key-same : (t k q i t' k' q' i' : ℕ) → k < 256 → q < 256 → i < 256 → k' < 256 → q' < 256 → i' < 256 → key_of t k q i ≡ key_of t' k' q' i'
    → (t ≡ t') × (k ≡ k') × (q ≡ q') × (i ≡ i')
unfolding key_of
key-same t k q i t' k' q' i' a b c a' b' c' e = (omega arith, omega arith, omega arith, omega arith)

-- Frame lines, and the first of them.
module _ (text : List ℕ) where
  frames-none : length text ≡ 0 → frames_in text ≡ []
  unfolding frames_in frames_of
  frames-none l = ap frames_of (lines_none text 0 (omega arith))

  frames-at : 0 < length text → frames_in text ≡ line_frame (line_at text 0) ∷ frames_in (drop (line_stop text 0 + 1) text)
  unfolding frames_in frames_of line_at
  frames-at l = ap frames_of (lines_at text 0 l)

  abbrev line : List ℕ
  line = line_at text 0

  abbrev key : List ℕ → ℕ
  key l = key_of (byte_at l 0) (byte_at l 1) (byte_at l 2) (byte_at l 3)

  -- With what the code has in hand: the line's end e and its key n.
  module _ (e n : ℕ) (ends : e ≡ line_stop text 0) (en : n ≡ key (take e text)) where
    key_here : n ≡ frame_key (line_frame line)
    unfolding line_at frame_key line_frame
    key_here = en ∙ ap (λ m. key (take m text)) (let z : e ≡ line_stop text 0 - 0 = omega (arith, ends) in z)

    -- Skipping lines with keys below `least`.
    pub skip_stop : (least : ℕ) → 0 < length text → least ≤ n → frames_in text ≡ skip_frames least (frames_in text)
    unfolding skip_frames
    skip_stop least l h = rw (frames-at l, le-ltb (frame_key (line_frame line)) least (omega (arith, key_here))) refl

    pub skip-line : (least : ℕ) → 0 < length text → n < least → skip_frames least (frames_in (drop (e + 1) text)) ≡ skip_frames least (frames_in text)
    unfolding skip_frames
    skip-line least l h =
        ap (λ m. skip_frames least (frames_in (drop (m + 1) text))) ends
        ∙ sym (rw (frames-at l, lt-ltb (frame_key (line_frame line)) least (omega (arith, key_here))) refl)

  pub skip-end : (least : ℕ) → length text ≡ 0 → frames_in text ≡ skip_frames least (frames_in text)
  unfolding skip_frames
  skip-end least l = rw (frames-none l) refl

-- The frame that is looked for among the frame lines `text`, by those that are left, `rest`, where the search stops.
module _ (text rest : List ℕ) (t : Run) (k : Round) (q i w : ℕ) (ew : w ≡ key_of t.0 k.0 q i) where
  abbrev found : List ℕ → Option (List ℕ)
  found m = find_frame t k q i (frames_in m)

  module _ (stops : frames_in rest ≡ skip_frames w (frames_in text)) where
    same : found rest ≡ found text
    same = ap (find_frame t k q i) stops ∙ find-skipped t k q i w (frames_in text) (omega arith)

    pub search-end : length rest ≡ 0 → none ≡ found text
    unfolding find_frame
    search-end l = sym (ap (find_frame t k q i) (frames-none rest l)) ∙ same

    -- With what the code has in hand: the line's end e and its key n.
    module _ (e n : ℕ) (ends : e ≡ line_stop rest 0) (en : n ≡ key rest (take e rest)) (l : 0 < length rest) where
      abbrev here : List ℕ
      here = line_at rest 0

      pub search-hit : k.0 < 256 → q < 256 → i < 256 → n ≡ w → frame_at rest 0 ≡ found text
      unfolding frame_at find_frame line_frame frame_key
      search-hit bk bq bi s =
          let (et, ek, eq, ei) = key-same (byte_at here 0) (byte_at here 1) (byte_at here 2) (byte_at here 3) t.0 k.0 q i
          (byte-below here 1) (byte-below here 2) (byte-below here 3) bk bq bi (sym (key_here rest e n ends en) ∙ s ∙ ew) in
          rw (
            lt-ltb 0 (length rest) l,
            frames-at rest l,
            eq-eqb (byte_at here 0) t.0 et,
            eq-eqb (byte_at here 1) k.0 ek,
            eq-eqb (byte_at here 2) q eq,
            eq-eqb (byte_at here 3) i ei,
          ) refl
          ∙ same

      pub search-none : Rising text → n ≢ w → none ≡ found text
      search-none up ne =
          let first = frames-at rest l in
          let after = frames_in (drop (line_stop rest 0 + 1) rest) in
          let low = skip-low w (frames_in text) (line_frame here) after (sym stops ∙ first) in
          let up' : rising 0 (frames_in rest) ≡ true = rw stops (rising-skipped w (frames_in text) up) in
          sym (find_none t k q i (frames_in rest) (line_frame here) after up' first (omega (arith, key_here rest e n ends en))) ∙ same
