-- A sheet that is accepted: its head line, its head and its frames.
-- Assumes nothing.
use Prim.Native.Nat.{ℕ, ◌+◌, ◌/◌, ◌<◌}
use mathlib.Core.Path.{◌≡◌, refl, sym, ap, subst, ◌∙◌}
use mathlib.Core.Bool.{true, ◌&&◌}
use mathlib.Core.List.{List, [], ◌∷◌}
use mathlib.Core.Option.{none}
use native.Mathlib.Omega.{arith}
use lib.Dec.{eqb, leb}
use lib.ListN.{length, take, drop}
use borrow.Author.Tests.{eqb-true, eqb-false}
use Rattle.codec.specs.Codec.{current}
use Rattle.sets.specs.Sets.{member}
use Rattle.sets.proofs.Tests.{cases, and_l, and_r}
use Rattle.plan.specs.declared.plan.Plan.{Plan}
use Rattle.refusals.specs.Outcome.{Outcome}
use Rattle.sheet.specs.declared.head.Head.{Head}
use Rattle.sheet.specs.Sheet.{Line, lines, head_of, judge_head, wrong_at, reading}
use Rattle.sheet.proofs.Sheets.{frames-head}
use Rattle.hexadecimal.specs.Bytes.{is_text}
use Rattle.hexadecimal.proofs.Bytes.{all}
use Rattle.text.proofs.LineEnds.{stop}
use Rattle.finding.specs.Frames.{line_frame, frames_of, frames_in, frame_key, rising, Rising, line_key}
use Rattle.frame_lines.specs.FrameLines.{good_line, judge_line}
use Rattle.judging_frames.specs.Lines.{judge_lines}
use Rattle.reader.specs.Reading.{judge_top}
use Rattle.reader.proofs.WholeSheet.{Begun, sheet-begun, sheet-refused, sheet-answer, read-frames}

-- Lines that are accepted rise.
key-by-digits : (d : List ℕ) → frame_key (line_frame d) ≡ line_key d
unfolding frame_key line_frame line_key
key-by-digits d = refl

good-low : (p : Plan) (faulty least : ℕ) (d : List ℕ) → good_line p faulty least d ≡ true → leb least (line_key d) ≡ true
unfolding good_line
good-low p faulty least d e =
    let sender = member (line_frame d).sender faulty in
    let four = leb 4 (length d / 2) in
    let low = leb least (line_key d) in
    and_l low sender (and_r four (low && sender) (and_l (four && (low && sender)) _ e))

lines-rising : (p : Plan) (faulty : ℕ) (ls : List Line) (least number : ℕ) → (judge_lines p faulty least number ls).number ≡ 0 → rising least (frames_of ls) ≡ true
unfolding judge_lines judge_line rising frames_of wrong_at
lines-rising p faulty [] least number ok = refl
lines-rising p faulty (l ∷ ls) least number ok =
    let d = l.text in
    cases (l.ended && is_text d)
    (λ x. cases (good_line p faulty least d)
    (λ y. let rest : (judge_lines p faulty (line_key d + 1) (number + 1) ls).number ≡ 0 = rw (x, y) at ok in
    rw (key-by-digits d, good-low p faulty least d y) (lines-rising p faulty ls (line_key d + 1) (number + 1) rest))
    (λ y. absurd (let z : 24 ≡ 0 = rw (x, y) at ok in omega arith)))
    (λ x. absurd (let z : 21 ≡ 0 = rw x at ok in omega arith))

module _ (text : List ℕ) (ok : (reading current text).answer.number ≡ 0) where
  begun : Begun text (stop text 0) refl
  unfolding wrong_at
  begun =
      sheet-begun text (stop text 0) refl
      (cases (eqb (judge_top (lines text)).number 0)
      (λ x. eqb-true (judge_top (lines text)).number 0 x)
      (λ x. ap (λ o. o.number) (sym (sheet-refused text (stop text 0) refl (eqb-false (judge_top (lines text)).number 0 x))) ∙ ok))

  pub sheet-ended : stop text 0 < length text
  sheet-ended = begun.ended

  -- Its head is that of its first line's bytes.
  pub sheet-head : (reading current text).head ≡ head_of current (all (take (stop text 0) text))
  sheet-head =
      let h = head_of current (all (take (stop text 0) text)) in ap (λ r. r.head) begun.reads ∙ frames-head h none 2 (lines (drop (stop text 0 + 1) text))

  -- So it is the head that its first line's reading gives.
  pub sheet-given : (e : ℕ) (h : Head) → e ≡ stop text 0
      → ((judge_head current (all (take e text))).number ≡ 0 → h ≡ head_of current (all (take e text))) → h ≡ (reading current text).head
  sheet-given e h ends gives =
      subst (λ k. (judge_head current (all (take k text))).number ≡ 0 → h ≡ head_of current (all (take k text))) ends gives begun.accepted ∙ sym sheet-head

  pub sheet-frames : (reading current text).frames ≡ frames_in (drop (stop text 0 + 1) text)
  unfolding frames_in
  sheet-frames =
      let h = head_of current (all (take (stop text 0) text)) in
      ap (λ r. r.frames) begun.reads ∙ read-frames h (lines (drop (stop text 0 + 1) text)) none 2 (ap (λ r. r.answer.number) (sym begun.reads) ∙ ok)

  pub sheet-rising : Rising (drop (stop text 0 + 1) text)
  unfolding frames_in
  sheet-rising =
      let h = head_of current (all (take (stop text 0) text)) in
      lines-rising h.plan h.faulty (lines (drop (stop text 0 + 1) text)) 0 2
      (ap (λ (o : Outcome). o.number) (sym (sheet-answer text (stop text 0) refl begun)) ∙ ok)
