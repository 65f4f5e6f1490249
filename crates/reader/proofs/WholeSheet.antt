-- What the code judges of a sheet is what reading it says.
-- Assumes nothing.
use Prim.Native.Nat.{ℕ, suc, ◌+◌, ◌-◌, ◌*◌, ◌/◌, ◌≤◌, ◌<◌}
use mathlib.Core.Path.{◌≡◌, refl, sym, ap, ap₂, ◌∙◌}
use mathlib.Core.Logic.{◌≢◌}
use mathlib.Core.Bool.{Bool, true, false, not, ◌&&◌}
use mathlib.Core.List.{List, [], ◌∷◌}
use mathlib.Core.Option.{Option, some, none}
use native.Mathlib.Nat.{mul-le-mul_right, suc-mul}
use native.Mathlib.Numerals.{add-one}
use native.Mathlib.Omega.{arith}
use lib.Dec.{eqb, leb, ltb}
use lib.ListN.{length, get_or, take, drop, drop_of_length-le}
use lib.Seq.{length-take-le}
use borrow.Author.Tests.{eq-eqb, ne_eqb, eqb-true, eqb-false, lt-ltb, le-ltb, ltb-true, ltb-false, le-leb, leb-true, leb-false}
use Rattle.codec.specs.Codec.{current}
use Rattle.sets.specs.Sets.{member}
use Rattle.sets.proofs.Tests.{cases, same_test, and_l, and_r}
use Rattle.schedule.specs.Schedule.{has_round}
use Rattle.std.specs.Prelude.{Err}
use Rattle.judging_frames.specs.declared.lines.RefusedLine.{RefusedLine}
use Rattle.refusals.specs.Outcome.{refusal}
use Rattle.refusals.proofs.Outcomes.{refusal-number}
use Rattle.protocol.specs.Nodes.{due}
use Rattle.sheet.specs.declared.head.Head.{Head}
use Rattle.sheet.specs.Sheet.{Line, lines, line_bytes, head_of, judge_head, Frame, frame_line, earlier, rises, good_frame, wrong_at, refused_reading, add_frame, read_frames, read_head, read_lines, reading}
use Rattle.hexadecimal.specs.Bytes.{is_text, byte_at, bytes_from}
use Rattle.hexadecimal.proofs.Bytes.{all, bytes-length, bytes_drop, text-bytes, text-none, byte-below, all-at}
use Rattle.heads.proofs.Heads.{head-sized}
use Rattle.sheet.proofs.Sheets.{frames-text, frames-wrong, frames-right}
use Rattle.text.proofs.LineEnds.{stop}
use Rattle.frame_lines.specs.FrameLines.{expected, good_line, judge_line}
use Rattle.judging_frames.specs.Lines.{judged_says, judged_line, JudgedAs, judge_lines}
use Rattle.reader.specs.Reading.{judge_top}
use Rattle.finding.specs.Frames.{line_frame, frames_of, key_of, line_key}
use Rattle.reader.proofs.Places.{top-none, first_line}

-- Two numbers of two parts each, the second below w.
earlier-key : (w a b x y : ℕ) → x < w → y < w → earlier a b (ltb x y) ≡ ltb (a * w + x) (b * w + y)
unfolding earlier
earlier-key w a b x y lx ly =
    cases (ltb a b)
    (λ s. let h : suc a * w ≤ b * w = mul-le-mul_right w (ltb-true a b s) in
    let z : ltb (a * w + x) (b * w + y) ≡ true = lt-ltb (a * w + x) (b * w + y) (omega (arith, suc-mul a w)) in
    rw (s, z) refl)
    (λ s. cases (eqb a b)
    (λ t. let z : ltb x y ≡ ltb (a * w + x) (a * w + y) = same_test (ltb x y) (ltb (a * w + x) (a * w + y))
    (λ u. lt-ltb (a * w + x) (a * w + y) (omega (arith, ltb-true x y u)))
    (λ u. lt-ltb x y (omega (arith, ltb-true (a * w + x) (a * w + y) u))) in
    rw (s, t) (z ∙ ap (λ k. ltb (a * w + x) (k * w + y)) (eqb-true a b t)))
    (λ t. let n : a ≢ b = eqb-false a b t in
    let h : suc b * w ≤ a * w = mul-le-mul_right w (let z : b < a = omega (arith, ltb-false a b s) in z) in
    let z : ltb (a * w + x) (b * w + y) ≡ false = le-ltb (a * w + x) (b * w + y) (omega (arith, suc-mul b w)) in
    rw (s, t, z) refl))

-- Lines rise by the key.
rises-key : (d e : List ℕ) → rises (some (line_frame d)) (line_frame e) ≡ leb (line_key d + 1) (line_key e)
unfolding rises line_frame line_key key_of
rises-key d e =
    let q = byte_at d 2 * 256 + byte_at d 3 in
    let r = byte_at e 2 * 256 + byte_at e 3 in
    let k = byte_at d 1 * 65536 + q in
    let l = byte_at e 1 * 65536 + r in
    let d1 = byte-below d 1 in
    let d2 = byte-below d 2 in
    let d3 = byte-below d 3 in
    let e1 = byte-below e 1 in
    let e2 = byte-below e 2 in
    let e3 = byte-below e 3 in
    ap (λ b. earlier (byte_at d 0) (byte_at e 0) (earlier (byte_at d 1) (byte_at e 1) b)) (earlier-key 256 (byte_at d 2) (byte_at e 2) (byte_at d 3) (byte_at e 3) d3 e3)
    ∙ ap (earlier (byte_at d 0) (byte_at e 0)) (earlier-key 65536 (byte_at d 1) (byte_at e 1) q r (omega arith) (omega arith))
    ∙ earlier-key 16777216 (byte_at d 0) (byte_at e 0) k l (omega arith) (omega arith)
    ∙ ap₂ leb (let z : suc (byte_at d 0 * 16777216 + k) ≡ line_key d + 1 = omega arith in z) (let z : byte_at e 0 * 16777216 + l ≡ line_key e = omega arith in z)

-- A frame line by its bytes is the line by its digits.
frame_same : (d : List ℕ) → frame_line (all d) ≡ line_frame d
unfolding frame_line line_frame bytes_from
frame_same d =
    let m = length d / 2 in
    let values : drop 4 (all d) ≡ bytes_from d 4 (m - 4) =
    cases (leb 4 m)
    (λ x. bytes_drop d 4 0 m (leb-true 4 m x))
    (λ x. let few = leb-false 4 m x in
    drop_of_length-le (all d) {i = 4} (omega (arith, bytes-length d 0 m)) ∙ ap (bytes_from d 4) (let z : 0 ≡ m - 4 = omega arith in z)) in
    rw (all-at d 0, all-at d 1, all-at d 2, all-at d 3, values) refl

-- A least key that stands for the frame before.
abbrev Follows : Option Frame → ℕ → Type 0
Follows before least = (d : List ℕ) → rises before (line_frame d) ≡ leb least (line_key d)

follows-none : Follows none 0
unfolding rises
follows-none d = sym (le-leb 0 (line_key d) (omega arith))

and_assoc : (a b c : Bool) → ((a && b) && c) ≡ (a && (b && c))
and_assoc true b c = refl
and_assoc false b c = refl

good-same : (h : Head) (before : Option Frame) (least : ℕ) (d : List ℕ) → Follows before least
    → good_frame h before (all d) ≡ good_line h.plan h.faulty least d
unfolding good_frame good_line expected
good-same h before least d f =
    rw (frame_same d, bytes-length d 0 (length d / 2), f d)
    (ap (λ x. (leb 4 (length d / 2) && (leb least (line_key d) && member (line_frame d).sender h.faulty)) && x)
    (and_assoc (not (member (line_frame d).receiver h.faulty)) (has_round h.plan (line_frame d).run (line_frame d).round)
    (due h.plan (line_frame d).sender (line_frame d).receiver (line_frame d).round)))

-- The bytes of a line.
module _ (l : Line) where
  bytes-some : l.ended ≡ true → is_text l.text ≡ true → line_bytes l ≡ some (all l.text)
  unfolding line_bytes
  bytes-some e t = rw e (text-bytes l.text t)

  bytes-none : (l.ended && is_text l.text) ≡ false → line_bytes l ≡ none
  unfolding line_bytes
  bytes-none e =
      cases l.ended
      (λ x. rw x (text-none l.text (let z : is_text l.text ≡ false = rw x at e in z)))
      (λ x. rw x refl)

-- What is judged of the frame lines.
module _ (h : Head) where
  read-judged : (ls : List Line) (before : Option Frame) (least number : ℕ) → Follows before least
      → (read_frames h before number ls).answer ≡ judge_lines h.plan h.faulty least number ls
  unfolding read_frames judge_lines judge_line add_frame refused_reading
  read-judged [] before least number f = refl
  read-judged (l ∷ ls) before least number f =
      let d = l.text in
      let good = good-same h before least d f in
      let rest = judge_lines h.plan h.faulty (line_key d + 1) (number + 1) ls in
      let ih : (read_frames h (some (line_frame d)) (number + 1) ls).answer ≡ rest = read-judged ls (some (line_frame d)) (line_key d + 1) (number + 1) (rises-key d) in
      cases (l.ended && is_text d)
      (λ x. let some_bytes = bytes-some l (and_l l.ended (is_text d) x) (and_r l.ended (is_text d) x) in
      cases (good_line h.plan h.faulty least d)
      (λ y. ap (λ r. r.answer) (frames-right h before number l ls (all d) some_bytes (good ∙ y))
      ∙ ap₂ (λ g k. (read_frames h (some g) k ls).answer) (frame_same d) (sym (add-one number))
      ∙ ih ∙ sym (rw (x, y) refl))
      (λ y. ap (λ r. r.answer) (frames-wrong h before number l ls (all d) some_bytes (good ∙ y)) ∙ sym (rw (x, y) refl)))
      (λ x. ap (λ r. r.answer) (frames-text h before number l ls (bytes-none l x)) ∙ sym (rw x refl))

  frames-step : (before : Option Frame) (number : ℕ) (l : Line) (ls : List Line)
      → ((g : Option Frame) → (read_frames h g (suc number) ls).answer.number ≡ 0 → (read_frames h g (suc number) ls).frames ≡ frames_of ls)
      → (read_frames h before number (l ∷ ls)).answer.number ≡ 0 → (read_frames h before number (l ∷ ls)).frames ≡ line_frame l.text ∷ frames_of ls
  unfolding add_frame refused_reading wrong_at
  frames-step before number l ls rest ok =
      cases (l.ended && is_text l.text)
      (λ x. let some_bytes = bytes-some l (and_l l.ended (is_text l.text) x) (and_r l.ended (is_text l.text) x) in
      cases (good_frame h before (all l.text))
      (λ y. let good = frames-right h before number l ls (all l.text) some_bytes y in
      ap (λ r. r.frames) good
      ∙ ap₂ ◌∷◌ (frame_same l.text) (rest (some (frame_line (all l.text))) (ap (λ r. r.answer.number) (sym good) ∙ ok)))
      (λ y. absurd (let z : 24 ≡ 0 = ap (λ r. r.answer.number) (sym (frames-wrong h before number l ls (all l.text) some_bytes y)) ∙ ok in omega arith)))
      (λ x. absurd (let z : 21 ≡ 0 = ap (λ r. r.answer.number) (sym (frames-text h before number l ls (bytes-none l x))) ∙ ok in omega arith))

  -- The frames of lines that are accepted.
  pub read-frames : (ls : List Line) (before : Option Frame) (number : ℕ) → (read_frames h before number ls).answer.number ≡ 0
      → (read_frames h before number ls).frames ≡ frames_of ls
  unfolding read_frames frames_of
  read-frames [] before number ok = refl
  read-frames (l ∷ ls) before number ok = frames-step before number l ls (λ g. read-frames ls g (suc number)) ok

-- The head's line, and the lines after it.
top-refused : (ls : List Line) → (judge_top ls).number ≢ 0 → (read_lines current ls).answer ≡ wrong_at 1 (judge_top ls)
unfolding read_lines judge_top read_head refused_reading
top-refused [] bad = refl
top-refused (l ∷ ls) bad =
    let d = l.text in
    cases (l.ended && is_text d)
    (λ x. let bytes = bytes-some l (and_l l.ended (is_text d) x) (and_r l.ended (is_text d) x) in
    let same : judge_top (l ∷ ls) ≡ judge_head current (all d) = rw x refl in
    let wrong : eqb (judge_head current (all d)).number 0 ≡ false = ne_eqb (judge_head current (all d)).number 0 (λ z. bad (ap (λ o. o.number) same ∙ z)) in
    rw (bytes, read_lines) (rw (wrong, read_head) (rw x refl)))
    (λ x. rw (bytes-none l x, read_lines) (rw x refl))

-- What an accepted head gives.
record Topped (l : Line) (ls : List Line) : Type 0 where
  ends : l.ended ≡ true
  accepted : (judge_head current (all l.text)).number ≡ 0
  reads : read_lines current (l ∷ ls) ≡ read_frames (head_of current (all l.text)) none 2 ls

top_taken : (l : Line) (ls : List Line) → (judge_top (l ∷ ls)).number ≡ 0 → Topped l ls
unfolding read_lines judge_top read_head
top_taken l ls ok =
    let d = l.text in
    cases (l.ended && is_text d)
    (λ x. let bytes = bytes-some l (and_l l.ended (is_text d) x) (and_r l.ended (is_text d) x) in
    let good : (judge_head current (all d)).number ≡ 0 = rw x at ok in
    record {
      ends = and_l l.ended (is_text d) x;
      accepted = good;
      reads = rw (bytes, read_lines) (rw (eq-eqb (judge_head current (all d)).number 0 good, read_head));
    })
    (λ x. absurd (let z : 21 ≡ 0 = rw x at ok in omega arith))

-- A sheet whose first line is accepted; e is where that line ends.
module _ (text : List ℕ) (e : ℕ) (ends : e ≡ stop text 0) where
  -- Its digits.
  abbrev top : List ℕ
  top = take e text

  pub record Begun : Type 0 where
    pub ended : e < length text
    pub accepted : (judge_head current (all top)).number ≡ 0
    pub reads : reading current text ≡ read_frames (head_of current (all top)) none 2 (lines (drop (e + 1) text))

  pub sheet-begun : (judge_top (lines text)).number ≡ 0 → Begun
  unfolding reading
  sheet-begun ok =
      cases (ltb 0 (length text))
      (λ x. let l : Line = record { text = top; ended = ltb e (length text) } in
      let rest = lines (drop (e + 1) text) in
      let at : lines text ≡ l ∷ rest = first_line text e (omega (arith, ltb-true 0 (length text) x)) ends in
      let t = top_taken l rest (ap (λ ls. (judge_top ls).number) (sym at) ∙ ok) in
      record { ended = ltb-true e (length text) t.ends; accepted = t.accepted; reads = ap (read_lines current) at ∙ t.reads })
      (λ x. absurd (let z : 22 ≡ 0 = ap (λ o. o.number) (sym (top-none text e (let y : length text ≡ 0 = omega (arith, ltb-false 0 (length text) x) in y))) ∙ ok in omega arith))

  pub sheet-refused : (judge_top (lines text)).number ≢ 0 → (reading current text).answer ≡ wrong_at 1 (judge_top (lines text))
  unfolding reading
  sheet-refused bad = top-refused (lines text) bad

  -- What is said of a head that is refused.
  pub sheet-said : {A : Type 0} (r : RefusedLine) → refusal r.why ≡ judge_top (lines text) → r.line ≡ 1
      → JudgedAs {A = A} (reading current text).answer (length text) (Err r)
  unfolding judged_says judged_line wrong_at
  sheet-said r same first =
      let bad = refusal-number r.why in
      let x : (reading current text).answer ≡ wrong_at r.line (refusal r.why) =
      sheet-refused (λ z. bad (ap (λ o. o.number) same ∙ z)) ∙ ap₂ wrong_at (sym first) (sym same) in
      record { says = sym x; line = sym (ap (λ o. get_or o.values 0 0) x); few = omega (arith, first) }

  module _ (b : Begun) where
    pub sheet-far : 14 ≤ e
    sheet-far = omega (arith, head-sized top b.accepted, length-take-le e text (let z : e ≤ length text = omega (arith, b.ended) in z))

    pub sheet-answer : (reading current text).answer ≡ judge_lines (head_of current (all top)).plan (head_of current (all top)).faulty 0 2 (lines (drop (e + 1) text))
    sheet-answer = ap (λ r. r.answer) b.reads ∙ read-judged (head_of current (all top)) (lines (drop (e + 1) text)) none 0 2 follows-none
