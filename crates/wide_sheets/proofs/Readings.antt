-- A widened sheet is read alike: the same head, the same number and line, and frames with 00 before each value.
-- Assumes nothing.
use Prim.Native.Nat.{ℕ, suc, ◌+◌, ◌*◌, ◌≤◌, ◌<◌}
use mathlib.Core.Path.{◌≡◌, refl, sym, ◌∙◌, ap, ap₂, subst}
use mathlib.Core.Bool.{Bool, true, false, not, ◌&&◌, ◌||◌, cond}
use mathlib.Core.List.{List, [], ◌∷◌, map}
use mathlib.Core.Option.{Option, some, none}
use native.Mathlib.Omega.{arith}
use lib.Dec.{eqb, leb, ltb}
use lib.ListN.{length, get_or, take, drop}
use lib.Seq.{get_or-drop}
use borrow.Author.Tests.{eqb-true, eqb-false, eq-eqb, ne_eqb, ltb-true, ltb-false, lt-ltb, le-ltb, le-leb}
use Rattle.codec.specs.Codec.{Width, one, two, number_at}
use Rattle.hexadecimal.specs.Hex.{digit, join_byte, bytes_of}
use Rattle.hexadecimal.proofs.Bytes.{bytes-are, all-at, byte-below}
use Rattle.sets.specs.Sets.{within, boards}
use Rattle.sets.specs.Structure.{tolerated}
use Rattle.sets.proofs.Tests.{cases}
use Rattle.refusals.specs.Outcome.{Outcome, taken, refused, and_then}
use Rattle.settings.specs.Planning.{planning}
use Rattle.plan.specs.Calls.{void_plan, plan_on, planned}
use Rattle.sheet.specs.declared.head.Head.{Head}
use Rattle.sheet.specs.Sheet.{Line, lines, line_bytes, head_boards, head_sets, head_settings, head_of, judge_head, Frame, frame_line, rises, good_frame, Reading, refused_reading, add_frame, read_frames, read_head, read_lines, reading}
use Rattle.sheet.proofs.Sheets.{frames-text, frames-wrong, frames-right, frames-head, head-right, head-wrong, lines-text, lines-head}
use Rattle.widening.specs.Widening.{wide_bytes}
use Rattle.wide_sheets.specs.WideText.{head_value, frame_value, wide_digits, wide_line, wide_lines, wide_text}
use Rattle.wide_sheets.proofs.Splitting.{sheet-lines-wide}

-- The bytes of a widened line.
unfoldable mapped : (List ℕ → List ℕ) → Option (List ℕ) → Option (List ℕ)
mapped f none = none
mapped f (some bytes) = some (f bytes)

module _ (is_value : ℕ → Bool) where
  wide_at : ℕ → List ℕ → List ℕ
  wide_at k [] = []
  wide_at k (x ∷ xs) = let rest = x ∷ wide_at (suc k) xs in cond (is_value k) (0 ∷ rest) rest

  join-value : (k : ℕ) (x y : Option ℕ) (o : Option (List ℕ)) → is_value k ≡ true
      → join_byte (digit 0x30) (digit 0x30) (join_byte x y (mapped (wide_at (suc k)) o)) ≡ mapped (wide_at k) (join_byte x y o)
  unfolding join_byte digit mapped wide_at
  join-value k none y o e = refl
  join-value k (some h) none o e = refl
  join-value k (some h) (some l) none e = refl
  join-value k (some h) (some l) (some bytes) e = rw e

  join-other : (k : ℕ) (x y : Option ℕ) (o : Option (List ℕ)) → is_value k ≡ false
      → join_byte x y (mapped (wide_at (suc k)) o) ≡ mapped (wide_at k) (join_byte x y o)
  unfolding join_byte mapped wide_at
  join-other k none y o e = refl
  join-other k (some h) none o e = refl
  join-other k (some h) (some l) none e = refl
  join-other k (some h) (some l) (some bytes) e = rw e

  digits-wide : (k : ℕ) (cs : List ℕ) → bytes_of (wide_digits is_value k cs) ≡ mapped (wide_at k) (bytes_of cs)
  unfolding bytes_of wide_digits mapped wide_at
  digits-wide k [] = refl
  digits-wide k (c ∷ []) = refl
  digits-wide k (c ∷ (e ∷ cs)) =
      let ih = digits-wide (suc k) cs in
      cases (is_value k)
      (λ x. rw x (ap (λ o. join_byte (digit 0x30) (digit 0x30) (join_byte (digit c) (digit e) o)) ih ∙ join-value k (digit c) (digit e) (bytes_of cs) x))
      (λ x. rw x (ap (join_byte (digit c) (digit e)) ih ∙ join-other k (digit c) (digit e) (bytes_of cs) x))

  line-bytes-wide : (l : Line) → line_bytes (wide_line is_value l) ≡ mapped (wide_at 0) (line_bytes l)
  unfolding line_bytes wide_line mapped
  line-bytes-wide l = cases l.ended (λ e. rw e (digits-wide 0 l.text)) (λ e. rw e)

-- Frames.
unfoldable pub wide_frame : Frame → Frame
wide_frame f = record { run = f.run; round = f.round; sender = f.sender; receiver = f.receiver; values = wide_bytes f.values }

abbrev wide_frame_bytes : List ℕ → List ℕ
wide_frame_bytes bytes = wide_at frame_value 0 bytes

-- From byte number 4 on all are values.
frame-value : (k : ℕ) → 4 ≤ k → frame_value k ≡ true
unfolding frame_value
frame-value k l = le-leb _ k (omega arith)

values-wide : (k : ℕ) (vs : List ℕ) → 4 ≤ k → wide_at frame_value k vs ≡ wide_bytes vs
unfolding wide_at wide_bytes
values-wide k [] l = refl
values-wide k (v ∷ vs) l = rw (frame-value k l) (ap (λ t. 0 ∷ (v ∷ t)) (values-wide (suc k) vs (omega arith)))

frame-line-wide : (bytes : List ℕ) → frame_line (wide_frame_bytes bytes) ≡ wide_frame (frame_line bytes)
unfolding frame_line wide_at frame_value wide_frame wide_bytes
frame-line-wide [] = refl
frame-line-wide (a ∷ []) = refl
frame-line-wide (a ∷ (b ∷ [])) = refl
frame-line-wide (a ∷ (b ∷ (c ∷ []))) = refl
frame-line-wide (a ∷ (b ∷ (c ∷ (d ∷ vs)))) =
    ap (λ x. record { run = record { 0 = a }; round = record { 0 = b }; sender = c; receiver = d; values = x }) (values-wide 4 vs (omega arith))

enough-wide : (bytes : List ℕ) → leb 4 (length (wide_frame_bytes bytes)) ≡ leb 4 (length bytes)
unfolding wide_at frame_value
enough-wide [] = refl
enough-wide (a ∷ []) = refl
enough-wide (a ∷ (b ∷ [])) = refl
enough-wide (a ∷ (b ∷ (c ∷ []))) = refl
enough-wide (a ∷ (b ∷ (c ∷ (d ∷ vs)))) =
    le-leb 4 (length (wide_frame_bytes (a ∷ (b ∷ (c ∷ (d ∷ vs)))))) (omega arith) ∙ sym (le-leb 4 (length (a ∷ (b ∷ (c ∷ (d ∷ vs))))) (omega arith))

unfoldable wide_before : Option Frame → Option Frame
wide_before none = none
wide_before (some f) = some (wide_frame f)

rises-wide : (before : Option Frame) (f : Frame) → rises (wide_before before) (wide_frame f) ≡ rises before f
unfolding rises wide_before wide_frame
rises-wide none f = refl
rises-wide (some g) f = refl

good-wide : (h : Head) (before : Option Frame) (bytes : List ℕ) → good_frame h (wide_before before) (wide_frame_bytes bytes) ≡ good_frame h before bytes
unfolding good_frame wide_frame
good-wide h before bytes = rw (frame-line-wide bytes, enough-wide bytes, rises-wide before (frame_line bytes))

unfoldable pub wide_reading : Reading → Reading
wide_reading r = record { answer = r.answer; head = r.head; frames = map wide_frame r.frames }

frames-wide : (h : Head) (before : Option Frame) (line : ℕ) (ls : List Line)
    → read_frames h (wide_before before) line (map (wide_line frame_value) ls) ≡ wide_reading (read_frames h before line ls)
unfolding wide_reading wide_before refused_reading add_frame mapped
frames-wide h before line [] = unfold read_frames in refl
frames-wide h before line (l ∷ ls) = go (λ f. frames-wide h (some f) (suc line) ls) (line_bytes l) refl
  where
    go : ((f : Frame) → read_frames h (wide_before (some f)) (suc line) (map (wide_line frame_value) ls) ≡ wide_reading (read_frames h (some f) (suc line) ls))
        → (o : Option (List ℕ)) → line_bytes l ≡ o
        → read_frames h (wide_before before) line (wide_line frame_value l ∷ map (wide_line frame_value) ls) ≡ wide_reading (read_frames h before line (l ∷ ls))
    go ih none e =
        frames-text h (wide_before before) line (wide_line frame_value l) (map (wide_line frame_value) ls) (line-bytes-wide frame_value l ∙ ap (mapped wide_frame_bytes) e)
        ∙ sym (ap wide_reading (frames-text h before line l ls e))
    go ih (some bytes) e =
        let e' : line_bytes (wide_line frame_value l) ≡ some (wide_frame_bytes bytes) = line-bytes-wide frame_value l ∙ ap (mapped wide_frame_bytes) e in
        cases (good_frame h before bytes)
        (λ g. frames-right h (wide_before before) line (wide_line frame_value l) (map (wide_line frame_value) ls) (wide_frame_bytes bytes) e' (good-wide h before bytes ∙ g)
        ∙ ap (λ f. add_frame f (read_frames h (some f) (suc line) (map (wide_line frame_value) ls))) (frame-line-wide bytes)
        ∙ ap (add_frame (wide_frame (frame_line bytes))) (ih (frame_line bytes))
        ∙ sym (ap wide_reading (frames-right h before line l ls bytes e g)))
        (λ g. frames-wrong h (wide_before before) line (wide_line frame_value l) (map (wide_line frame_value) ls) (wide_frame_bytes bytes) e' (good-wide h before bytes ∙ g)
        ∙ sym (ap wide_reading (frames-wrong h before line l ls bytes e g)))

-- The head.
abbrev wide_head : List ℕ → List ℕ
wide_head bytes = wide_at head_value 0 bytes

-- Past the dealer's value none is one.
head-value : (k : ℕ) → 6 ≤ k → head_value k ≡ false
unfolding head_value
head-value k l = simp (ne_eqb k 1 (omega arith), ne_eqb k 2 (omega arith), ne_eqb k 5 (omega arith))

past-wide : (k : ℕ) (bytes : List ℕ) → 6 ≤ k → wide_at head_value k bytes ≡ bytes
unfolding wide_at
past-wide k [] l = refl
past-wide k (x ∷ xs) l = rw (head-value k l) (ap (λ t. x ∷ t) (past-wide (suc k) xs (omega arith)))

zero_high : (x : ℕ) → 0 * 256 + x ≡ x
zero_high x = omega arith

-- A length with three bytes more is below, or equal to, what has three more exactly if it was before.
ltb-three : (l a : ℕ) → ltb (suc (suc (suc l))) (suc (suc (suc a))) ≡ ltb l a
ltb-three l a =
    cases (ltb l a)
    (λ e. lt-ltb (suc (suc (suc l))) (suc (suc (suc a))) (omega (arith, ltb-true l a e)) ∙ sym e)
    (λ e. le-ltb (suc (suc (suc l))) (suc (suc (suc a))) (omega (arith, ltb-false l a e)) ∙ sym e)

eqb-three : (l a x y : ℕ) → x ≡ l + 3 → y ≡ a + 3 → eqb x y ≡ eqb l a
eqb-three l a x y ex ey =
    cases (eqb l a)
    (λ e. eq-eqb x y (omega (arith, eqb-true l a e)) ∙ sym e)
    (λ e. ne_eqb x y (let z = eqb-false l a e in omega arith) ∙ sym e)

module _ (n m x d b v : ℕ) (rest : List ℕ) where
  abbrev narrow : List ℕ
  narrow = n ∷ (m ∷ (x ∷ (d ∷ (b ∷ (v ∷ rest)))))

  abbrev broad : List ℕ
  broad = n ∷ (0 ∷ (m ∷ (0 ∷ (x ∷ (d ∷ (b ∷ (0 ∷ (v ∷ rest))))))))

  broad-is : wide_head narrow ≡ broad
  unfolding wide_at head_value
  broad-is = ap (λ t. n ∷ (0 ∷ (m ∷ (0 ∷ (x ∷ (d ∷ (b ∷ (0 ∷ (v ∷ t))))))))) (past-wide 6 rest (omega arith))

  abbrev s : ℕ
  s = get_or rest 0 0

  abbrev sets : List ℕ
  sets = take s (drop 1 rest)

  faulty-same : get_or broad (10 + s) 0 ≡ get_or narrow (7 + s) 0
  faulty-same = sym (get_or-drop 10 broad s 0) ∙ get_or-drop 7 narrow s 0

  head-six : head_of two broad ≡ head_of one narrow
  unfolding head_of number_at
  head-six = λ j. record {
    plan = planned n sets (record { dealer = d; span = zero_high m j; default = zero_high x j; depth = b });
    faulty = faulty-same j;
    word = zero_high v j;
  }

  judge-six : judge_head two broad ≡ judge_head one narrow
  unfolding judge_head number_at
  judge-six = λ j.
      cond (ltb-three (length narrow) 8 j || not (eqb-three (length narrow) (8 + s) (length broad) (11 + s) (omega arith) (omega arith) j)) (refused 22)
      (and_then (planning n s sets (record { dealer = d; span = zero_high m j; default = zero_high x j; depth = b }))
      (and_then (cond (leb (zero_high m j) (zero_high v j)) (refused 18) (taken []))
      (cond (within (faulty-same j) (boards n) && tolerated sets (faulty-same j)) (taken []) (refused 23))))

head-wide : (bytes : List ℕ) → head_of two (wide_head bytes) ≡ head_of one bytes
unfolding head_of number_at wide_at head_value
head-wide [] = refl
head-wide (n ∷ []) = refl
head-wide (n ∷ (m ∷ [])) = λ j. record {
  plan = planned n [] (record { dealer = 0; span = zero_high m j; default = 0; depth = 0 });
  faulty = 0;
  word = 0;
}
head-wide (n ∷ (m ∷ (x ∷ []))) = λ j. record {
  plan = planned n [] (record { dealer = 0; span = zero_high m j; default = zero_high x j; depth = 0 });
  faulty = 0;
  word = 0;
}
head-wide (n ∷ (m ∷ (x ∷ (d ∷ [])))) = λ j. record {
  plan = planned n [] (record { dealer = d; span = zero_high m j; default = zero_high x j; depth = 0 });
  faulty = 0;
  word = 0;
}
head-wide (n ∷ (m ∷ (x ∷ (d ∷ (b ∷ []))))) = λ j. record {
  plan = planned n [] (record { dealer = d; span = zero_high m j; default = zero_high x j; depth = b });
  faulty = 0;
  word = 0;
}
head-wide (n ∷ (m ∷ (x ∷ (d ∷ (b ∷ (v ∷ rest)))))) = ap (head_of two) (broad-is n m x d b v rest) ∙ head-six n m x d b v rest

judge-wide : (bytes : List ℕ) → judge_head two (wide_head bytes) ≡ judge_head one bytes
unfolding judge_head wide_at head_value
judge-wide [] = refl
judge-wide (n ∷ []) = refl
judge-wide (n ∷ (m ∷ [])) = refl
judge-wide (n ∷ (m ∷ (x ∷ []))) = refl
judge-wide (n ∷ (m ∷ (x ∷ (d ∷ [])))) = refl
judge-wide (n ∷ (m ∷ (x ∷ (d ∷ (b ∷ []))))) = refl
judge-wide (n ∷ (m ∷ (x ∷ (d ∷ (b ∷ (v ∷ rest)))))) = ap (judge_head two) (broad-is n m x d b v rest) ∙ judge-six n m x d b v rest

-- The whole sheet.
read-head-wide : (bytes : List ℕ) (ls : List Line) → read_head two (wide_head bytes) (map (wide_line frame_value) ls) ≡ wide_reading (read_head one bytes ls)
unfolding wide_reading wide_before refused_reading
read-head-wide bytes ls =
    let same = judge-wide bytes in
    cases (eqb (judge_head one bytes).number 0)
    (λ e. let ok = eqb-true (judge_head one bytes).number 0 e in
    head-right two (wide_head bytes) (map (wide_line frame_value) ls) (ap (λ (o : Outcome). o.number) same ∙ ok)
    ∙ ap (λ h. read_frames h none 2 (map (wide_line frame_value) ls)) (head-wide bytes)
    ∙ frames-wide (head_of one bytes) none 2 ls
    ∙ sym (ap wide_reading (head-right one bytes ls ok)))
    (λ e. let bad = eqb-false (judge_head one bytes).number 0 e in
    head-wrong two (wide_head bytes) (map (wide_line frame_value) ls) (λ z. bad (sym (ap (λ (o : Outcome). o.number) same) ∙ z))
    ∙ ap₂ (λ h o. refused_reading h 1 o) (head-wide bytes) same
    ∙ sym (ap wide_reading (head-wrong one bytes ls bad)))

read-lines-wide : (ls : List Line) → read_lines two (wide_lines ls) ≡ wide_reading (read_lines one ls)
unfolding wide_reading wide_lines refused_reading mapped wide_at
read-lines-wide [] = unfold read_lines in ap (λ h. refused_reading h 1 (refused 22)) (head-wide [])
read-lines-wide (l ∷ ls) = go (line_bytes l) refl
  where
    go : (o : Option (List ℕ)) → line_bytes l ≡ o → read_lines two (wide_lines (l ∷ ls)) ≡ wide_reading (read_lines one (l ∷ ls))
    go none e =
        lines-text two (wide_line head_value l) (map (wide_line frame_value) ls) (line-bytes-wide head_value l ∙ ap (mapped wide_head) e)
        ∙ ap (λ h. refused_reading h 1 (refused 21)) (head-wide [])
        ∙ sym (ap wide_reading (lines-text one l ls e))
    go (some bytes) e =
        lines-head two (wide_line head_value l) (map (wide_line frame_value) ls) (wide_head bytes) (line-bytes-wide head_value l ∙ ap (mapped wide_head) e)
        ∙ read-head-wide bytes ls
        ∙ sym (ap wide_reading (lines-head one l ls bytes e))

pub reading-wide : (text : List ℕ) → reading two (wide_text text) ≡ wide_reading (reading one text)
unfolding reading
reading-wide text = ap (read_lines two) (sheet-lines-wide text) ∙ read-lines-wide (lines text)

-- The span of a sheet in one-byte values is a byte.
bytes_below : (line bytes : List ℕ) → bytes_of line ≡ some bytes → (k : ℕ) → get_or bytes k 0 < 256
bytes_below line bytes e k = subst (λ x. x < 256) (sym (ap (λ l. get_or l k 0) (bytes-are line bytes e) ∙ all-at line k)) (byte-below line k)

line-below : (l : Line) (bytes : List ℕ) → line_bytes l ≡ some bytes → (k : ℕ) → get_or bytes k 0 < 256
unfolding line_bytes
line-below l bytes e k =
    cases l.ended
    (λ x. bytes_below l.text bytes (rw x at e) k)
    (λ x. let w : none ≡ some bytes = rw x at e in let z : ◌≡◌ {A = ℕ} 0 1 = cc in absurd (omega arith))

head-span : (bytes : List ℕ) → get_or bytes 1 0 < 256 → (head_of one bytes).plan.span ≤ 255
unfolding head_of planned plan_on void_plan number_at
head-span bytes l =
    let sets = head_sets one bytes in
    cases (eqb (planning (head_boards bytes) (length sets) sets (head_settings one bytes)).number 0)
    (λ e. rw e (omega arith))
    (λ e. rw e (omega arith))

read-head-head : (w : Width) (bytes : List ℕ) (ls : List Line) → (read_head w bytes ls).head ≡ head_of w bytes
unfolding refused_reading
read-head-head w bytes ls =
    cases (eqb (judge_head w bytes).number 0)
    (λ e. ap (λ (r : Reading). r.head) (head-right w bytes ls (eqb-true (judge_head w bytes).number 0 e)) ∙ frames-head (head_of w bytes) none 2 ls)
    (λ e. ap (λ (r : Reading). r.head) (head-wrong w bytes ls (eqb-false (judge_head w bytes).number 0 e)))

lines-span : (ls : List Line) → (read_lines one ls).head.plan.span ≤ 255
unfolding refused_reading
lines-span [] = unfold read_lines in head-span [] (omega arith)
lines-span (l ∷ ls) = go (line_bytes l) refl
  where
    go : (o : Option (List ℕ)) → line_bytes l ≡ o → (read_lines one (l ∷ ls)).head.plan.span ≤ 255
    go none e = subst (λ (h : Head). h.plan.span ≤ 255) (sym (ap (λ (r : Reading). r.head) (lines-text one l ls e))) (head-span [] (omega arith))
    go (some bytes) e =
        subst (λ (h : Head). h.plan.span ≤ 255) (sym (ap (λ (r : Reading). r.head) (lines-head one l ls bytes e) ∙ read-head-head one bytes ls))
        (head-span bytes (line-below l bytes e 1))

pub reading-span : (text : List ℕ) → (reading one text).head.plan.span ≤ 255
unfolding reading
reading-span text = lines-span (lines text)
