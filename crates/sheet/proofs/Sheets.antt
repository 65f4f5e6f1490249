-- What an accepted sheet meets: its head's numbers are in their limits, its plan is accepted, and its session is sound.
-- Assumes nothing.
use Prim.Native.Nat.{ℕ, suc, ◌+◌, ◌-◌, ◌*◌, ◌≤◌, ◌<◌}
use mathlib.Core.Path.{◌≡◌, refl, sym, ◌∙◌, ap, subst}
use mathlib.Core.Logic.{◌≢◌}
use mathlib.Core.Bool.{Bool, true, false, not, ◌&&◌, ◌||◌, cond}
use mathlib.Core.List.{List, [], ◌∷◌}
use mathlib.Core.Option.{Option, some, none}
use native.Mathlib.Omega.{arith}
use native.Mathlib.Nat.{mul-le-mul, mul-le-mul_right}
use lib.Dec.{eqb, leb, ltb}
use lib.ListN.{length, drop, replicate, length-drop}
use lib.Seq.{take-append_seam, length-take-le}
use borrow.Author.Tests.{eqb-true, eqb-false, eq-eqb, ne_eqb, leb-false, ltb-true}
use Rattle.codec.specs.Codec.{Width}
use Rattle.sets.specs.Sets.{within, boards}
use Rattle.sets.specs.Structure.{tolerated}
use Rattle.sets.proofs.Tests.{cases, and_l, and_r, or_r, not_f}
use Rattle.plan.specs.declared.plan.Plan.{Plan}
use Rattle.plan.specs.Listed.{listed}
use Rattle.refusals.specs.Outcome.{Outcome, taken, refused}
use Rattle.settings.specs.Planning.{planning}
use Rattle.plan.specs.Calls.{plan_on, judged, settings_of}
use Rattle.refusals.proofs.Outcomes.{passed, both-taken}
use Rattle.plan.proofs.Accepted.{accepted, planned-taken, planned-judged}
use Rattle.tree.specs.Places.{cell_count}
use Rattle.tree.proofs.Sizes.{cells-most}
use Rattle.protocol.specs.Limits.{cells_needed}
use Rattle.sheet.specs.declared.head.Head.{Head}
use Rattle.sheet.specs.Sheet.{Line, line_bytes, sets_place, head_length, head_boards, head_count, head_sets, head_settings, head_faulty, head_word, head_of, judge_head, Frame, frame_line, good_frame, Reading, wrong_at, refused_reading, add_frame, read_frames, read_head, read_lines, lines, reading}
use Rattle.sheet.specs.Playing.{part, setting}
use Rattle.protocol.specs.Session.{keeper, Sound}

-- What an accepted head meets.
pub record GoodHead (h : Head) : Type 0 where
  pub accepted : (judged h.plan).number ≡ 0
  pub word_below : h.word < h.plan.span
  pub faulty-within : within h.faulty (boards h.plan.n) ≡ true
  pub faulty-tolerated : tolerated (listed h.plan) h.faulty ≡ true

-- A head of its length has as many sets as it says.
pub sets-size : (w : Width) (bytes : List ℕ) → length bytes ≡ head_length w (head_count w bytes) → length (head_sets w bytes) ≡ head_count w bytes
sets-size w bytes e = length-take-le (head_count w bytes) (drop (sets_place w) bytes) (omega (arith, length-drop (sets_place w) bytes))

-- The plan that an accepted head names.
module _ (w : Width) (bytes : List ℕ) (ok : (planning (head_boards bytes) (length (head_sets w bytes)) (head_sets w bytes) (head_settings w bytes)).number ≡ 0) where
  plan-on : (head_of w bytes).plan ≡ plan_on (head_boards bytes) (head_sets w bytes) (head_settings w bytes)
  unfolding head_of
  plan-on = planned-taken (head_boards bytes) (head_sets w bytes) (head_settings w bytes) ok

  plan-n : (head_of w bytes).plan.n ≡ head_boards bytes
  unfolding plan_on
  plan-n = ap (λ (p : Plan). p.n) plan-on

  plan-span : (head_of w bytes).plan.span ≡ (head_settings w bytes).span
  unfolding plan_on
  plan-span = ap (λ (p : Plan). p.span) plan-on

  plan-listed : listed (head_of w bytes).plan ≡ head_sets w bytes
  unfolding plan_on listed
  plan-listed = ap listed plan-on ∙ take-append_seam (head_sets w bytes) (replicate (32 - length (head_sets w bytes)) 0)

  plan-judged : (judged (head_of w bytes).plan).number ≡ 0
  unfolding head_of
  plan-judged = ap (λ (o : Outcome). o.number) (planned-judged (head_boards bytes) (head_sets w bytes) (head_settings w bytes) ok) ∙ ok

-- A test that must hold does where nothing is refused.
not-refused : (b : Bool) (refuse : Outcome) → refuse.number ≢ 0 → (cond b (taken []) refuse).number ≡ 0 → b ≡ true
not-refused true refuse l e = refl
not-refused false refuse l e = absurd (l e)

-- An accepted head's bytes.
pub head-good : (w : Width) (bytes : List ℕ) → (judge_head w bytes).number ≡ 0 → GoodHead (head_of w bytes)
unfolding judge_head head_of
head-good w bytes e =
    let n = head_boards bytes in
    let s = head_count w bytes in
    let short = ltb (length bytes) (head_length w 0) in
    let uneven = not (eqb (length bytes) (head_length w s)) in
    let (sized, judgements) = passed (short || uneven) (refused 22) _ (omega arith) e in
    let whole : length bytes ≡ head_length w s = eqb-true (length bytes) (head_length w s) (not_f (eqb (length bytes) (head_length w s)) (or_r short uneven sized)) in
    let (plan, later) = both-taken (planning n s (head_sets w bytes) (head_settings w bytes)) _ judgements in
    let (word, faulty) = both-taken _ _ later in
    let inside = within (head_faulty w bytes) (boards n) in
    let borne = tolerated (head_sets w bytes) (head_faulty w bytes) in
    let both = not-refused (inside && borne) (refused 23) (omega arith) faulty in
    let ok = subst (λ c. (planning n c (head_sets w bytes) (head_settings w bytes)).number ≡ 0) (sym (sets-size w bytes whole)) plan in
    let span = (head_settings w bytes).span in
    let below = leb-false span (head_word w bytes) (passed (leb span (head_word w bytes)) (refused 18) (taken []) (omega arith) word).0 in
    record {
      accepted = plan-judged w bytes ok;
      word_below = subst (λ m. head_word w bytes < m) (sym (plan-span w bytes ok)) below;
      faulty-within = ap (λ k. within (head_faulty w bytes) (boards k)) (plan-n w bytes ok) ∙ and_l inside borne both;
      faulty-tolerated = ap (λ sets. tolerated sets (head_faulty w bytes)) (plan-listed w bytes ok) ∙ and_r inside borne both;
    }

-- Reading line by line: what each case leaves.
module _ (h : Head) (before : Option Frame) (line : ℕ) (l : Line) (ls : List Line) where
  pub frames-text : line_bytes l ≡ none → read_frames h before line (l ∷ ls) ≡ refused_reading h line (refused 21)
  unfolding read_frames
  frames-text e = rw (e, read_frames)

  pub frames-wrong : (bytes : List ℕ) → line_bytes l ≡ some bytes → good_frame h before bytes ≡ false → read_frames h before line (l ∷ ls) ≡ refused_reading h line (refused 24)
  unfolding read_frames
  frames-wrong bytes e b = rw (e, b, read_frames)

  pub frames-right : (bytes : List ℕ) → line_bytes l ≡ some bytes → good_frame h before bytes ≡ true
      → read_frames h before line (l ∷ ls) ≡ add_frame (frame_line bytes) (read_frames h (some (frame_line bytes)) (suc line) ls)
  unfolding read_frames
  frames-right bytes e b = rw (e, b, read_frames)

-- Reading frames keeps the head.
pub frames-head : (h : Head) (before : Option Frame) (line : ℕ) (ls : List Line) → (read_frames h before line ls).head ≡ h
unfolding read_frames refused_reading add_frame
frames-head h before line [] = refl
frames-head h before line (l ∷ ls) = go (λ f. frames-head h (some f) (suc line) ls) (line_bytes l) refl
  where
    go : ((f : Frame) → (read_frames h (some f) (suc line) ls).head ≡ h) → (o : Option (List ℕ)) → line_bytes l ≡ o → (read_frames h before line (l ∷ ls)).head ≡ h
    go ih none e = ap (λ (r : Reading). r.head) (frames-text h before line l ls e)
    go ih (some bytes) e =
        cases (good_frame h before bytes)
        (λ b. ap (λ (r : Reading). r.head) (frames-right h before line l ls bytes e b) ∙ ih (frame_line bytes))
        (λ b. ap (λ (r : Reading). r.head) (frames-wrong h before line l ls bytes e b))

pub head-right : (w : Width) (bytes : List ℕ) (ls : List Line) → (judge_head w bytes).number ≡ 0 → read_head w bytes ls ≡ read_frames (head_of w bytes) none 2 ls
unfolding read_head
head-right w bytes ls e = rw (eq-eqb (judge_head w bytes).number 0 e, read_head)

pub head-wrong : (w : Width) (bytes : List ℕ) (ls : List Line) → (judge_head w bytes).number ≢ 0 → read_head w bytes ls ≡ refused_reading (head_of w bytes) 1 (judge_head w bytes)
unfolding read_head
head-wrong w bytes ls e = rw (ne_eqb (judge_head w bytes).number 0 e, read_head)

pub lines-text : (w : Width) (l : Line) (ls : List Line) → line_bytes l ≡ none → read_lines w (l ∷ ls) ≡ refused_reading (head_of w []) 1 (refused 21)
unfolding read_lines
lines-text w l ls e = rw (e, read_lines)

pub lines-head : (w : Width) (l : Line) (ls : List Line) (bytes : List ℕ) → line_bytes l ≡ some bytes → read_lines w (l ∷ ls) ≡ read_head w bytes ls
unfolding read_lines
lines-head w l ls bytes e = rw (e, read_lines)

refused-number : (h : Head) (line : ℕ) (o : Outcome) → (refused_reading h line o).answer.number ≡ o.number
unfolding refused_reading wrong_at
refused-number h line o = refl

-- The head of lines that are accepted.
lines-good : (w : Width) (ls : List Line) → (read_lines w ls).answer.number ≡ 0 → GoodHead (read_lines w ls).head
unfolding read_lines refused_reading
lines-good w [] e = absurd (let z : 22 ≡ 0 = sym (refused-number (head_of w []) 1 (refused 22)) ∙ e in omega arith)
lines-good w (l ∷ ls) e = go (line_bytes l) refl
  where
    go : (o : Option (List ℕ)) → line_bytes l ≡ o → GoodHead (read_lines w (l ∷ ls)).head
    go none x = absurd (let z : 21 ≡ 0 = sym (ap (λ (r : Reading). r.answer.number) (lines-text w l ls x) ∙ refused-number (head_of w []) 1 (refused 21)) ∙ e in omega arith)
    go (some bytes) x =
        let y = lines-head w l ls bytes x in
        let e' : (read_head w bytes ls).answer.number ≡ 0 = ap (λ (r : Reading). r.answer.number) (sym y) ∙ e in
        let good : (judge_head w bytes).number ≡ 0 =
        cases (eqb (judge_head w bytes).number 0)
        (λ t. eqb-true (judge_head w bytes).number 0 t)
        (λ t. let wrong = head-wrong w bytes ls (eqb-false (judge_head w bytes).number 0 t) in
        sym (ap (λ (r : Reading). r.answer.number) wrong ∙ refused-number (head_of w bytes) 1 (judge_head w bytes)) ∙ e') in
        subst GoodHead (sym (ap (λ (r : Reading). r.head) (y ∙ head-right w bytes ls good) ∙ frames-head (head_of w bytes) none 2 ls)) (head-good w bytes good)

-- An accepted sheet's head.
pub sheet-head : (w : Width) (text : List ℕ) → (reading w text).answer.number ≡ 0 → GoodHead (reading w text).head
unfolding reading
sheet-head w text e = lines-good w (lines text) e

-- At most seven boards.
pub few-boards : (h : Head) → GoodHead h → h.plan.n ≤ 7
unfolding judged
few-boards h g = (accepted h.plan.n h.plan.count (listed h.plan) (settings_of h.plan) g.accepted).admission.most-boards

-- The cells of all boards.
pub parts-most : (n : ℕ) → n ≤ 7 → n * cell_count n ≤ cells_needed
parts-most n l = mul-le-mul l (cells-most n l)

pub part_length : (n i : ℕ) (cells : List ℕ) → n ≤ 7 → i < n → cells_needed ≤ length cells → length (part n i cells) ≡ cell_count n
unfolding part
part_length n i cells l b room =
    let c = cell_count n in
    let fits : suc i * c ≤ n * c = mul-le-mul_right c b in
    let next : suc i * c ≡ c + i * c = omega arith in
    length-take-le c (drop (i * c) cells) (omega (arith, length-drop (i * c) cells, parts-most n l))

-- The session that an accepted sheet plays is sound.
pub sheet-sound : (w : Width) (text cells : List ℕ) → (reading w text).answer.number ≡ 0 → cells_needed ≤ length cells → Sound (setting w (reading w text).head cells)
unfolding setting keeper
sheet-sound w text cells e room =
    let h = (reading w text).head in
    let g = sheet-head w text e in
    record {
      accepted = g.accepted;
      tolerable = g.faulty-tolerated;
      word_below = λ _. g.word_below;
      cells-enough = λ i k.
          let below : i < h.plan.n = ltb-true i h.plan.n (and_l (ltb i h.plan.n) _ k) in
          omega (arith, part_length h.plan.n i cells (few-boards h g) below room);
    }
