-- A sheet with no sets is played as the sheet with the one set 00.
-- Assumes nothing.
use Prim.Native.Nat.{ℕ, ◌≤◌}
use mathlib.Core.Path.{◌≡◌, refl, sym, ◌∙◌, ap}
use mathlib.Core.Logic.{◌≢◌}
use mathlib.Core.Bool.{◌&&◌, cond}
use mathlib.Core.List.{List, [], ◌∷◌}
use mathlib.Core.Option.{none}
use lib.Dec.{eqb, leb, ltb}
use lib.ListN.{length}
use borrow.Author.Tests.{eqb-true, eqb-false, ne_eqb, le-ltb}
use Rattle.codec.specs.Codec.{Width, one, two, encode, number_at}
use Rattle.sets.specs.Sets.{within, boards}
use Rattle.sets.specs.Structure.{tolerated}
use Rattle.sets.proofs.Tests.{cases}
use Rattle.refusals.specs.Outcome.{Outcome, taken, refused, and_then}
use Rattle.refusals.proofs.Outcomes.{both-taken}
use Rattle.settings.specs.declared.settings.Settings.{Settings}
use Rattle.settings.specs.Planning.{planning}
use Rattle.plan.specs.Calls.{planned}
use Rattle.protocol.specs.Limits.{sheet_most, output_needed, cells_needed}
use Rattle.sheet.specs.Sheet.{Line, head_settings, head_word, head_of, judge_head, Reading, wrong_at, refused_reading, read_frames, read_head, read_lines, reading}
use Rattle.sheet.specs.Playing.{Play, refused_play, play_head, playing}
use Rattle.sheet.proofs.Sheets.{frames-head, head-right, head-wrong, lines-head}
use Rattle.alike.specs.Alike.{AlikeHeads, reading_on}
use Rattle.alike.proofs.Sheets.{alike-plays}
use Rattle.empty_list.specs.Empty.{EmptyAndZero}
use Rattle.empty_list.specs.Sheets.{HasHead, empty_head, zero_head, SameSheets}
use Rattle.empty_list.proofs.AsZero.{same-sets, same-answers, alike, places-alike}

-- A sheet's lines are read from its head on.
reads : (w : Width) (text bytes : List ℕ) (ls : List Line) → HasHead text bytes ls → reading w text ≡ read_head w bytes ls
unfolding reading
reads w text bytes ls h = ap (read_lines w) h.splits ∙ lines-head w h.line ls bytes h.says

-- What is played of a sheet that was read.
abbrev plays : Width → List ℕ → List ℕ → Reading → Play
plays w cells out r = cond (eqb r.answer.number 0) (play_head w r.head r.frames cells out) (refused_play r.answer cells out)

module _ (n m x d b v f : ℕ) where
  abbrev empty : Width → List ℕ
  empty w = empty_head w n m x d b v f

  abbrev zero : Width → List ℕ
  zero w = zero_head w n m x d b v f

  -- A head's judgement, by its number of sets, its sets, its settings and the dealer's value.
  abbrev judged_by : ℕ → List ℕ → Settings → ℕ → Outcome
  judged_by count sets s word =
      and_then (planning n count sets s)
      (and_then (cond (leb s.span word) (refused 18) (taken [])) (cond (within f (boards n) && tolerated sets f) (taken []) (refused 23)))

  judged-by : (s : Settings) (word : ℕ) → judged_by 0 [] s word ≡ judged_by 1 (0 ∷ []) s word
  judged-by s word = λ j.
      and_then (same-answers.answers n s j)
      (and_then (cond (leb s.span word) (refused 18) (taken [])) (cond (within f (boards n) && same-sets.tolerate f j) (taken []) (refused 23)))

  judged-same : (w : Width) → judge_head w (empty w) ≡ judge_head w (zero w)
  unfolding judge_head number_at encode
  judged-same one = judged-by (head_settings one (empty one)) (head_word one (empty one))
  judged-same two = judged-by (head_settings two (empty two)) (head_word two (empty two))

  -- The plans that they name are such a pair if the heads are accepted.
  planned-by : (s : Settings) (word : ℕ) → (judged_by 0 [] s word).number ≡ 0 → EmptyAndZero (planned n [] s) (planned n (0 ∷ []) s)
  planned-by s word e = same-answers.plans n s (both-taken (planning n 0 [] s) _ e).0

  planned-same : (w : Width) → (judge_head w (empty w)).number ≡ 0 → EmptyAndZero (head_of w (empty w)).plan (head_of w (zero w)).plan
  unfolding judge_head head_of number_at encode
  planned-same one e = planned-by (head_settings one (empty one)) (head_word one (empty one)) e
  planned-same two e = planned-by (head_settings two (empty two)) (head_word two (empty two)) e

  faulty-same : (w : Width) → (head_of w (empty w)).faulty ≡ (head_of w (zero w)).faulty
  unfolding head_of encode
  faulty-same one = refl
  faulty-same two = refl

  word_same : (w : Width) → (head_of w (empty w)).word ≡ (head_of w (zero w)).word
  unfolding head_of number_at encode
  word_same one = refl
  word_same two = refl

  -- The heads are alike if they are accepted.
  heads-alike : (w : Width) → (judge_head w (empty w)).number ≡ 0 → AlikeHeads (head_of w (empty w)) (head_of w (zero w))
  heads-alike w e =
      let planned = planned-same w e in
      record {
        plan = alike (head_of w (empty w)).plan (head_of w (zero w)).plan planned;
        hold = places-alike (head_of w (empty w)).plan (head_of w (zero w)).plan planned;
        faulty = faulty-same w;
        word = word_same w;
      }

  module _ (w : Width) (ls : List Line) (cells out : List ℕ) where
    -- Both heads are accepted.
    accepted-same : (judge_head w (empty w)).number ≡ 0 → plays w cells out (read_head w (empty w) ls) ≡ plays w cells out (read_head w (zero w) ls)
    accepted-same e =
        let same = alike-plays (head_of w (empty w)) (head_of w (zero w)) (heads-alike w e) in
        let read = read_frames (head_of w (empty w)) none 2 ls in
        let right : read_head w (zero w) ls ≡ reading_on (head_of w (zero w)) read =
        head-right w (zero w) ls (ap (λ (o : Outcome). o.number) (sym (judged-same w)) ∙ e) ∙ same.reading none 2 ls in
        let over : plays w cells out read ≡ plays w cells out (reading_on (head_of w (zero w)) read) =
        ap (λ head. cond (eqb read.answer.number 0) (play_head w head read.frames cells out) (refused_play read.answer cells out)) (frames-head (head_of w (empty w)) none 2 ls)
        ∙ ap (λ x. cond (eqb read.answer.number 0) x (refused_play read.answer cells out)) (sym (same.playing w read.frames cells out)) in
        ap (plays w cells out) (head-right w (empty w) ls e) ∙ over ∙ ap (plays w cells out) (sym right)

    -- A refused head.
    refused-plays : (bytes : List ℕ) → (judge_head w bytes).number ≢ 0 → plays w cells out (read_head w bytes ls) ≡ refused_play (wrong_at 1 (judge_head w bytes)) cells out
    unfolding refused_reading wrong_at
    refused-plays bytes e = ap (plays w cells out) (head-wrong w bytes ls e) ∙ rw (ne_eqb (judge_head w bytes).number 0 e)

    heads-same : plays w cells out (read_head w (empty w) ls) ≡ plays w cells out (read_head w (zero w) ls)
    heads-same =
        cases (eqb (judge_head w (empty w)).number 0)
        (λ t. accepted-same (eqb-true (judge_head w (empty w)).number 0 t))
        (λ t. let wrong = eqb-false (judge_head w (empty w)).number 0 t in
        refused-plays (empty w) wrong
        ∙ ap (λ o. refused_play (wrong_at 1 o) cells out) (judged-same w)
        ∙ sym (refused-plays (zero w) (λ z. wrong (ap (λ (o : Outcome). o.number) (judged-same w) ∙ z))))

-- Playing a sheet that is not too long.
fitting : (w : Width) (text cells out : List ℕ) → length text ≤ sheet_most
    → playing w text cells out
    ≡ cond (ltb (length out) (output_needed w)) (refused_play (wrong_at 0 (refused 17)) cells out)
    (cond (ltb (length cells) cells_needed) (refused_play (wrong_at 0 (refused 11)) cells out) (plays w cells out (reading w text)))
unfolding playing
fitting w text cells out l = rw (le-ltb sheet_most (length text) l)

pub same-sheets : SameSheets
same-sheets w n m x d b v f ls empty-text zero-text cells out h k l l' =
    let then : Play → Play =
    λ y. cond (ltb (length out) (output_needed w)) (refused_play (wrong_at 0 (refused 17)) cells out)
    (cond (ltb (length cells) cells_needed) (refused_play (wrong_at 0 (refused 11)) cells out) y) in
    fitting w empty-text cells out l
    ∙ ap (λ r. then (plays w cells out r)) (reads w empty-text (empty_head w n m x d b v f) ls h)
    ∙ ap then (heads-same n m x d b v f w ls cells out)
    ∙ sym (fitting w zero-text cells out l' ∙ ap (λ r. then (plays w cells out r)) (reads w zero-text (zero_head w n m x d b v f) ls k))
