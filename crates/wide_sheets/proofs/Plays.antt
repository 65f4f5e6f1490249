-- A widened sheet is played alike.
-- Assumes nothing.
use Prim.Native.Nat.{ℕ, zero, suc, ◌+◌, ◌*◌, ◌≤◌, ◌<◌}
use mathlib.Core.Path.{◌≡◌, refl, sym, ◌∙◌, ap, ap₂}
use mathlib.Core.Logic.{◌≢◌}
use mathlib.Core.Bool.{◌&&◌, ◌||◌, cond}
use mathlib.Core.List.{List, [], ◌∷◌, ◌++◌, map, map-append}
use mathlib.Core.Option.{some}
use native.Mathlib.Omega.{arith}
use lib.Dec.{eqb, ltb}
use lib.ListN.{length, get_or, take, drop, length-map}
use lib.Seq.{take-append_seam}
use borrow.Author.Tests.{eqb-true, eq-eqb, ne_eqb, lt-ltb, le-ltb}
use Rattle.codec.specs.Codec.{Width, one, two}
use Rattle.sets.specs.Sets.{member}
use Rattle.sets.specs.Structure.{held_at}
use Rattle.sets.proofs.Tests.{cases}
use Rattle.refusals.specs.Outcome.{taken, refused}
use Rattle.plan.specs.Listed.{listed}
use Rattle.schedule.specs.declared.rounds.Run.{Run}
use Rattle.schedule.specs.declared.rounds.Round.{Round}
use Rattle.schedule.specs.Schedule.{steps, step_run, step_round}
use Rattle.tree.specs.Places.{cell_count}
use Rattle.protocol.specs.Limits.{sheet_most, output_needed, cells_needed}
use Rattle.protocol.specs.Listing.{as_set}
use Rattle.protocol.specs.Rounds.{Board}
use Rattle.protocol.specs.Calls.{is_taken}
use Rattle.protocol.specs.Session.{Boards, board_at, at}
use Rattle.sheet.specs.declared.head.Head.{Head}
use Rattle.sheet.specs.Sheet.{Frame, Reading, wrong_at, reading}
use Rattle.sheet.specs.Playing.{find_frame, decoded, sheet_adversary, part, replace_part, setting, final_boards, printed, board_line, print_boards, final_cells, Play, refused_play, play_head, playing, refusal_text, bench_prints}
use Rattle.sheet.proofs.Sheets.{GoodHead, sheet-head}
use Rattle.widening.specs.Widening.{wide, wide_record, wide_board, wide_setting}
use Rattle.widening.specs.Claims.{NarrowSetting}
use Rattle.widening.proofs.Mapped.{take-map, drop-map}
use Rattle.widening.proofs.Calls.{decode-wide}
use Rattle.widening.proofs.Sessions.{session-same}
use Rattle.wide_sheets.specs.WideText.{wide_text, wide_printed, wide_play}
use Rattle.wide_sheets.specs.Claims.{SheetsSame}
use Rattle.wide_sheets.proofs.Splitting.{text-longer}
use Rattle.wide_sheets.proofs.Readings.{wide_frame, wide_reading, reading-wide, reading-span}
use Rattle.wide_sheets.proofs.Prints.{decisions-small, none-wide, printed-wide}

-- Faulty boards send the same values.
found-wide : (t : Run) (k : Round) (q i : ℕ) (fs : List Frame) → decoded two (find_frame t k q i (map wide_frame fs)) ≡ decoded one (find_frame t k q i fs)
unfolding find_frame decoded wide_frame
found-wide t k q i [] = refl
found-wide t k q i (f ∷ fs) =
    let ih = found-wide t k q i fs in
    cases ((eqb f.run.0 t.0 && eqb f.round.0 k.0) && (eqb f.sender q && eqb f.receiver i))
    (λ e. rw e (ap some (decode-wide f.values)))
    (λ e. rw e ih)

replace-wide : (n i : ℕ) (new cells : List ℕ) → replace_part n i (map wide new) (map wide cells) ≡ map wide (replace_part n i new cells)
unfolding replace_part
replace-wide n i new cells =
    let c = cell_count n in
    let past = drop (i * c + c) cells in
    (λ j. take-map wide (i * c) cells j ++ (map wide new ++ drop-map wide (i * c + c) cells j))
    ∙ ap (λ x. map wide (take (i * c) cells) ++ x) (sym (map-append wide new past))
    ∙ sym (map-append wide (take (i * c) cells) (new ++ past))

module _ (h : Head) (m : h.plan.span ≤ 255) (word : h.word < 256) (fs : List Frame) (cells : List ℕ) where
  setting-wide : setting two h (map wide cells) ≡ wide_setting (setting one h cells)
  unfolding setting wide_setting part
  setting-wide = λ j. record {
    width = two;
    plan = h.plan;
    faulty = h.faulty;
    word = h.word;
    buffer = λ i.
        let c = cell_count h.plan.n in
        (ap (take c) (drop-map wide (i * c) cells) ∙ take-map wide c (drop (i * c) cells)) j;
  }

  adversary-wide : sheet_adversary two h (map wide_frame fs) ≡ sheet_adversary one h fs
  unfolding sheet_adversary
  adversary-wide = λ j i k q. found-wide (step_run h.plan (suc k)) (step_round h.plan (suc k)) q i fs j

  abbrev ending : Boards
  ending = final_boards one h fs cells

  abbrev wide_ending : Boards
  wide_ending = final_boards two h (map wide_frame fs) (map wide cells)

  narrow : NarrowSetting (setting one h cells)
  unfolding setting
  narrow = record { width = refl; span = m }

  board-wide : (i : ℕ) → board_at wide_ending i ≡ wide_board (board_at ending i)
  unfolding final_boards at setting
  board-wide i =
      ap₂ (λ s a. at s a (steps h.plan) i) setting-wide adversary-wide
      ∙ session-same (setting one h cells) narrow (sheet_adversary one h fs) (steps h.plan) i

  decision-small : (i : ℕ) → i < h.plan.n → (board_at ending i).rec.decision < 256
  unfolding final_boards at setting
  decision-small i l = decisions-small (setting one h cells) narrow (sheet_adversary one h fs) (steps h.plan) i l

  board-line-wide : (i : ℕ) (rest : List ℕ) → i < h.plan.n → board_line two h wide_ending i (wide_printed rest) ≡ wide_printed (board_line one h ending i rest)
  unfolding board_line wide_board wide_record
  board-line-wide i rest l =
      cases (member i h.faulty)
      (λ e. rw e)
      (λ e. rw e (cases (eqb i h.plan.dealer)
      (λ x. rw x (printed-wide i h.word 0 0 rest word))
      (λ x. let b = board_at ending i in
      let list = as_set b.rec.list in
      rw x (ap (λ (b : Board). printed two i b.rec.decision (as_set b.rec.list) (held_at (listed h.plan) (as_set b.rec.list)) (wide_printed rest)) (board-wide i)
      ∙ printed-wide i b.rec.decision list (held_at (listed h.plan) list) rest (decision-small i l)))))

  board-lines-wide : (i k : ℕ) → i + k ≤ h.plan.n → print_boards two h wide_ending i k ≡ wide_printed (print_boards one h ending i k)
  unfolding print_boards
  board-lines-wide i zero l = sym none-wide
  board-lines-wide i (suc k) l =
      ap (board_line two h wide_ending i) (board-lines-wide (suc i) k (omega arith)) ∙ board-line-wide i (print_boards one h ending (suc i) k) (omega arith)

  cells_wide : (k : ℕ) → final_cells h wide_ending k (map wide cells) ≡ map wide (final_cells h ending k cells)
  unfolding final_cells
  cells_wide zero = refl
  cells_wide (suc k) =
      let ih = cells_wide k in
      let rest = final_cells h ending k cells in
      let own : (board_at wide_ending k).cells ≡ map wide (board_at ending k).cells = unfold wide_board in ap (λ (b : Board). b.cells) (board-wide k) in
      cases (member k h.faulty || eqb k h.plan.dealer)
      (λ e. rw e ih)
      (λ e. rw e (ap₂ (replace_part h.plan.n k) own ih ∙ replace-wide h.plan.n k (board_at ending k).cells rest))

  play-head-wide : (out out' : List ℕ) → play_head two h (map wide_frame fs) (map wide cells) out' ≡ wide_play out' (play_head one h fs cells out)
  unfolding play_head wide_play is_taken
  play-head-wide out out' =
      let text = print_boards one h ending 0 h.plan.n in
      let text_same : print_boards two h wide_ending 0 h.plan.n ≡ wide_printed (take (length text) (text ++ drop (length text) out)) =
      board-lines-wide 0 h.plan.n (omega arith) ∙ sym (ap wide_printed (take-append_seam text (drop (length text) out))) in
      λ j. record {
        answer = taken (length (text_same j) ∷ []);
        cells = cells_wide h.plan.n j;
        out = text_same j ++ drop (length (text_same j)) out';
      }

-- A sheet that meets neither 20 nor 17, by what was read of it.
after_reading : Width → Reading → List ℕ → List ℕ → Play
after_reading w r cells out =
    let accepted = play_head w r.head r.frames cells out in
    cond (ltb (length cells) cells_needed) (refused_play (wrong_at 0 (refused 11)) cells out)
    (cond (eqb r.answer.number 0) accepted (refused_play r.answer cells out))

play-read : (w : Width) (text cells out : List ℕ) → length text ≤ sheet_most → output_needed w ≤ length out
    → playing w text cells out ≡ after_reading w (reading w text) cells out
unfolding playing after_reading
play-read w text cells out l room = rw (le-ltb sheet_most (length text) l, le-ltb (length out) (output_needed w) room)

played-wide : (r : Reading) (cells out out' : List ℕ) → r.head.plan.span ≤ 255 → (r.answer.number ≡ 0 → GoodHead r.head)
    → after_reading two (wide_reading r) (map wide cells) out' ≡ wide_play out' (after_reading one r cells out)
unfolding after_reading wide_reading refused_play wrong_at wide_play is_taken
played-wide r cells out out' m good =
    cases (ltb (length cells) cells_needed)
    (λ e. rw (length-map cells wide, e))
    (λ e. rw (length-map cells wide, e) (cases (eqb r.answer.number 0)
    (λ x. let g = good (eqb-true r.answer.number 0 x) in
    rw x (play-head-wide r.head m (omega (arith, g.word_below)) r.frames cells out out'))
    (λ x. rw (x, x))))

playing-wide : (text cells out out' : List ℕ) → length (wide_text text) ≤ sheet_most → output_needed one ≤ length out → output_needed two ≤ length out'
    → playing two (wide_text text) (map wide cells) out' ≡ wide_play out' (playing one text cells out)
playing-wide text cells out out' l room room' =
    play-read two (wide_text text) (map wide cells) out' l room'
    ∙ ap (λ r. after_reading two r (map wide cells) out') (reading-wide text)
    ∙ played-wide (reading one text) cells out out' (reading-span text) (sheet-head one text)
    ∙ sym (ap (wide_play out') (play-read one text cells out (omega (arith, text-longer text)) room))

-- What bench prints.
bench : Play → List ℕ
bench r =
    let first = get_or r.answer.values 0 0 in
    let lines = take first r.out in
    cond (eqb r.answer.number 0) lines (refusal_text r.answer.number first)

bench-is : (w : Width) (text cells out : List ℕ) → bench_prints w text cells out ≡ bench (playing w text cells out)
unfolding bench_prints bench
bench-is w text cells out = refl

bench-taken : (r : Play) (out : List ℕ) → r.answer.number ≡ 0 → bench (wide_play out r) ≡ wide_printed (bench r)
unfolding bench wide_play is_taken
bench-taken r out e =
    let text = wide_printed (take (get_or r.answer.values 0 0) r.out) in
    rw (eq-eqb r.answer.number 0 e) (take-append_seam text (drop (length text) out))

bench-refused : (r : Play) (out : List ℕ) → r.answer.number ≢ 0 → bench (wide_play out r) ≡ bench r
unfolding bench wide_play is_taken
bench-refused r out ne = let e = ne_eqb r.answer.number 0 ne in rw (e, e)

pub sheets-same : SheetsSame
sheets-same text cells out out' = record {
  span = reading-span text;
  longer = text-longer text;
  too_long = λ l. unfold playing in rw (lt-ltb sheet_most (length (wide_text text)) l);
  too_short = λ l short. unfold playing in rw (le-ltb sheet_most (length (wide_text text)) l, lt-ltb (length out') (output_needed two) short);
  played = playing-wide text cells out out';
  printed = λ l room room' e. prints l room room' ∙ bench-taken (playing one text cells out) out' e ∙ ap wide_printed (sym (bench-is one text cells out));
  refusal = λ l room room' ne. prints l room room' ∙ bench-refused (playing one text cells out) out' ne ∙ sym (bench-is one text cells out);
}
  where
    prints : length (wide_text text) ≤ sheet_most → output_needed one ≤ length out → output_needed two ≤ length out'
        → bench_prints two (wide_text text) (map wide cells) out' ≡ bench (wide_play out' (playing one text cells out))
    prints l room room' = bench-is two (wide_text text) (map wide cells) out' ∙ ap bench (playing-wide text cells out out' l room room')
