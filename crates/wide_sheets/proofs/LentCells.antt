-- What lent cells held before shows in no answer and no line: all cells of a board's part are cleared as it begins.
-- Assumes nothing.
use Prim.Native.Nat.{ℕ, zero, suc, ◌+◌, ◌≤◌, ◌<◌}
use mathlib.Core.Path.{◌≡◌, refl, sym, ◌∙◌, ap}
use mathlib.Core.Bool.{true}
use mathlib.Core.List.{List, [], ◌∷◌, ◌++◌}
use mathlib.Core.Option.{some}
use native.Mathlib.Omega.{arith}
use lib.Dec.{eqb, ltb}
use lib.ListN.{length, replicate, drop, drop_of_length-le}
use borrow.Author.Tests.{lt-ltb, eqb-true, ltb-false}
use Rattle.codec.specs.Codec.{Width, blank}
use Rattle.sets.specs.Sets.{member}
use Rattle.sets.specs.Structure.{held_at}
use Rattle.sets.proofs.Tests.{cases}
use Rattle.refusals.specs.Outcome.{taken}
use Rattle.plan.specs.Listed.{listed}
use Rattle.schedule.specs.Schedule.{steps}
use Rattle.tree.specs.Places.{cell_count}
use Rattle.protocol.specs.Limits.{sheet_most, output_needed, cells_needed}
use Rattle.protocol.specs.Listing.{as_set}
use Rattle.protocol.specs.Rounds.{board_of, Board, cleared}
use Rattle.protocol.specs.Calls.{fresh_record, taking, frame_of, closing}
use Rattle.protocol.specs.Session.{Adversary, Setting, begun, hears, at, keeper, Sound}
use Rattle.synchronous.proofs.Synchronous.{told, at-related, begun-shape}
use Rattle.sheet.specs.declared.head.Head.{Head}
use Rattle.sheet.specs.Sheet.{Frame, reading}
use Rattle.sheet.specs.Playing.{sheet_adversary, part, setting, final_boards, printed, board_line, print_boards, refused_play, play_head, playing}
use Rattle.sheet.proofs.Sheets.{GoodHead, sheet-head, few-boards, part_length, sheet-sound}
use Rattle.wide_sheets.specs.Claims.{SameLines, LentCells}

-- A part of cells, cleared.
cleared-part : (w : Width) (n i : ℕ) (cells : List ℕ) → n ≤ 7 → i < n → cells_needed ≤ length cells
    → cleared w n (part n i cells) ≡ replicate (cell_count n) (blank w) ++ []
cleared-part w n i cells few below room =
    ap (λ x. replicate (cell_count n) (blank w) ++ x)
    (drop_of_length-le (part n i cells) {i = cell_count n} (omega (arith, part_length n i cells few below room)))

module _ (w : Width) (h : Head) (good : GoodHead h) (fs : List Frame) (cells cells' : List ℕ)
    (room : cells_needed ≤ length cells) (room' : cells_needed ≤ length cells')
    (sound : Sound (setting w h cells)) (sound' : Sound (setting w h cells')) where
  abbrev s : Setting
  s = setting w h cells

  abbrev s' : Setting
  s' = setting w h cells'

  abbrev a : Adversary
  a = sheet_adversary w h fs

  begun-same : (i : ℕ) → i < h.plan.n → keeper s i ≡ true → begun s i ≡ begun s' i
  unfolding setting keeper
  begun-same i below k =
      let few = few-boards h good in
      let clear = cleared-part w h.plan.n i cells few below room ∙ sym (cleared-part w h.plan.n i cells' few below room') in
      begun-shape s a sound i k ∙ ap (board_of w (fresh_record h.plan i)) clear ∙ sym (begun-shape s' a sound' i k)

  -- What is heard from a board: of those that keep cells alone, what they hold.
  told_same : (j : ℕ) → ((i : ℕ) → i < h.plan.n → keeper s i ≡ true → at s a j i ≡ at s' a j i) → (i q : ℕ) → q < h.plan.n → told s a i j q ≡ told s' a i j q
  unfolding hears at setting keeper
  told_same j same i q l =
      cases (member q h.faulty)
      (λ e. rw e)
      (λ e. rw e (cases (eqb q h.plan.dealer)
      (λ x. rw x)
      (λ x. rw x (ap (λ b. some (frame_of b)) (same q l (rw (lt-ltb q h.plan.n l, e, x) refl))))))

  at_same : (j i : ℕ) → i < h.plan.n → keeper s i ≡ true → at s a j i ≡ at s' a j i
  unfolding setting
  at_same =
      at-related ◌≡◌ (λ b c q vs. ap (λ x. (taking x q vs).board)) (λ b c. ap (λ x. (closing x).board)) s s' a refl (λ i. keeper s i ≡ true) begun-same told_same

  line_same : (i : ℕ) (rest : List ℕ) → i < h.plan.n → board_line w h (final_boards w h fs cells) i rest ≡ board_line w h (final_boards w h fs cells') i rest
  unfolding board_line final_boards at setting keeper
  line_same i rest l =
      cases (member i h.faulty)
      (λ e. rw e)
      (λ e. rw e (cases (eqb i h.plan.dealer)
      (λ x. rw x)
      (λ x. rw x
      (ap (λ (b : Board). printed w i b.rec.decision (as_set b.rec.list) (held_at (listed h.plan) (as_set b.rec.list)) rest)
      (at_same (steps h.plan) i l (rw (lt-ltb i h.plan.n l, e, x) refl))))))

  lines_same : (i k : ℕ) → i + k ≤ h.plan.n → print_boards w h (final_boards w h fs cells) i k ≡ print_boards w h (final_boards w h fs cells') i k
  unfolding print_boards
  lines_same i zero l = refl
  lines_same i (suc k) l =
      ap (board_line w h (final_boards w h fs cells) i) (lines_same (suc i) k (omega arith))
      ∙ line_same i (print_boards w h (final_boards w h fs cells') (suc i) k) (omega arith)

  head-same : (out : List ℕ) → SameLines (play_head w h fs cells out) (play_head w h fs cells' out)
  unfolding play_head
  head-same out =
      let text = lines_same 0 h.plan.n (omega arith) in
      record { answer = ap (λ t. taken (length t ∷ [])) text; out = ap (λ t. t ++ drop (length t) out) text }

-- Both are turned down alike.
pub lent-cells : LentCells
unfolding playing refused_play
lent-cells w text cells cells' out size =
    let h = (reading w text).head in
    let fs = (reading w text).frames in
    let alike = ap (λ k. ltb k cells_needed) (sym size) in
    cases (ltb sheet_most (length text))
    (λ e. rw e (record { answer = refl; out = refl }))
    (λ e. rw e (cases (ltb (length out) (output_needed w))
    (λ x. rw x (record { answer = refl; out = refl }))
    (λ x. rw x (cases (ltb (length cells) cells_needed)
    (λ y. rw (y, alike ∙ y) (record { answer = refl; out = refl }))
    (λ y. rw (y, alike ∙ y) (cases (eqb (reading w text).answer.number 0)
    (λ z. let ok = eqb-true (reading w text).answer.number 0 z in
    let room = ltb-false (length cells) cells_needed y in
    let room' : cells_needed ≤ length cells' = omega (arith, size) in
    rw z (head-same w h (sheet-head w text ok) fs cells cells' room room' (sheet-sound w text cells ok room) (sheet-sound w text cells' ok room') out))
    (λ z. rw z (record { answer = refl; out = refl }))))))))
