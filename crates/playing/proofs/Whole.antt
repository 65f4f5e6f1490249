-- A whole sheet: what the code has in hand is what playing leaves.
-- Assumes nothing.
use Prim.Native.Nat.{ℕ, zero, suc, ◌+◌, ◌≤◌, ◌<◌}
use mathlib.Core.Path.{◌≡◌, refl, ap, ap₂, ◌∙◌}
use mathlib.Core.Logic.{◌≢◌}
use mathlib.Core.Bool.{true}
use mathlib.Core.List.{List, [], ◌∷◌, ◌++◌}
use native.Mathlib.Omega.{arith}
use lib.ListN.{length, get_or, drop, replicate}
use borrow.Author.Tests.{eq-eqb, ne_eqb, lt-ltb, le-ltb}
use Rattle.codec.specs.Codec.{current}
use Rattle.schedule.specs.Schedule.{steps}
use Rattle.refusals.specs.Outcome.{Outcome, taken, refused}
use Rattle.protocol.specs.Limits.{sheet_most, output_needed, cells_needed}
use Rattle.protocol.specs.declared.records.Record.{Record}
use Rattle.protocol.specs.Calls.{void_record}
use Rattle.protocol.specs.Session.{keeper}
use Rattle.sheet.specs.declared.head.Head.{Head}
use Rattle.sheet.specs.Sheet.{Frame, wrong_at, reading}
use Rattle.sheet.specs.Playing.{setting, final_boards, print_boards, Play, refused_play, play_head, playing}
use Rattle.sheet.proofs.Sheets.{GoodHead, few-boards, sheet-head, sheet-sound, parts-most}
use Rattle.text.proofs.LineEnds.{stop}
use Rattle.reader.proofs.Accepted.{sheet-rising}
use Rattle.printer.specs.Printed.{board_lines}
use Rattle.printer.proofs.BoardLines.{lines-played}
use Rattle.stage.specs.Stage.{Stage, no_record}
use Rattle.exchange.specs.Exchange.{Ready}
use Rattle.session.specs.Steps.{play_steps}
use Rattle.session.proofs.Stages.{final-stage, final-cells, final-record}

in_list : (l : List Record) (i : ℕ) (d e : Record) → i < length l → get_or l i d ≡ get_or l i e
in_list [] i d e h = absurd (omega arith)
in_list (r ∷ rs) zero d e h = refl
in_list (r ∷ rs) (suc i) d e h = in_list rs i d e (omega arith)

-- A sheet that is accepted.
module _ (text cells out : List ℕ) (ok : (reading current text).answer.number ≡ 0) (room : cells_needed ≤ length cells) (long : output_needed current ≤ length out) where
  abbrev h : Head
  h = (reading current text).head

  abbrev fs : List Frame
  fs = (reading current text).frames

  abbrev good : GoodHead h
  good = sheet-head current text ok

  pub head-ready : Ready h cells (drop (stop text 0 + 1) text)
  head-ready =
      let few = few-boards h good in
      record { roomy = record { few = few; room = omega (arith, parts-most h.plan.n few) }; rising = sheet-rising text ok }

  -- The stage at the end.
  abbrev pub ended : Stage
  ended = play_steps h fs (steps h.plan) (record { recs = replicate 7 void_record; cells = cells })

  lines_are : board_lines h ended.recs out ≡ print_boards current h (final_boards current h fs cells) 0 h.plan.n
  unfolding keeper setting
  lines_are =
      lines-played h (final_boards current h fs cells) ended.recs out (few-boards h good) long
      (λ i l f d.
      let kept : keeper (setting current h cells) i ≡ true = rw (lt-ltb i h.plan.n l, f, ne_eqb i h.plan.dealer d) refl in
      let seven = (final-stage h good cells room (sheet-sound current text cells ok room) fs).seven in
      in_list ended.recs i void_record no_record (omega (arith, seven, few-boards h good))
      ∙ final-record h good cells room (sheet-sound current text cells ok room) fs i kept)

  -- What the code leaves, from the stage at the end and the lines that it has printed.
  pub sheet-played : (st : Stage) (lines : List ℕ) → st ≡ ended → lines ≡ board_lines h st.recs out
      → ◌≡◌ {A = Play} (record { answer = taken (length lines ∷ []); cells = st.cells; out = lines ++ drop (length lines) out }) (play_head current h fs cells out)
  unfolding play_head
  sheet-played st lines es el =
      let e : lines ≡ print_boards current h (final_boards current h fs cells) 0 h.plan.n = el ∙ ap (λ (y : Stage). board_lines h y.recs out) es ∙ lines_are in
      let z : st.cells ≡ (play_head current h fs cells out).cells = ap (λ (y : Stage). y.cells) es ∙ final-cells h good cells room (sheet-sound current text cells ok room) fs in
      ap₂ (λ (x : List ℕ) (y : List ℕ). record { answer = taken (length x ∷ []); cells = y; out = x ++ drop (length x) out }) e z

-- The judgements before a sheet is read, and its reading.
module _ (text cells out : List ℕ) where
  pub too_long : sheet_most < length text → refused_play (wrong_at 0 (refused 20)) cells out ≡ playing current text cells out
  unfolding playing
  too_long l = rw (lt-ltb sheet_most (length text) l) refl

  pub short-output : length text ≤ sheet_most → length out < output_needed current → refused_play (wrong_at 0 (refused 17)) cells out ≡ playing current text cells out
  unfolding playing
  short-output a l = rw (le-ltb sheet_most (length text) a, lt-ltb (length out) (output_needed current) l) refl

  pub short-cells : length text ≤ sheet_most → output_needed current ≤ length out → length cells < cells_needed → refused_play (wrong_at 0 (refused 11)) cells out ≡ playing current text cells out
  unfolding playing
  short-cells a b l = rw (le-ltb sheet_most (length text) a, le-ltb (length out) (output_needed current) b, lt-ltb (length cells) cells_needed l) refl

  module _ (a : length text ≤ sheet_most) (b : output_needed current ≤ length out) (c : cells_needed ≤ length cells) where
    pub sheet-refused : (o : Outcome) → o ≡ (reading current text).answer → o.number ≢ 0 → refused_play o cells out ≡ playing current text cells out
    unfolding playing
    sheet-refused o e ne =
        ap (λ x. refused_play x cells out) e
        ∙ rw (le-ltb sheet_most (length text) a, le-ltb (length out) (output_needed current) b, le-ltb (length cells) cells_needed c, ne_eqb (reading current text).answer.number 0 (λ z. ne (ap (λ (x : Outcome). x.number) e ∙ z))) refl

    pub sheet-accepted : (reading current text).answer.number ≡ 0 → play_head current (reading current text).head (reading current text).frames cells out ≡ playing current text cells out
    unfolding playing
    sheet-accepted e =
        rw (le-ltb sheet_most (length text) a, le-ltb (length out) (output_needed current) b, le-ltb (length cells) cells_needed c, eq-eqb (reading current text).answer.number 0 e) refl
