-- What a played sheet prints obeys demand 3: one decision, the dealer's if the dealer is outside F, lists within F, and their places.
-- Assumes nothing.
use Prim.Native.Nat.{ℕ, zero, suc, ◌+◌, ◌≤◌, ◌<◌}
use mathlib.Core.Path.{◌≡◌, refl, sym, ◌∙◌, ap, ap₂}
use mathlib.Core.Logic.{◌≢◌}
use mathlib.Core.Bool.{Bool, true, false, cond}
use mathlib.Core.List.{List}
use mathlib.Core.Option.{some}
use native.Mathlib.Omega.{arith}
use lib.Dec.{eqb, ltb}
use lib.ListN.{length, get_or, take, drop}
use lib.Seq.{take-append_seam}
use borrow.Author.Tests.{eq-eqb, eqb-true, eqb-false, ltb-true, ltb-false}
use Rattle.codec.specs.Codec.{Width}
use Rattle.sets.specs.Search.{any}
use Rattle.sets.specs.Sets.{member, within}
use Rattle.sets.specs.Structure.{holder, held_at}
use Rattle.sets.proofs.Tests.{cases, clash, and_l}
use Rattle.sets.proofs.Search.{any-true, any_false}
use Rattle.sets.proofs.Member.{within-empty}
use Rattle.sets.proofs.Tolerated.{held-some, held-empty}
use Rattle.plan.specs.Listed.{listed}
use Rattle.schedule.specs.Schedule.{steps}
use Rattle.protocol.specs.Limits.{sheet_most, output_needed, cells_needed}
use Rattle.protocol.specs.Listing.{as_set}
use Rattle.protocol.specs.Session.{Setting, Boards, board_at, at, keeper, Sound}
use Rattle.sheet.specs.declared.head.Head.{Head}
use Rattle.sheet.specs.Sheet.{Frame, wrong_at, reading}
use Rattle.sheet.specs.Playing.{sheet_adversary, setting, final_boards, printed, board_line, print_boards, Play, refused_play, play_head, playing, refusal_text, bench_prints}
use Rattle.sheet.proofs.Sheets.{sheet-sound}
use Rattle.agreement.specs.Claims.{SessionAgreement}
use Rattle.agreement.specs.Printed.{agreed_lines, Printed}
use Rattle.agreement.proofs.Healthy.{is-keeper, list-placed}
use Rattle.agreement.proofs.Session.{synchronous}

-- A sheet that is played was read, and its cells are enough.
passes : (b : Bool) (x y : Play) → x.answer.number ≢ 0 → (cond b x y).answer.number ≡ 0 → (b ≡ false) × (cond b x y ≡ y)
passes true x y l e = absurd (l e)
passes false x y l e = (refl, refl)

pub played-head : (w : Width) (text cells out : List ℕ) → (playing w text cells out).answer.number ≡ 0
    → ((reading w text).answer.number ≡ 0) × (cells_needed ≤ length cells) × (playing w text cells out ≡ play_head w (reading w text).head (reading w text).frames cells out)
unfolding playing refused_play wrong_at
played-head w text cells out e =
    let r = reading w text in
    let number : Play → ℕ = λ p. p.answer.number in
    let (b1, e1) = passes (ltb sheet_most (length text)) _ _ (omega arith) e in
    let (b2, e2) = passes (ltb (length out) (output_needed w)) _ _ (omega arith) (ap number (sym e1) ∙ e) in
    let (b3, e3) = passes (ltb (length cells) cells_needed) _ _ (omega arith) (ap number (sym (e1 ∙ e2)) ∙ e) in
    let e4 = ap number (sym (e1 ∙ e2 ∙ e3)) ∙ e in
    cases (eqb r.answer.number 0)
    (λ t. (eqb-true r.answer.number 0 t, ltb-false (length cells) cells_needed b3, e1 ∙ e2 ∙ e3 ∙ rw t))
    (λ t. absurd (eqb-false r.answer.number 0 t (rw t at e4)))

-- It prints the lines of its boards.
prints-lines : (w : Width) (text cells out : List ℕ) → (playing w text cells out).answer.number ≡ 0
    → bench_prints w text cells out ≡ print_boards w (reading w text).head (final_boards w (reading w text).head (reading w text).frames cells) 0 (reading w text).head.plan.n
unfolding bench_prints play_head
prints-lines w text cells out e =
    let (_, _, x) = played-head w text cells out e in
    let h = (reading w text).head in
    let lines = print_boards w h (final_boards w h (reading w text).frames cells) 0 h.plan.n in
    ap shown x ∙ take-append_seam lines (drop (length lines) out)
  where
    shown : Play → List ℕ
    shown r = let first = get_or r.answer.values 0 0 in cond (eqb r.answer.number 0) (take first r.out) (refusal_text r.answer.number first)

module _ (w : Width) (h : Head) (fs : List Frame) (cells : List ℕ) (agreed : SessionAgreement (setting w h cells) (sheet_adversary w h fs)) where
  abbrev s : Setting
  s = setting w h cells

  abbrev bs : Boards
  bs = final_boards w h fs cells

  keeper-below : (i : ℕ) → keeper s i ≡ true → i < h.plan.n
  unfolding keeper setting
  keeper-below i k = ltb-true i h.plan.n (and_l (ltb i h.plan.n) _ k)

  -- The decision: the dealer's value, or what the first board that keeps cells has decided.
  record Chosen : Type 0 where
    decision : ℕ
    keepers : (i : ℕ) → keeper s i ≡ true → (board_at bs i).rec.decision ≡ decision
    dealers : member h.plan.dealer h.faulty ≡ false → decision ≡ h.word

  chosen : Chosen
  unfolding setting final_boards at
  chosen =
      cases (member h.plan.dealer h.faulty)
      (λ d. cases (any (keeper s) h.plan.n)
      (λ a. let (k, _, kk) = any-true (keeper s) h.plan.n a in
      record { decision = (board_at bs k).rec.decision; keepers = λ i ki. agreed.equal i k ki kk; dealers = λ x. clash d x })
      (λ a. record { decision = 0; keepers = λ i ki. clash ki (any_false (keeper s) h.plan.n a i (keeper-below i ki)); dealers = λ x. clash d x }))
      (λ d. record {
        decision = h.word;
        keepers = agreed.dealers d;
        dealers = λ _. refl;
      })

  -- The lists: the dealer's is empty.
  lists : ℕ → ℕ
  lists i = cond (eqb i h.plan.dealer) 0 (as_set (board_at bs i).rec.list)

  lists-sound : (i : ℕ) → i < h.plan.n → member i h.faulty ≡ false → within (lists i) h.faulty ≡ true
  unfolding lists setting final_boards at
  lists-sound i l out =
      cases (eqb i h.plan.dealer)
      (λ d. rw d (within-empty h.faulty))
      (λ d. rw d (agreed.sound (steps h.plan) i (omega arith) (is-keeper s i l out (eqb-false i h.plan.dealer d))))

  dealer-empty : lists h.plan.dealer ≡ 0
  unfolding lists
  dealer-empty = rw (eq-eqb h.plan.dealer h.plan.dealer refl) refl

  -- The places.
  places : ℕ → ℕ
  places i = held_at (listed h.plan) (lists i)

  dealer-first : places h.plan.dealer ≡ 0
  unfolding places
  dealer-first = ap (held_at (listed h.plan)) dealer-empty ∙ held-empty (listed h.plan)

  lists-placed : Sound s → (i : ℕ) → i < h.plan.n → member i h.faulty ≡ false → holder (listed h.plan) (lists i) ≡ some (places i)
  unfolding places setting
  lists-placed sound i l out =
      let (k, e) = list-placed s (lists i) sound (lists-sound i l out) in
      e ∙ ap some (sym (held-some (listed h.plan) (lists i) k e))

  agreed-lines : (k i : ℕ) → i + k ≡ h.plan.n → print_boards w h bs i k ≡ agreed_lines w h chosen.decision lists places i k
  unfolding print_boards board_line agreed_lines lists places setting
  agreed-lines zero i e = refl
  agreed-lines (suc k) i e =
      let ih = agreed-lines k (suc i) (omega arith) in
      let sets = listed h.plan in
      cases (member i h.faulty)
      (λ f. rw f ih)
      (λ f. cases (eqb i h.plan.dealer)
      (λ d. let v : chosen.decision ≡ h.word = chosen.dealers (ap (λ x. member x h.faulty) (sym (eqb-true i h.plan.dealer d)) ∙ f) in
      rw (f, d, held-empty sets) (ap₂ (λ x y. printed w i x 0 0 y) (sym v) ih))
      (λ d. let list = as_set (board_at bs i).rec.list in
      rw (f, d) (ap₂ (λ x y. printed w i x list (held_at sets list) y) (chosen.keepers i (is-keeper s i (omega arith) f (eqb-false i h.plan.dealer d))) ih)))

-- What a played sheet prints obeys demand 3.
pub printed-agreement : Printed
printed-agreement w text cells out e =
    let h = (reading w text).head in
    let fs = (reading w text).frames in
    let (ok, room, _) = played-head w text cells out e in
    let sound = sheet-sound w text cells ok room in
    let agreed = synchronous (setting w h cells) (sheet_adversary w h fs) sound in
    record {
      decision = (chosen w h fs cells agreed).decision;
      lists = lists w h fs cells agreed;
      places = places w h fs cells agreed;
      prints = prints-lines w text cells out e ∙ agreed-lines w h fs cells agreed h.plan.n 0 (omega arith);
      dealers = (chosen w h fs cells agreed).dealers;
      sound = lists-sound w h fs cells agreed;
      placed = lists-placed w h fs cells agreed sound;
      dealer-list = λ _. dealer-empty w h fs cells agreed;
      dealer-place = λ _. dealer-first w h fs cells agreed;
    }
