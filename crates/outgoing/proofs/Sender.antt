-- The frame of a sender outside F, by the answers of the calls that give it.
-- Assumes nothing.
use Prim.Native.Nat.{ℕ, ◌+◌, ◌-◌, ◌*◌}
use mathlib.Core.Path.{◌≡◌, refl, sym, ap, ◌∙◌}
use mathlib.Core.Logic.{◌≢◌}
use mathlib.Core.Bool.{true, false, cond}
use mathlib.Core.List.{List, [], ◌∷◌}
use native.Mathlib.Omega.{arith}
use lib.ListN.{length, get_or, take, drop, replicate, length-replicate}
use borrow.Author.Tests.{eq-eqb, ne_eqb}
use Rattle.codec.specs.Codec.{current}
use Rattle.sets.specs.Sets.{member}
use Rattle.std.specs.Prelude.{Result, Ok, Err}
use Rattle.std.specs.Result.{result_unwrap_or}
use Rattle.refusals.specs.Outcome.{taken}
use Rattle.refusals.specs.declared.refusal.Refusal.{Refusal}
use Rattle.refusals.proofs.Outcomes.{refusal-number}
use Rattle.protocol.specs.Answers.{sent_says}
use Rattle.protocol.proofs.Taken.{sending-gives}
use Rattle.protocol.specs.Limits.{frame_room}
use Rattle.tree.specs.Places.{cell_count}
use Rattle.protocol.specs.Rounds.{board_with, Board}
use Rattle.protocol.specs.Calls.{Output, is_taken, dealing, sending}
use Rattle.sheet.specs.Playing.{part}
use Rattle.sheet.specs.declared.head.Head.{Head}
use Rattle.stage.specs.Stage.{Stage, no_record, board_on}
use Rattle.outgoing.specs.Outgoing.{Written, dealt_frame, frame_from, healthy_frame}

pub dealt-taken : (h : Head) (f : List ℕ) → taken f ≡ dealing current h.plan h.word → f ≡ dealt_frame h
unfolding dealt_frame is_taken
dealt-taken h f e = ap (λ o. cond (is_taken o) o.values []) e

pub dealt-refused : (h : Head) → (dealing current h.plan h.word).number ≢ 0 → [] ≡ dealt_frame h
unfolding dealt_frame is_taken
dealt-refused h ne = rw (ne_eqb (dealing current h.plan h.word).number 0 ne) refl

module _ (h : Head) (q : ℕ) (b : Board) where
  pub from-dealer : q ≡ h.plan.dealer → dealt_frame h ≡ frame_from h q b
  unfolding frame_from
  from-dealer e = rw (eq-eqb q h.plan.dealer e) refl

  pub from-sender : (k : ℕ) (out : List ℕ) → q ≢ h.plan.dealer → out ≡ replicate (frame_room current) 0 → taken (k ∷ []) ≡ (sending b out).answer
      → take k (sending b out).out ≡ frame_from h q b
  unfolding frame_from is_taken
  from-sender k out ne e t =
      let t' : (sending b (replicate (frame_room current) 0)).answer ≡ taken (k ∷ []) = ap (λ x. (sending b x).answer) (sym e) ∙ sym t in
      ap (λ x. take k (sending b x).out) e
      ∙ rw (ne_eqb q h.plan.dealer ne) (sym (ap (λ o. cond (is_taken o) (take (get_or o.values 0 0) (sending b (replicate (frame_room current) 0)).out) []) t'))

  pub from-nobody : (out : List ℕ) → q ≢ h.plan.dealer → out ≡ replicate (frame_room current) 0 → (sending b out).answer.number ≢ 0 → [] ≡ frame_from h q b
  unfolding frame_from is_taken
  from-nobody out ne e t =
      rw (ne_eqb q h.plan.dealer ne, ne_eqb (sending b (replicate (frame_room current) 0)).answer.number 0 (λ z. t (ap (λ x. (sending b x).answer.number) e ∙ z))) refl

  -- What the writing answers: the frame by its length, or nothing.
  pub from-sent : (got : Result ℕ Refusal) (frame last : List ℕ) → q ≢ h.plan.dealer → frame ≡ replicate (frame_room current) 0
      → ◌≡◌ {A = Output} (record { answer = sent_says got; out = last }) (sending b frame)
      → Written (result_unwrap_or got 0) (frame_room current) last (frame_from h q b)
  unfolding sent_says
  from-sent (Ok k) frame last ne zeros d =
      let e = ap (λ (x : Output). x.answer) d in
      let size = ap length zeros ∙ length-replicate {A = ℕ} (frame_room current) 0 in
      record {
        fits = omega (arith, size, (sending-gives b frame k (sym e)).fits);
        front = ap (λ (x : Output). take k x.out) d ∙ from-sender k frame ne zeros e;
      }
  from-sent (Err why) frame last ne zeros d =
      let e = ap (λ (x : Output). x.answer) d in
      record { fits = omega arith; front = from-nobody frame ne zeros (λ z. refusal-number why (ap (λ x. x.number) e ∙ z)) }

  -- A faulty board has no frame.
  pub none-faulty : member q h.faulty ≡ true → [] ≡ healthy_frame h q b
  unfolding healthy_frame
  none-faulty e = rw e refl

  pub frame-healthy : member q h.faulty ≡ false → healthy_frame h q b ≡ frame_from h q b
  unfolding healthy_frame
  frame-healthy e = rw e refl

-- Board q with its part as it is lent.
pub board-lent : (h : Head) (q : ℕ) (st : Stage) (c : ℕ) → c ≡ cell_count h.plan.n
    → ◌≡◌ {A = Board} (board_with (get_or st.recs q no_record) (take (q * c + c - q * c) (drop (q * c) st.cells))) (board_on h.plan.n st q)
unfolding board_on part
board-lent h q st c size =
    ap (λ k. board_with (get_or st.recs q no_record) (take k (drop (q * c) st.cells))) (let z : q * c + c - q * c ≡ c = omega arith in z)
    ∙ ap (λ k. board_with (get_or st.recs q no_record) (take k (drop (q * k) st.cells))) size
