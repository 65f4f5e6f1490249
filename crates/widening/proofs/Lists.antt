-- Lists of calls in one-byte values and the same lists in two bytes: every board stays the same board, widened.
-- Assumes nothing.
use Prim.Native.Nat.{ℕ, ◌≤◌}
use mathlib.Core.Path.{◌≡◌, refl, sym, ◌∙◌, ap, subst, fun_ext}
use mathlib.Core.Bool.{cond}
use mathlib.Core.List.{List}
use native.Mathlib.Omega.{arith}
use lib.Dec.{eqb}
use Rattle.codec.specs.Codec.{one, decode}
use Rattle.sets.proofs.Tests.{cases}
use Rattle.plan.specs.declared.plan.Plan.{Plan}
use Rattle.plan.specs.Calls.{void_plan}
use Rattle.protocol.specs.Rounds.{Board, receive}
use Rattle.protocol.specs.Calls.{Result, is_taken, judge_open, judge_beginning, beginning, fresh_record, void_record, judge_receiving, taking, receiving, closing}
use Rattle.protocol.specs.Session.{Setting, begun}
use Rattle.synchronous.proofs.Reached.{close-plan}
use Rattle.synchronous.proofs.Synchronous.{begun-width}
use Rattle.agreement.specs.Lists.{Call, receives, sends, closes, decides, caller, leaves, World, after_one, after, state}
use Rattle.agreement.proofs.Called.{one-keeps, after-keeps, leaves-width}
use Rattle.widening.specs.Widening.{wide_board, wide_setting, wide_result, Wider, receives-wider, sends-wider, closes-wider, decides-wider, Widers, none-wider, more-wider}
use Rattle.widening.specs.Claims.{Narrow, NarrowSetting, ListsSame}
use Rattle.widening.proofs.Calls.{leaves-wide, calls_same, beginning-same}

-- A call keeps the plan.
pub taking-plan : (b : Board) (q : ℕ) (vs : List ℕ) → (taking b q vs).board.rec.plan ≡ b.rec.plan
unfolding taking receive
taking-plan b q vs = cases (is_taken (judge_receiving b q)) (λ e. rw e) (λ e. rw e)

leaves-plan : (c : Call) (b : Board) → (leaves c b).rec.plan ≡ b.rec.plan
unfolding leaves receiving closing
leaves-plan (receives i q f) b = taking-plan b q (decode b.width f)
leaves-plan (sends i out) b = refl
leaves-plan (closes i) b = cases (is_taken (judge_open b)) (λ e. rw e (close-plan b)) (λ e. rw e)
leaves-plan (decides i) b = refl

-- So it leaves a narrow board narrow.
pub leaves-narrow : (c : Call) (b : Board) → Narrow b → Narrow (leaves c b)
leaves-narrow c b n = record {
  width = leaves-width c b ∙ n.width;
  span = subst (λ (p : Plan). p.span ≤ 255) (sym (leaves-plan c b)) n.span;
}

same-caller : {c c' : Call} → Wider c c' → caller c' ≡ caller c
unfolding caller
same-caller (receives-wider i q f) = refl
same-caller (sends-wider i out out') = refl
same-caller (closes-wider i) = refl
same-caller (decides-wider i) = refl

one-wide : {c c' : Call} → Wider c c' → (w : World) (i : ℕ) → Narrow (w i) → after_one (λ k. wide_board (w k)) c' i ≡ wide_board (after_one w c i)
unfolding after_one
one-wide {c = c} {c' = c'} x w i n =
    ap (λ k. cond (eqb i k) (leaves c' (wide_board (w i))) (wide_board (w i))) (same-caller x)
    ∙ cases (eqb i (caller c)) (λ e. rw e (leaves-wide x (w i) n)) (λ e. rw e)

after-wide : {cs cs' : List Call} → Widers cs cs' → (w : World) → ((i : ℕ) → Narrow (w i)) → (i : ℕ)
    → after (λ k. wide_board (w k)) cs' i ≡ wide_board (after w cs i)
unfolding after
after-wide none-wider w n i = refl
after-wide (more-wider {c = c} {cs' = cs'} x xs) w n i =
    ap (λ u. after u cs' i) (fun_ext (λ k. one-wide x w k (n k)))
    ∙ after-wide xs (after_one w c) (λ k. one-keeps Narrow leaves-narrow w c k (n k)) i

-- Boards that begin.
pub begun-wide : (s : Setting) → s.width ≡ one → (i : ℕ) → begun (wide_setting s) i ≡ wide_board (begun s i)
unfolding begun wide_setting wide_result
begun-wide s e i =
    ap (λ (x : Result). x.board) (beginning-same s.plan i (s.buffer i)) ∙ ap (λ w. wide_board (beginning w s.plan i (s.buffer i)).board) (sym e)

pub begun-narrow : (s : Setting) → NarrowSetting s → (i : ℕ) → Narrow (begun s i)
begun-narrow s n i = record { width = begun-width s i ∙ n.width; span = small }
  where
    small : (begun s i).rec.plan.span ≤ 255
    small =
        unfold begun beginning fresh_record void_record void_plan in
        cases (is_taken (judge_beginning s.plan i (s.buffer i))) (λ x. rw x n.span) (λ x. rw x (omega arith))

pub lists-same : ListsSame
unfolding state
lists-same s n calls calls' xs i = record {
  board = ap (λ w. after w calls' i) (fun_ext (begun-wide s n.width)) ∙ after-wide xs (begun s) (begun-narrow s n) i;
  next = calls_same (state s calls i) (after-keeps Narrow leaves-narrow calls (begun s) i (begun-narrow s n i));
}
