-- The synchronous session in one-byte values and the same in two bytes, whatever faulty boards send.
-- Assumes nothing.
use Prim.Native.Nat.{ℕ, ◌≤◌, ◌<◌}
use mathlib.Core.Path.{◌≡◌, refl, sym, ◌∙◌, ap, subst}
use mathlib.Core.Bool.{cond}
use mathlib.Core.List.{List, [], ◌∷◌}
use mathlib.Core.Option.{some}
use lib.Dec.{eqb, ltb}
use borrow.Author.Tests.{ltb-true, ltb-false}
use Rattle.sets.specs.Sets.{member}
use Rattle.sets.proofs.Tests.{cases}
use Rattle.plan.specs.declared.plan.Plan.{Plan}
use Rattle.protocol.specs.Rounds.{Board}
use Rattle.protocol.specs.Calls.{Result, taking, frame_of, closing}
use Rattle.protocol.specs.Session.{Adversary, Setting, nobody, hears, at}
use Rattle.protocol.proofs.Taken.{taking-width}
use Rattle.synchronous.proofs.Synchronous.{told, at-past, at-related}
use Rattle.agreement.specs.Lists.{closes, leaves}
use Rattle.widening.specs.Widening.{wide_record, wide_board, wide_setting, wide_result}
use Rattle.widening.specs.Claims.{Narrow, NarrowSetting, SessionSame}
use Rattle.widening.proofs.Calls.{taking-wide, closing-wide, frame-wide}
use Rattle.widening.proofs.Lists.{taking-plan, leaves-narrow, begun-wide, begun-narrow}

pub taking-narrow : (b : Board) (q : ℕ) (vs : List ℕ) → Narrow b → Narrow (taking b q vs).board
taking-narrow b q vs n = record {
  width = taking-width b q vs ∙ n.width;
  span = subst (λ (p : Plan). p.span ≤ 255) (sym (taking-plan b q vs)) n.span;
}

pub closing-narrow : (b : Board) → Narrow b → Narrow (closing b).board
unfolding leaves
closing-narrow b n = leaves-narrow (closes 0) b n

-- A board in one-byte values, and the same board in two bytes.
record Widened (b c : Board) : Type 0 where
  narrow : Narrow b
  is : c ≡ wide_board b

takes-widened : (b c : Board) (q : ℕ) (vs : List ℕ) → Widened b c → Widened (taking b q vs).board (taking c q vs).board
unfolding wide_result
takes-widened b c q vs h = record {
  narrow = taking-narrow b q vs h.narrow;
  is = ap (λ x. (taking x q vs).board) h.is ∙ ap (λ (x : Result). x.board) (taking-wide b q vs h.narrow.span);
}

closes-widened : (b c : Board) → Widened b c → Widened (closing b).board (closing c).board
unfolding wide_result
closes-widened b c h = record {
  narrow = closing-narrow b h.narrow;
  is = ap (λ x. (closing x).board) h.is ∙ ap (λ (x : Result). x.board) (closing-wide b h.narrow);
}

module _ (s : Setting) (n : NarrowSetting s) (a : Adversary) where
  -- A board and the same board in two bytes send the same values.
  told-wide : (j : ℕ) → ((i : ℕ) → i < s.plan.n → i ≡ i → Widened (at s a j i) (at (wide_setting s) a j i))
      → (i q : ℕ) → q < s.plan.n → told s a i j q ≡ told (wide_setting s) a i j q
  unfolding hears at wide_setting
  told-wide j same i q l =
      let h = same q l refl in
      ap (λ f. cond (member q s.faulty) (a i j q) (cond (eqb q s.plan.dealer) (some (s.word ∷ [])) (some f)))
      (sym (ap frame_of h.is ∙ frame-wide (at s a j q) h.narrow.span))

  at_wide : (j i : ℕ) → i < s.plan.n → at (wide_setting s) a j i ≡ wide_board (at s a j i)
  unfolding wide_setting
  at_wide j i l =
      (at-related Widened takes-widened closes-widened s (wide_setting s) a refl (λ i. i ≡ i)
      (λ i _ _. record { narrow = begun-narrow s n i; is = begun-wide s n.width i }) told-wide j i l refl
      ).is

-- There is no board past the last.
nobody-wide : wide_board nobody ≡ nobody
unfolding wide_board wide_record nobody
nobody-wide = refl

pub session-same : SessionSame
session-same s n a j i =
    cases (ltb i s.plan.n)
    (λ e. at_wide s n a j i (ltb-true i s.plan.n e))
    (λ e. let past = ltb-false i s.plan.n e in
    at-past (wide_setting s) a j i (unfold wide_setting in past) ∙ sym nobody-wide ∙ ap wide_board (sym (at-past s a j i past)))
