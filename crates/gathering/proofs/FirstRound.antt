-- What closing round 1 gathers.
-- Assumes nothing.
use Prim.Native.Nat.{ℕ, zero, suc, ◌-◌, ◌≤◌, ◌<◌}
use mathlib.Core.Path.{◌≡◌, refl, sym, ap, ◌∙◌}
use mathlib.Core.Logic.{◌≢◌}
use mathlib.Core.Bool.{Bool, true, false, not, cond}
use mathlib.Core.List.{List, []}
use native.Mathlib.Omega.{arith}
use lib.Dec.{eqb}
use lib.ListN.{set}
use borrow.Author.Tests.{eq-eqb, ne_eqb, eqb-true, eqb-false}
use Rattle.sets.specs.Sets.{member}
use Rattle.sets.proofs.Tests.{cases}
use Rattle.schedule.specs.declared.rounds.Run.{Run}
use Rattle.schedule.specs.declared.rounds.Round.{Round}
use Rattle.plan.specs.declared.plan.Plan.{Plan}
use Rattle.plan.specs.Values.{default}
use Rattle.protocol.specs.declared.records.Slot.{Slot}
use Rattle.protocol.specs.Nodes.{filter, nodes, inner, sent}
use Rattle.protocol.specs.Detection.{Scan, detect_all_g}
use Rattle.protocol.specs.Rounds.{fill, fill_missing, copy_own}
use Rattle.frames.specs.Nodes.{Standing, entry}
use Rattle.frames.proofs.Due.{due-word, sent_word}
use Rattle.frames.proofs.Strokes.{fill-word}
use Rattle.gathering.specs.Gathered.{gathered, Gathers}

-- A test turned.
turned : {A : Type 0} (b : Bool) (x y : A) → cond (not b) x y ≡ cond b y x
turned true x y = refl
turned false x y = refl

module _ {p : Plan} {holders : List ℕ} {i : ℕ} {k : Round} (s : Standing p holders i k) (one : k.0 ≡ 1) (marks : ℕ) (cells : List ℕ) where
  abbrev rooted : List ℕ
  rooted = cond (member p.dealer marks) cells (set cells 0 (default p))

  -- Of the boards below j only the dealer's frame is due.
  below : (j : ℕ) → j ≤ p.dealer → fill_missing p i k marks j cells ≡ cells
  unfolding fill_missing
  below zero h = refl
  below (suc q) h =
      rw (due-word s q (omega (arith, s.dealer-below)) one ∙ ne_eqb q p.dealer (omega arith)) (below q (omega arith))

  above : (j : ℕ) → p.dealer < j → j ≤ p.n → fill_missing p i k marks j cells ≡ rooted
  unfolding fill_missing entry
  above zero h l = absurd (omega arith)
  above (suc q) h l =
      cases (eqb q p.dealer)
      (λ e. let z : q ≡ p.dealer = eqb-true q p.dealer e in
      rw (due-word s q (omega arith) one ∙ e, sent_word s q (omega arith) one z, below q (omega arith), fill-word p q [] cells, ap (λ x. member x marks) z)
      (turned (member p.dealer marks) (set cells 0 (default p)) cells))
      (λ e. let z : q ≢ p.dealer = eqb-false q p.dealer e in
      rw (due-word s q (omega arith) one ∙ e) (above q (omega arith) (omega arith)))

  own-none : sent p i i k ≡ []
  unfolding sent
  own-none = rw (eq-eqb k.0 1 one, ne_eqb i p.dealer s.other)

  -- Rule G does not run in round 1.
  gathered-word : (run : Run) (list : List Slot) → gathered p i run k marks list cells ≡ record { list = list; cells = rooted }
  unfolding gathered inner nodes filter detect_all_g copy_own fill
  gathered-word run list =
      rw ((let z : k.0 - 1 ≡ 0 = omega arith in z), own-none, above p.n s.dealer-below (omega arith)) refl

  pub gathers-word : (run : Run) (list : List Slot) (after : List ℕ) → after ≡ rooted → Gathers p i run k marks list list cells after
  gathers-word run list after e = record {
    list-is = sym (ap (λ (x : Scan). x.list) (gathered-word run list));
    cells_are = e ∙ sym (ap (λ (x : Scan). x.cells) (gathered-word run list));
  }
