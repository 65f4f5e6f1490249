-- When a frame is due.
-- Assumes nothing.
use Prim.Native.Nat.{ℕ, ◌-◌, ◌≤◌, ◌<◌}
use mathlib.Core.Path.{◌≡◌, refl, sym, ap, ◌∙◌}
use mathlib.Core.Logic.{◌≢◌}
use mathlib.Core.Bool.{Bool, false, cond}
use mathlib.Core.List.{List, [], ◌∷◌}
use lib.Dec.{eqb, ltb}
use lib.ListN.{length}
use borrow.Author.Tests.{eqb-true, eqb-false, eq-eqb, ne_eqb, lt-ltb, le-ltb}
use Rattle.sets.proofs.Tests.{cases}
use Rattle.plan.specs.declared.plan.Plan.{Plan}
use Rattle.schedule.specs.declared.rounds.Round.{Round}
use Rattle.tree.specs.Labels.{Label}
use Rattle.protocol.specs.Nodes.{carried, sent, due}
use Rattle.frames.specs.Nodes.{Standing}

pub due-none : (p : Plan) (q i : ℕ) (k : Round) → p.n ≤ q → due p q i k ≡ false
unfolding due
due-none p q i k h = rw (le-ltb q p.n h)

-- The labels of a frame in round 1.
abbrev first_frame : Bool → List Label
first_frame b = cond b ([] ∷ []) []

module _ {p : Plan} {holders : List ℕ} {i : ℕ} {k : Round} (s : Standing p holders i k) (q : ℕ) (l : q < p.n) where
  pub due-own : q ≡ i → due p q i k ≡ false
  unfolding due
  due-own e = rw (lt-ltb q p.n l, lt-ltb i p.n s.board-below, eq-eqb q i e)

  pub due-is : q ≢ i → due p q i k ≡ ltb 0 (length (sent p q i k))
  unfolding due
  due-is ne = rw (lt-ltb q p.n l, lt-ltb i p.n s.board-below, ne_eqb q i ne, ne_eqb i p.dealer s.other)

  -- In round 1 the dealer's frame is due.
  pub due-first : q ≢ i → k.0 ≡ 1 → due p q i k ≡ eqb q p.dealer
  unfolding sent
  due-first ne one =
      due-is ne
      ∙ ap (λ b. ltb 0 (length (cond b (first_frame (eqb q p.dealer)) (carried p q i (k.0 - 1))))) (eq-eqb k.0 1 one)
      ∙ cases (eqb q p.dealer) (λ e. rw e refl) (λ e. rw e refl)

  pub due-word : k.0 ≡ 1 → due p q i k ≡ eqb q p.dealer
  due-word one =
      cases (eqb q i)
      (λ e. let z : q ≡ i = eqb-true q i e in due-own z ∙ sym (ne_eqb q p.dealer (λ y. s.other (sym z ∙ y))))
      (λ e. due-first (eqb-false q i e) one)

  -- It has one value, for the empty label.
  pub sent_word : k.0 ≡ 1 → q ≡ p.dealer → sent p q i k ≡ [] ∷ []
  unfolding sent
  sent_word one e = rw (eq-eqb k.0 1 one, eq-eqb q p.dealer e)
