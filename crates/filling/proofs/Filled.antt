-- Filling a level: what is missing of the frames that are due, from board to board, and the board's own frame.
-- Assumes nothing.
use Prim.Native.Nat.{ℕ, ◌+◌, ◌<◌}
use mathlib.Core.Path.{◌≡◌, refl, sym, ap, ◌∙◌}
use mathlib.Core.Logic.{◌≢◌}
use mathlib.Core.Bool.{Bool, true, false, not, ◌&&◌, cond}
use mathlib.Core.List.{List, [], ◌∷◌}
use native.Mathlib.Numerals.{add-one}
use native.Mathlib.Omega.{arith}
use lib.Dec.{ltb}
use lib.ListN.{length}
use borrow.Author.Tests.{lt-ltb}
use Rattle.sets.specs.Sets.{member}
use Rattle.sets.proofs.Tests.{cases}
use Rattle.plan.specs.declared.plan.Plan.{Plan}
use Rattle.schedule.specs.declared.rounds.Round.{Round}
use Rattle.tree.specs.Labels.{Label}
use Rattle.protocol.specs.Nodes.{sent, due}
use Rattle.protocol.specs.Rounds.{fill, fill_missing}
use Rattle.frames.specs.Nodes.{Standing}
use Rattle.frames.proofs.Due.{due-own, due-is}

-- One board more.
module _ {p : Plan} {holders : List ℕ} {i : ℕ} {k : Round} (s : Standing p holders i k) (marks q : ℕ) (l : q < p.n) (cells : List ℕ) where
  abbrev rest : List ℕ
  rest = fill_missing p i k marks q cells

  more : (t : Bool) → (due p q i k && not (member q marks)) ≡ t
      → fill_missing p i k marks (q + 1) cells ≡ cond t (fill p q (sent p q i k) [] rest) rest
  unfolding fill_missing
  more t e = rw (add-one q, e)

  pub missing-own : q ≡ i → fill_missing p i k marks (q + 1) cells ≡ rest
  missing-own e = more false (rw (due-own s q l e))

  pub missing-marked : member q marks ≡ true → fill_missing p i k marks (q + 1) cells ≡ rest
  missing-marked t = more false (cases (due p q i k) (λ e. rw (e, t)) (λ e. rw e))

  -- What is missing is stored; a frame without values stores nothing.
  pub missing-stored : q ≢ i → member q marks ≡ false → fill_missing p i k marks (q + 1) cells ≡ fill p q (sent p q i k) [] rest
  missing-stored ne t = by-list (sent p q i k) refl
    where
      by-list : (αs : List Label) → sent p q i k ≡ αs → fill_missing p i k marks (q + 1) cells ≡ fill p q (sent p q i k) [] rest
      by-list [] e = more false (rw (due-is s q l ne ∙ ap (λ βs. ltb 0 (length βs)) e)) ∙ sym (ap (λ βs. fill p q βs [] rest) e ∙ unfold fill in refl)
      by-list (α ∷ αs) e = more true (rw (due-is s q l ne ∙ ap (λ βs. ltb 0 (length βs)) e ∙ lt-ltb 0 (length (α ∷ αs)) (omega arith), t))
