-- Taking a frame: what 14 and 15 leave.
-- Assumes nothing.
use Prim.Native.Nat.{ℕ}
use mathlib.Core.Path.{◌≡◌, refl, sym, ap, ◌∙◌}
use mathlib.Core.Logic.{◌≢◌}
use mathlib.Core.Bool.{Bool, true, false}
use mathlib.Core.List.{List, [], ◌∷◌}
use native.Mathlib.Omega.{arith}
use lib.ListN.{length, get_or, set}
use borrow.Author.Tests.{lt-ltb}
use Rattle.sets.specs.Sets.{member}
use Rattle.plan.specs.declared.plan.Plan.{Plan}
use Rattle.plan.specs.Values.{default, value}
use Rattle.refusals.specs.Outcome.{taken, refused}
use Rattle.tree.specs.Labels.{Label}
use Rattle.protocol.specs.declared.records.Slot.{Slot}
use Rattle.protocol.specs.Listing.{as_set}
use Rattle.protocol.specs.Rounds.{fill, counted}
use Rattle.protocol.specs.Calls.{is_taken}
use Rattle.frames.specs.Nodes.{entry}
use Rattle.frames.proofs.Strokes.{fill-word, counted-all, counted-misfit, counted-listed}
use Rattle.first_round.specs.Takes.{Takes}

module _ (p : Plan) (q : ℕ) (list : List Slot) (marks : ℕ) (is_due : Bool) (αs : List Label) (f before : List ℕ) where
  pub takes_none : is_due ≡ false → Takes p q list marks is_due αs f before (refused 14) before
  unfolding is_taken
  takes_none e = record { answer = rw e refl; cells = refl }

  pub takes-again : is_due ≡ true → member q marks ≡ true → Takes p q list marks is_due αs f before (refused 15) before
  unfolding is_taken
  takes-again e m = record { answer = rw (e, m) refl; cells = refl }

  pub takes-new : is_due ≡ true → member q marks ≡ false
      → Takes p q list marks is_due αs f before (taken []) (fill p q αs (counted list q αs f) before)
  unfolding is_taken
  takes-new e m = record { answer = rw (e, m) refl; cells = refl }

-- A frame of one value.
module _ (p : Plan) (list : List Slot) (q : ℕ) (f : List ℕ) where
  pub word_counts : length f ≡ 1 → member q (as_set list) ≡ false → entry p (counted list q ([] ∷ []) f) 0 ≡ value p (get_or f 0 0)
  unfolding entry
  word_counts e m = rw (counted-all list q ([] ∷ []) f e m, lt-ltb 0 (length f) (omega arith)) refl

  pub word-misfit : length f ≢ 1 → entry p (counted list q ([] ∷ []) f) 0 ≡ default p
  unfolding entry
  word-misfit ne = rw (counted-misfit list q ([] ∷ []) f ne) refl

  pub word-listed : member q (as_set list) ≡ true → entry p (counted list q ([] ∷ []) f) 0 ≡ default p
  unfolding entry
  word-listed m = rw (counted-listed list q ([] ∷ []) f m) refl

  pub takes-root : (marks : ℕ) (is_due : Bool) (before : List ℕ) (v : ℕ) → is_due ≡ true → member q marks ≡ false
      → v ≡ entry p (counted list q ([] ∷ []) f) 0 → Takes p q list marks is_due ([] ∷ []) f before (taken []) (set before 0 v)
  unfolding is_taken
  takes-root marks is_due before v e m x = record {
    answer = (takes-new p q list marks is_due ([] ∷ []) f before e m).answer;
    cells = ap (set before 0) x ∙ sym (fill-word p q (counted list q ([] ∷ []) f) before);
  }
