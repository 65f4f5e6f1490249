-- Taking a frame: what 14 and 15 leave.
-- Assumes nothing.
use Prim.Native.Nat.{ℕ, ◌-◌, ◌≤◌, ◌<◌}
use mathlib.Core.Path.{◌≡◌, refl, sym, ap, ◌∙◌}
use mathlib.Core.Logic.{◌≢◌}
use mathlib.Core.Bool.{true, false, cond}
use mathlib.Core.List.{List, [], ◌∷◌}
use native.Mathlib.Omega.{arith}
use lib.Dec.{eqb, ltb}
use lib.ListN.{length}
use borrow.Author.Tests.{eqb-true, lt-ltb}
use Rattle.sets.specs.Sets.{member}
use Rattle.sets.proofs.Tests.{cases}
use Rattle.plan.specs.declared.plan.Plan.{Plan}
use Rattle.schedule.specs.declared.rounds.Round.{Round}
use Rattle.refusals.specs.Outcome.{Outcome, taken, refused}
use Rattle.tree.specs.Labels.{Label}
use Rattle.protocol.specs.Nodes.{carried, sent, due}
use Rattle.protocol.specs.Rounds.{fill, counted}
use Rattle.protocol.specs.declared.records.Slot.{Slot}
use Rattle.protocol.specs.Calls.{is_taken}
use Rattle.frames.specs.Nodes.{Standing}
use Rattle.frames.proofs.Listed.{sent-carried}
use Rattle.frames.proofs.Due.{due-is, due-word, sent_word}
use Rattle.first_round.specs.Takes.{Takes}
use Rattle.first_round.proofs.Takes.{takes_none, takes-again, takes-new}

-- In round 1 the dealer's frame is the one that is due.
module _ {p : Plan} {holders : List ℕ} {i : ℕ} {k : Round} (s : Standing p holders i k) (one : k.0 ≡ 1) (q : ℕ) (l : q < p.n) where
  pub takes-word : (list : List Slot) (marks : ℕ) (f before : List ℕ) (o : Outcome) (after : List ℕ)
      → Takes p q list marks (eqb q p.dealer) ([] ∷ []) f before o after
      → Takes p q list marks (due p q i k) (sent p q i k) f before o after
  unfolding is_taken
  takes-word list marks f before o after t = record {
    answer = t.answer ∙ ap (λ b. cond b (cond (member q marks) (refused 15) (taken [])) (refused 14)) (sym (due-word s q l one));
    cells = cases (eqb q p.dealer)
        (λ e. t.cells ∙ ap (λ αs. cond (is_taken o) (fill p q αs (counted list q αs f) before) before) (sym (sent_word s q l one (eqb-true q p.dealer e))))
        (λ e. let no : o ≡ refused 14 = t.answer ∙ rw e refl in rw no at t.cells ∙ rw no refl);
  }

-- In a later round one is due that carries a node.
module _ {p : Plan} {holders : List ℕ} {i : ℕ} {k : Round} (s : Standing p holders i k) (later : 2 ≤ k.0) (q : ℕ) (l : q < p.n) (ne : q ≢ i)
    (list : List Slot) (marks : ℕ) (f before : List ℕ) (count : ℕ) (e : count ≡ length (carried p q i (k.0 - 1))) where
  due-later : due p q i k ≡ ltb 0 count
  due-later = due-is s q l ne ∙ ap (λ αs. ltb 0 (length αs)) (sent-carried s later q) ∙ ap (ltb 0) (sym e)

  pub later-none : count ≡ 0 → Takes p q list marks (due p q i k) (sent p q i k) f before (refused 14) before
  later-none z = takes_none p q list marks (due p q i k) (sent p q i k) f before (due-later ∙ rw z refl)

  some : count ≢ 0 → due p q i k ≡ true
  some z = due-later ∙ lt-ltb 0 count (omega arith)

  pub later-again : count ≢ 0 → member q marks ≡ true → Takes p q list marks (due p q i k) (sent p q i k) f before (refused 15) before
  later-again z m = takes-again p q list marks (due p q i k) (sent p q i k) f before (some z) m

  pub later-new : count ≢ 0 → member q marks ≡ false → (αs : List Label) (after : List ℕ) → αs ≡ carried p q i (k.0 - 1)
      → after ≡ fill p q αs (counted list q αs f) before → Takes p q list marks (due p q i k) (sent p q i k) f before (taken []) after
  unfolding is_taken
  later-new z m αs after x y = record {
    answer = (takes-new p q list marks (due p q i k) (sent p q i k) f before (some z) m).answer;
    cells = y ∙ ap (λ βs. fill p q βs (counted list q βs f) before) (x ∙ sym (sent-carried s later q));
  }
