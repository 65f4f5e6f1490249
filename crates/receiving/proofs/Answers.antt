-- What handing in leaves, by what taking the frame leaves.
-- Assumes nothing.
use Prim.Native.Nat.{ℕ, ◌<◌}
use mathlib.Core.Path.{◌≡◌, refl, sym, ap, ap₂, ◌∙◌}
use mathlib.Core.Logic.{◌≢◌}
use mathlib.Core.Bool.{true, ◌&&◌}
use mathlib.Core.List.{List, []}
use native.Mathlib.Omega.{arith}
use lib.Dec.{ltb}
use borrow.Author.Tests.{ne_eqb, ltb-true}
use Rattle.codec.specs.Codec.{current, decode}
use Rattle.sets.specs.Sets.{insert}
use Rattle.sets.proofs.Tests.{cases, and_l}
use Rattle.plan.specs.declared.plan.Plan.{Plan}
use Rattle.schedule.specs.declared.rounds.Round.{Round}
use Rattle.refusals.specs.Outcome.{Outcome, taken, refused}
use Rattle.refusals.proofs.Outcomes.{taken-first, refused-first}
use Rattle.protocol.specs.declared.records.Record.{Record}
use Rattle.protocol.specs.declared.records.Slot.{Slot}
use Rattle.protocol.specs.Nodes.{sent, due}
use Rattle.protocol.specs.Rounds.{board_with, Board, receive}
use Rattle.protocol.specs.Calls.{is_taken, judge_open, judge_receiving, taking, receiving}
use Rattle.frames.proofs.Standing.{open-stands}
use Rattle.first_round.specs.Takes.{Takes}

due_below : (p : Plan) (q i : ℕ) (k : Round) → due p q i k ≡ true → q < p.n
unfolding due
due_below p q i k e = ltb-true q p.n (and_l (ltb q p.n) (ltb i p.n) (and_l (ltb q p.n && ltb i p.n) _ e))

module _ (r : Record) (cells : List ℕ) (q : ℕ) (f : List ℕ) where
  abbrev b : Board
  b = board_with r cells

  judged-closed : (judge_open b).number ≢ 0 → judge_receiving b q ≡ judge_open b
  unfolding judge_receiving
  judged-closed ne = refused-first (judge_open b) _ ne

  pub receive-closed : (o : Outcome) → o ≡ judge_open b → o.number ≢ 0 → record { answer = o; board = b } ≡ receiving b q f
  unfolding receiving taking is_taken
  receive-closed o e ne =
      let j = judged-closed (λ z. ne (ap (λ (x : Outcome). x.number) e ∙ z)) in
      rw (j, sym e, ne_eqb o.number 0 ne) refl

  -- Whose frames count as the default matters only for a frame that is taken.
  abbrev Taken : List Slot → Outcome → List ℕ → Type 0
  Taken list o after =
      Takes r.plan q list r.marks (due r.plan q r.board r.round) (sent r.plan q r.board r.round) (decode current f) cells o after

  module _ (e : (judge_open b).number ≡ 0) where
    judged-so : (list : List Slot) (o : Outcome) (after : List ℕ) → Taken list o after → judge_receiving b q ≡ o
    unfolding judge_receiving
    judged-so list o after t = taken-first (judge_open b) _ e ∙ sym t.answer

    pub receive-refused : (list : List Slot) (o : Outcome) (after : List ℕ) → Taken list o after → o.number ≢ 0
        → record { answer = o; board = board_with r after } ≡ receiving b q f
    unfolding receiving taking is_taken
    receive-refused list o after t ne =
        let no = ne_eqb o.number 0 ne in
        ap (λ left. record { answer = o; board = board_with r left }) (rw no at t.cells) ∙ rw (judged-so list o after t, no) refl

    pub receive-taken : (after : List ℕ) → Taken r.list (taken []) after → (marks : ℕ) → marks ≡ insert q r.marks
        → record { answer = taken []; board = board_with (record r { marks = marks }) after } ≡ receiving b q f
    unfolding receiving taking receive is_taken
    receive-taken after t marks m =
        ap₂ (λ k left. record { answer = taken []; board = board_with (record r { marks = k }) left }) m t.cells ∙ rw (judged-so r.list (taken []) after t) refl

    -- A frame that is taken was due.
    taken-due : (list : List Slot) (after : List ℕ) → Taken list (taken []) after → due r.plan q r.board r.round ≡ true
    taken-due list after t =
        cases (due r.plan q r.board r.round) (λ y. y)
        (λ y. absurd (let w : taken [] ≡ refused 14 = rw y at t.answer in let v : 0 ≡ 14 = ap (λ (o : Outcome). o.number) w in omega arith))

    pub taken-small : (list : List Slot) (after : List ℕ) → Taken list (taken []) after → q < 8
    taken-small list after t = omega (arith, due_below r.plan q r.board r.round (taken-due list after t), (open-stands b e).standing.most-boards)
