-- A keeper in the midst of a step of the session, when it has heard some boards: it is open, stands where it stood, and sends the same frame.
-- Assumes nothing.
use Prim.Native.Nat.{ℕ, zero, suc, ◌≤◌, ◌<◌}
use mathlib.Core.Path.{◌≡◌, refl, sym, ◌∙◌, ap, subst}
use mathlib.Core.Bool.{true}
use native.Mathlib.Omega.{arith}
use lib.Dec.{ltb}
use lib.ListN.{length}
use Rattle.sets.proofs.Tests.{cases}
use Rattle.schedule.specs.Schedule.{rounds, steps, step_run, step_round}
use Rattle.protocol.specs.declared.records.Record.{Record}
use Rattle.protocol.specs.Records.{run_ended}
use Rattle.protocol.specs.Rounds.{onto, Board, next_round, convert, close}
use Rattle.protocol.specs.Calls.{fresh_record, frame_of}
use Rattle.protocol.specs.Session.{Adversary, Setting, at, take_all, keeper, Sound}
use Rattle.protocol.proofs.Judgement.{Good, Open, open-taken}
use Rattle.synchronous.proofs.Reached.{fresh-good, close-good, close-plan, close-length}
use Rattle.protocol.proofs.Taken.{closing-taken}
use Rattle.synchronous.proofs.Hearing.{heard-open, heard-length, hear-shape}
use Rattle.synchronous.proofs.Synchronous.{told, canon, standing, keeper-facts, begun-shape, at-start, at_next, at_width}
use Rattle.synchronous.proofs.AnyOrder.{part-frame}
use Rattle.protocol.proofs.Turns.{begun-length}

-- What board i is in step j when it has heard the boards below q.
pub record MidStep (s : Setting) (a : Adversary) (j i : ℕ) (b : Board) : Type 0 where
  pub opened : Open b
  pub width : b.width ≡ s.width
  pub plan : b.rec.plan ≡ s.plan
  pub board : b.rec.board ≡ i
  pub run : b.rec.run ≡ step_run s.plan (suc j)
  pub round : b.rec.round ≡ step_round s.plan (suc j)
  pub size : length b.cells ≡ length (at s a j i).cells
  pub sends : frame_of b ≡ frame_of (at s a j i)

-- What board i is after any step.
pub record Stays (s : Setting) (i : ℕ) (b : Board) : Type 0 where
  pub plan : b.rec.plan ≡ s.plan
  pub board : b.rec.board ≡ i
  pub good : Good b.rec

-- A closing keeps the board's number.
close-board : (b : Board) → (close b).rec.board ≡ b.rec.board
unfolding close next_round convert run_ended
close-board b = cases (ltb b.rec.round.0 (rounds b.rec.plan).0) (λ e. rw e) (λ e. rw e)

module _ (s : Setting) (a : Adversary) (sound : Sound s) where
  pub part-heard : (j i q : ℕ) → keeper s i ≡ true → j < steps s.plan → q ≤ s.plan.n → MidStep s a j i (take_all (told s a i j) (at s a j i) q)
  part-heard j i q k l h =
      let st = standing s a sound j i k l in
      let r = canon s a sound i j (at s a j i).rec.list in
      let cells = (at s a j i).cells in
      let msg = told s a i j in
      let g : Good r = subst Good st.shape st.good in
      let here = at s a j i in
      let is : here ≡ onto here r cells = ap (λ (x : Record). onto here x cells) st.shape in
      subst (MidStep s a j i) (sym (hear-shape here.width r g refl msg cells st.room (at s a j i) is q h))
      (record {
        width = at_width s a j i (keeper-facts s a sound i k).0;
        opened = heard-open here.width r g refl msg cells st.room q h;
        plan = refl;
        board = refl;
        run = refl;
        round = refl;
        size = heard-length r g msg cells q;
        sends = part-frame here.width r g refl cells st.room msg q h ∙ ap frame_of (sym is);
      })

  at-close : (j i : ℕ) → keeper s i ≡ true → suc j ≤ steps s.plan → at s a (suc j) i ≡ close (take_all (told s a i j) (at s a j i) s.plan.n)
  at-close j i k l =
      let h = part-heard j i s.plan.n k l (omega arith) in
      let b = take_all (told s a i j) (at s a j i) s.plan.n in
      at_next s a i j (keeper-facts s a sound i k).0 ∙ closing-taken b (ap (λ o. o.number) (open-taken b h.opened))

  -- Beginning, hearing and closing keep the number of cells.
  pub cells-kept : (j i : ℕ) → keeper s i ≡ true → j ≤ steps s.plan → length (at s a j i).cells ≡ length (s.buffer i)
  cells-kept zero i k l =
      ap (λ (b : Board). length b.cells) (at-start s a i (keeper-facts s a sound i k).0 ∙ begun-shape s a sound i k)
      ∙ begun-length s.width s.plan.n (s.buffer i) (sound.cells-enough i k)
  cells-kept (suc j) i k l =
      let h = part-heard j i s.plan.n k (omega arith) (omega arith) in
      ap (λ (x : Board). length x.cells) (at-close j i k l) ∙ close-length _ h.opened ∙ h.size ∙ cells-kept j i k (omega arith)

  -- So do its plan, its number and a good record stay, past the last step too.
  pub stays : (j i : ℕ) → keeper s i ≡ true → j ≤ steps s.plan → Stays s i (at s a j i)
  stays zero i k l =
      let (below, _, ne) = keeper-facts s a sound i k in
      subst (Stays s i) (sym (at-start s a i below ∙ begun-shape s a sound i k))
      (unfold fresh_record in record { plan = refl; board = refl; good = fresh-good s.plan i sound.accepted below ne })
  stays (suc j) i k l =
      let h = part-heard j i s.plan.n k (omega arith) (omega arith) in
      let b = take_all (told s a i j) (at s a j i) s.plan.n in
      subst (Stays s i) (sym (at-close j i k l))
      (record { plan = close-plan b ∙ h.plan; board = close-board b ∙ h.board; good = close-good b h.opened.good })
