-- What a handing in, a writing and a closing that are taken have passed, and what they leave; one that is refused leaves the board as it is.
-- Assumes nothing.
use Prim.Native.Nat.{ℕ, ◌≤◌, ◌<◌}
use mathlib.Core.Path.{◌≡◌, refl, sym, ◌∙◌, ap₂, ap}
use mathlib.Core.List.{List, ◌∷◌, ◌++◌, []}
use mathlib.Core.Bool.{Bool, true, false, not, ◌&&◌}
use native.Mathlib.Omega.{arith}
use lib.ListN.{length, take, drop, get_or}
use lib.Dec.{ltb, eqb}
use lib.Seq.{take_at}
use borrow.Author.Tests.{ltb-true, ltb-false, lt-ltb, le-ltb}
use Rattle.sets.proofs.Tests.{cases, and_l}
use Rattle.sets.specs.Sets.{member}
use Rattle.sets.specs.Search.{any}
use Rattle.refusals.specs.Outcome.{Outcome, taken, refused, and_then}
use Rattle.refusals.proofs.Outcomes.{taken-first, both-taken, passed}
use Rattle.plan.specs.declared.plan.Plan.{Plan}
use Rattle.schedule.specs.declared.rounds.Round.{Round}
use Rattle.schedule.specs.Schedule.{rounds}
use Rattle.protocol.specs.Rounds.{Board, receive, next_round, convert, close}
use Rattle.protocol.specs.Calls.{Output, judge_open, is_taken, wire_of, judge_sending, sending, taking, judge_receiving, closing}
use Rattle.protocol.specs.Nodes.{sent, due}
use Rattle.protocol.proofs.Judgement.{open-facts, Open, taken_is}

-- What a handing in that is taken has passed.
pub receiving-facts : (b : Board) (q : ℕ) → (judge_receiving b q).number ≡ 0
    → Open b × (due b.rec.plan q b.rec.board b.rec.round ≡ true) × (member q b.rec.marks ≡ false)
unfolding judge_receiving
receiving-facts b q e =
    let r = b.rec in
    let (e1, e2) = both-taken (judge_open b) _ e in
    let d = due r.plan q r.board r.round in
    let on : d ≡ true = cases d (λ x. x) (λ x. absurd (let z : 14 ≡ 0 = rw x at e2 in let y : ⊥ = omega arith in y)) in
    (open-facts b e1, on, (passed (member q r.marks) (refused 15) (taken []) (omega arith) (rw on at e2)).0)

pub due-sender : (p : Plan) (q i : ℕ) (k : Round) → due p q i k ≡ true → q < p.n
unfolding due
due-sender p q i k e =
    let rest = not (eqb q i) && (not (eqb i p.dealer) && ltb 0 (length (sent p q i k))) in
    ltb-true q p.n (and_l (ltb q p.n) (ltb i p.n) (and_l (ltb q p.n && ltb i p.n) rest e))

pub taking-taken : (b : Board) (q : ℕ) (vs : List ℕ) → (judge_receiving b q).number ≡ 0 → (taking b q vs).board ≡ receive q vs b
unfolding taking
taking-taken b q vs e = rw (taken_is (judge_receiving b q) e)

pub taking-refused : (b : Board) (q : ℕ) (vs : List ℕ) → is_taken (judge_receiving b q) ≡ false → (taking b q vs).board ≡ b
unfolding taking
taking-refused b q vs e = rw e

pub closing-taken : (b : Board) → (judge_open b).number ≡ 0 → (closing b).board ≡ close b
unfolding closing
closing-taken b e = rw (taken_is (judge_open b) e)

pub closing-refused : (b : Board) → is_taken (judge_open b) ≡ false → (closing b).board ≡ b
unfolding closing
closing-refused b e = rw e

-- What a writing leaves, by what it meets first.
abbrev pub some_due : Board → Bool
some_due b = let r = b.rec in any (λ i. due r.plan r.board i r.round) r.plan.n

abbrev pub output : Outcome → List ℕ → Output
output o out = record { answer = o; out = out }

module _ (b : Board) (out : List ℕ) where
  pub sending-closed : is_taken (judge_open b) ≡ false → sending b out ≡ output (judge_open b) out
  unfolding sending judge_sending and_then is_taken
  sending-closed e = rw (e, e)

  module _ (e : (judge_open b).number ≡ 0) where
    pub sending-nothing : some_due b ≡ false → sending b out ≡ output (refused 16) out
    unfolding sending judge_sending is_taken
    sending-nothing x = rw (taken-first (judge_open b) _ e, x) refl

    pub sending-short : some_due b ≡ true → length out < length (wire_of b) → sending b out ≡ output (refused 17) out
    unfolding sending judge_sending is_taken
    sending-short x l = rw (taken-first (judge_open b) _ e, x, lt-ltb (length out) (length (wire_of b)) l) refl

    pub sending-written : some_due b ≡ true → length (wire_of b) ≤ length out
        → sending b out ≡ output (taken (length (wire_of b) ∷ [])) (wire_of b ++ drop (length (wire_of b)) out)
    unfolding sending judge_sending is_taken
    sending-written x l = rw (taken-first (judge_open b) _ e, x, le-ltb (length out) (length (wire_of b)) l) refl

-- A writing that is taken is made by an open board, fits the output and gives the board's frame.
pub sending-open : (b : Board) (out : List ℕ) → (sending b out).answer.number ≡ 0 → Open b
unfolding sending judge_sending
sending-open b out e = open-facts b (both-taken (judge_open b) _ e).0

pub record Gives (b : Board) (out : List ℕ) (k : ℕ) : Type 0 where
  pub fits : k ≤ length out
  pub frame : take k (sending b out).out ≡ wire_of b

pub sending-gives : (b : Board) (out : List ℕ) (k : ℕ) → (sending b out).answer ≡ taken (k ∷ []) → Gives b out k
unfolding sending judge_sending
sending-gives b out k e =
    let f = wire_of b in
    let (e1, e2) = both-taken (judge_open b) _ (ap (λ o. o.number) e) in
    let on : some_due b ≡ true = cases (some_due b) (λ x. x) (λ x. absurd (let z : 16 ≡ 0 = rw x at e2 in let y : ⊥ = omega arith in y)) in
    let fits = ltb-false (length out) (length f) (passed (ltb (length out) (length f)) (refused 17) _ (omega arith) (rw on at e2)).0 in
    let left = sending-written b out e1 on fits in
    let size : length f ≡ k = ap (λ (o : Outcome). get_or o.values 0 0) (sym (ap (λ (o : Output). o.answer) left) ∙ e) in
    record {
      fits = omega arith;
      frame = ap₂ take (sym size) (ap (λ (o : Output). o.out) left) ∙ take_at f (drop (length f) out) (length f) refl;
    }

-- A closing is taken exactly if the board is open.
pub closing-open : (b : Board) → (closing b).answer.number ≡ 0 → (judge_open b).number ≡ 0
unfolding closing
closing-open b e = (both-taken (judge_open b) _ e).0

pub open-closing : (b : Board) → (judge_open b).number ≡ 0 → (closing b).answer.number ≡ 0
unfolding closing
open-closing b e = ap (λ o. o.number) (taken-first (judge_open b) _ e)

-- A board keeps its width.
pub taking-width : (b : Board) (q : ℕ) (vs : List ℕ) → (taking b q vs).board.width ≡ b.width
unfolding taking receive
taking-width b q vs = cases (is_taken (judge_receiving b q)) (λ e. rw e) (λ e. rw e)

pub closing-width : (b : Board) → (closing b).board.width ≡ b.width
unfolding closing close next_round convert
closing-width b =
    cases (is_taken (judge_open b))
    (λ e. rw e (cases (ltb b.rec.round.0 (rounds b.rec.plan).0) (λ l. rw l) (λ l. rw l)))
    (λ e. rw e)
