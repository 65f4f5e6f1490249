-- The calls on a board of one-byte values and on the same board in two bytes.
-- Assumes nothing.
use Prim.Native.Nat.{ℕ, ◌+◌, ◌*◌, ◌/◌, ◌%◌, ◌≤◌, ◌<◌}
use mathlib.Core.Path.{◌≡◌, refl, sym, ◌∙◌, ap, ap₂, subst}
use mathlib.Core.Logic.{◌⊎◌, inl, inr, ⊎_elim}
use mathlib.Core.Bool.{Bool, true, false, cond}
use mathlib.Core.List.{List, [], ◌∷◌, ◌++◌, map}
use native.Mathlib.Omega.{arith}
use lib.Dec.{eqb, leb, ltb}
use lib.ListN.{length, drop, length-map}
use borrow.Author.Tests.{eq-eqb, leb-false, ltb-true, ltb-false}
use Rattle.codec.specs.Codec.{one, two, encode, pairs, decode}
use Rattle.sets.specs.Sets.{member}
use Rattle.sets.proofs.Tests.{cases, clash}
use Rattle.refusals.specs.Outcome.{Outcome, taken, refused, and_then}
use Rattle.plan.specs.declared.plan.Plan.{Plan}
use Rattle.plan.specs.Calls.{judged}
use Rattle.plan.specs.Values.{default}
use Rattle.tree.specs.Labels.{Label}
use Rattle.protocol.specs.Nodes.{read, sent, due, frame}
use Rattle.protocol.specs.Rounds.{board_of, Board, counted, receive, close}
use Rattle.protocol.specs.Calls.{Result, Output, is_taken, judge_cells, judge_open, judge_beginning, beginning, fresh_record, dealing, judge_receiving, taking, receiving, frame_of, wire_of, sending, closed_values, closing}
use Rattle.protocol.proofs.Bounds.{read_small}
use Rattle.protocol.proofs.Judgement.{is-taken, taken_is, plan-default, Open, open-facts, open-other}
use Rattle.protocol.proofs.Taken.{receiving-facts, some_due, output, sending-closed, sending-nothing, sending-short, sending-written}
use Rattle.agreement.specs.Lists.{Call, leaves}
use Rattle.widening.specs.Widening.{wide, wide_bytes, wide_record, wide_board, wide_result, wide_frame_in, Wider, receives-wider, sends-wider, closes-wider, decides-wider}
use Rattle.widening.specs.Claims.{Narrow, WideWriting, CallsSame, BeginningSame, DealingSame}
use Rattle.widening.proofs.Rounds.{cleared-wide, read_wide, fill-wide, close-wide}

-- Values below 256 are written with 00 before each.
encode-small : (v : ℕ) (vs : List ℕ) → v < 256 → encode two vs ≡ wide_bytes vs → encode two (v ∷ vs) ≡ wide_bytes (v ∷ vs)
unfolding encode wide_bytes
encode-small v vs l rest =
    let high : v / 256 ≡ 0 = omega arith in
    let low : v % 256 ≡ v = omega arith in
    λ j. high j ∷ (low j ∷ rest j)

encode-read : (f : Label → ℕ) (αs : List Label) → ((α : Label) → f α < 256) → encode two (map f αs) ≡ wide_bytes (map f αs)
encode-read f [] small = unfold encode wide_bytes in refl
encode-read f (α ∷ αs) small = encode-small (f α) (map f αs) (small α) (encode-read f αs small)

-- Bytes so widened have the same values.
wide-length : (f : List ℕ) → length (wide_bytes f) ≡ 2 * length f
unfolding wide_bytes
wide-length [] = refl
wide-length (v ∷ f) = omega (arith, wide-length f)

pairs-wide : (f : List ℕ) → pairs (wide_bytes f) ≡ f
unfolding pairs wide_bytes
pairs-wide [] = refl
pairs-wide (v ∷ f) = ap₂ ◌∷◌ (let z : 0 * 256 + v ≡ v = omega arith in z) (pairs-wide f)

pub decode-wide : (f : List ℕ) → decode two (wide_bytes f) ≡ decode one f
unfolding decode
decode-wide f =
    let even : length (wide_bytes f) % 2 ≡ 0 = omega (arith, wide-length f) in
    rw (eq-eqb (length (wide_bytes f) % 2) 0 even) (pairs-wide f)

-- What judges a call does not look at what cells hold.
open-wide : (b : Board) → judge_open (wide_board b) ≡ judge_open b
unfolding judge_open judge_cells wide_board wide_record
open-wide b = rw (length-map b.cells wide)

receive-judged : (b : Board) (q : ℕ) → judge_receiving (wide_board b) q ≡ judge_receiving b q
unfolding judge_receiving wide_board wide_record
receive-judged b q =
    let r = b.rec in
    ap (λ o. and_then o (cond (due r.plan q r.board r.round) (cond (member q r.marks) (refused 15) (taken [])) (refused 14))) (open-wide b)

-- The default of an open board is a value.
open-default : (b : Board) → Open b → default b.rec.plan < b.rec.plan.span
open-default b o = plan-default b.rec.plan o.good.plan-good

-- Handing in.
receive-wide : (b : Board) (q : ℕ) (vs : List ℕ) → b.rec.plan.span ≤ 255 → Open b → receive q vs (wide_board b) ≡ wide_board (receive q vs b)
unfolding receive wide_board wide_record
receive-wide b q vs m o =
    let r = b.rec in
    let αs = sent r.plan q r.board r.round in
    ap (board_of two (receive q vs b).rec) (fill-wide r.plan m (open-default b o) q αs (counted r.list q αs vs) b.cells)

pub taking-wide : (b : Board) (q : ℕ) (vs : List ℕ) → b.rec.plan.span ≤ 255 → taking (wide_board b) q vs ≡ wide_result (taking b q vs)
unfolding taking wide_result
taking-wide b q vs m =
    cases (is_taken (judge_receiving b q))
    (λ e. let (o, _, _) = receiving-facts b q (is-taken (judge_receiving b q) e) in
    rw (receive-judged b q, e) (ap (λ x. record { answer = judge_receiving b q; board = x }) (receive-wide b q vs m o)))
    (λ e. rw (receive-judged b q, e))

-- Closing.
close-narrow : (b : Board) → Narrow b → Open b → close (wide_board b) ≡ wide_board (close b)
close-narrow b n o =
    subst (λ w. close (wide_board (board_of w b.rec b.cells)) ≡ wide_board (close (board_of w b.rec b.cells))) (sym n.width)
    (close-wide b.rec n.span (open-default b o) b.cells)

pub closing-wide : (b : Board) → Narrow b → closing (wide_board b) ≡ wide_result (closing b)
unfolding closing wide_result
closing-wide b n =
    cases (is_taken (judge_open b))
    (λ e. let same = close-narrow b n (open-facts b (is-taken (judge_open b) e)) in
    let said : closed_values (close (wide_board b)).rec ≡ closed_values (close b).rec = ap (λ (x : Board). closed_values x.rec) same ∙ unfold wide_board wide_record in refl in
    rw (open-wide b, e) (ap₂ (λ x y. record { answer = and_then (judge_open b) (taken x); board = y }) said same))
    (λ e. rw (open-wide b, e) (ap (λ o. record { answer = o; board = wide_board b }) (refusal e _ _)))
  where
    refusal : is_taken (judge_open b) ≡ false → (x y : Outcome) → and_then (judge_open b) x ≡ and_then (judge_open b) y
    refusal e x y = unfold and_then is_taken in rw e

-- Writing.
pub frame-wide : (b : Board) → b.rec.plan.span ≤ 255 → frame_of (wide_board b) ≡ frame_of b
unfolding frame_of frame wide_board wide_record
frame-wide b m = ap (λ f. map f (sent b.rec.plan b.rec.board b.rec.board b.rec.round)) (read_wide b.rec.plan m b.cells)

wire-wide : (b : Board) → Narrow b → Open b → wire_of (wide_board b) ≡ wide_bytes (wire_of b)
unfolding wire_of wide_board frame_of frame encode
wire-wide b n o =
    let r = b.rec in
    let small : (α : Label) → read r.plan b.cells α < 256 = λ α. omega (arith, read_small r.plan (open-default b o) b.cells α, n.span) in
    ap (encode two) (frame-wide b n.span)
    ∙ encode-read (read r.plan b.cells) (sent r.plan r.board r.board r.round) small
    ∙ ap (λ w. wide_bytes (encode w (frame_of b))) (sym n.width)

module _ (b : Board) (out : List ℕ) where
  abbrev number : ℕ
  number = (sending b out).answer.number

  -- A writing comes to its length, and to 17, exactly if the board is open and a frame of it is due.
  comes : (judge_open b).number ≡ 0 → some_due b ≡ true → (number ≡ 0) ⊎ (number ≡ 17)
  comes e x =
      cases (ltb (length out) (length (wire_of b)))
      (λ l. inr (ap (λ (o : Output). o.answer.number) (sending-short b out e x (ltb-true (length out) (length (wire_of b)) l))))
      (λ l. inl (ap (λ (o : Output). o.answer.number) (sending-written b out e x (ltb-false (length out) (length (wire_of b)) l))))

  came : (number ≡ 0) ⊎ (number ≡ 17) → ((judge_open b).number ≡ 0) × (some_due b ≡ true)
  came h =
      cases (is_taken (judge_open b))
      (λ e. let t = is-taken (judge_open b) e in
      cases (some_due b)
      (λ x. (t, x))
      (λ x. let z : number ≡ 16 = ap (λ (o : Output). o.answer.number) (sending-nothing b out t x) in
      absurd (⊎_elim (λ y. let w : ⊥ = omega arith in w) (λ y. let w : ⊥ = omega arith in w) h)))
      (λ e. let z : number ≡ (judge_open b).number = ap (λ (o : Output). o.answer.number) (sending-closed b out e) in
      absurd (⊎_elim (λ y. clash (taken_is (judge_open b) (sym z ∙ y)) e) (λ y. open-other b 17 (omega arith) (omega arith) (omega arith) (omega arith) (sym z ∙ y)) h))

writing-wide : (b : Board) → Narrow b → (out out' : List ℕ) → WideWriting b out out'
writing-wide b n out out' = record {
  as_before = λ not_taken not_IsShort.
      cases (is_taken (judge_open b))
      (λ e. let t = is-taken (judge_open b) e in
      cases (some_due b)
      (λ x. absurd (⊎_elim not_taken not_IsShort (comes b out t x)))
      (λ x. sending-nothing (wide_board b) out' (open-too t) (due-too x) ∙ ap (λ (o : Output). output o.answer out') (sym (sending-nothing b out t x))))
      (λ e. sending-closed (wide_board b) out' (ap is_taken (open-wide b) ∙ e)
      ∙ ap (λ o. output o out') (open-wide b)
      ∙ ap (λ (o : Output). output o.answer out') (sym (sending-closed b out e)));
  short = λ h l.
      let (t, x) = came b out h in
      sending-short (wide_board b) out' (open-too t) (due-too x) (subst (λ k. length out' < k) (sym (size t)) l);
  written = λ h l.
      let (t, x) = came b out h in
      sending-written (wide_board b) out' (open-too t) (due-too x) (subst (λ k. k ≤ length out') (sym (size t)) l)
      ∙ ap₂ (λ k f. output (taken (k ∷ [])) (f ++ drop k out')) (size t) (wire-wide b n (open-facts b t));
}
  where
    open-too : (judge_open b).number ≡ 0 → (judge_open (wide_board b)).number ≡ 0
    open-too t = ap (λ o. o.number) (open-wide b) ∙ t

    due-too : {v : Bool} → some_due b ≡ v → some_due (wide_board b) ≡ v
    due-too x = unfold wide_board wide_record in x

    size : (judge_open b).number ≡ 0 → length (wire_of (wide_board b)) ≡ 2 * length (wire_of b)
    size t = ap length (wire-wide b n (open-facts b t)) ∙ wide-length (wire_of b)

-- All calls.
receiving-wide : (b : Board) → Narrow b → (q : ℕ) (f : List ℕ) → receiving (wide_board b) q (wide_bytes f) ≡ wide_result (receiving b q f)
unfolding receiving wide_board
receiving-wide b n q f =
    ap (taking (wide_board b) q) (decode-wide f ∙ ap (λ w. decode w f) (sym n.width)) ∙ taking-wide b q (decode b.width f) n.span

pub leaves-wide : {c c' : Call} → Wider c c' → (b : Board) → Narrow b → leaves c' (wide_board b) ≡ wide_board (leaves c b)
unfolding leaves wide_result
leaves-wide (receives-wider i q f) b n = ap (λ (x : Result). x.board) (receiving-wide b n q f)
leaves-wide (sends-wider i out out') b n = refl
leaves-wide (closes-wider i) b n = ap (λ (x : Result). x.board) (closing-wide b n)
leaves-wide (decides-wider i) b n = refl

pub calls_same : CallsSame
calls_same b n = record {
  handed-in = receiving-wide b n;
  wrote = writing-wide b n;
  closed = closing-wide b n;
  decision = unfold wide_board wide_record in refl;
  left = λ c c' x. leaves-wide x b n;
}

-- Beginning.
begin-judged : (p : Plan) (i : ℕ) (cells : List ℕ) → judge_beginning p i (map wide cells) ≡ judge_beginning p i cells
unfolding judge_beginning judge_cells
begin-judged p i cells = rw (length-map cells wide)

pub beginning-same : BeginningSame
unfolding beginning wide_board wide_record wide_result
beginning-same p i cells =
    cases (is_taken (judge_beginning p i cells))
    (λ e. rw (begin-judged p i cells, e) (ap (λ c. record { answer = judge_beginning p i cells; board = board_of two (fresh_record p i) c }) (cleared-wide p.n cells)))
    (λ e. rw (begin-judged p i cells, e))

pub dealing-same : DealingSame
unfolding dealing wide_frame_in and_then is_taken encode wide_bytes
dealing-same p v m =
    cases (eqb (judged p).number 0)
    (λ e. cases (leb p.span v)
    (λ l. rw (e, l))
    (λ l. rw (e, l) (ap taken (encode-small v [] (omega (arith, leb-false p.span v l)) refl))))
    (λ e. rw (e, e))
