-- Writing a frame: when a board's own frame is due to another board, whether it fits, and what writing leaves.
-- Assumes nothing.
use Prim.Native.Nat.{◌*◌, ℕ, ◌-◌, ◌≤◌, ◌<◌}
use mathlib.Core.Path.{◌≡◌, refl, sym, ap, ap₂, ◌∙◌}
use mathlib.Core.Logic.{◌≢◌, ⊎_elim}
use mathlib.Core.Bool.{Bool, true, false, not, ◌&&◌, ◌||◌}
use mathlib.Core.List.{List, [], ◌∷◌, ◌++◌, map}
use native.Mathlib.Omega.{arith}
use lib.Dec.{eqb, ltb}
use lib.ListN.{length, length-map, drop}
use borrow.Author.Tests.{eq-eqb, ne_eqb, eqb-true, eqb-false, lt-ltb, le-ltb, ltb-true, ltb-false}
use Rattle.codec.specs.Codec.{current, value_size, encode}
use Rattle.codec.proofs.Codec.{length-encode}
use Rattle.sets.specs.Search.{any}
use Rattle.sets.proofs.Tests.{cases, is_false, and_l, and_r, not_t, or-true, or_l, or_r}
use Rattle.sets.proofs.Search.{any-true, any_of}
use Rattle.plan.specs.declared.plan.Plan.{Plan}
use Rattle.schedule.specs.declared.rounds.Round.{Round}
use Rattle.refusals.specs.Outcome.{Outcome, taken, refused}
use Rattle.refusals.proofs.Outcomes.{taken-first}
use Rattle.protocol.specs.declared.records.Record.{Record}
use Rattle.protocol.specs.Nodes.{read, carried, sent, due, frame}
use Rattle.protocol.specs.Rounds.{board_with, Board}
use Rattle.protocol.specs.Calls.{is_taken, judge_open, frame_of, wire_of, judge_sending, sending}
use Rattle.protocol.proofs.Nodes.{sent-same}
use Rattle.protocol.proofs.Taken.{output, sending-closed}
use Rattle.tree.specs.Labels.{Label}
use Rattle.frames.specs.Nodes.{Standing}
use Rattle.frames.proofs.Listed.{sent-carried}
use Rattle.sending.specs.Writing.{wire, Writes}

-- Three different numbers are not all below 2.
three : (i a b : ℕ) → a ≢ b → a ≢ i → i ≢ b → i < 2 → a < 2 → b < 2 → ⊥
three i a b x y z l m h = omega arith

-- A number below 3 that is neither of two.
free : (a b : ℕ) → (i : ℕ) × (i < 3) × (a ≢ i) × (i ≢ b)
free a b =
    cases (eqb a 0)
    (λ e. let h : a ≡ 0 = eqb-true a 0 e in
    cases (eqb b 1)
    (λ f. let k : b ≡ 1 = eqb-true b 1 f in (2, omega arith, λ z. omega arith, λ z. omega arith))
    (λ f. let k : b ≢ 1 = eqb-false b 1 f in (1, omega arith, λ z. omega arith, λ z. k (sym z))))
    (λ e. let h : a ≢ 0 = eqb-false a 0 e in
    cases (eqb b 0)
    (λ f. let k : b ≡ 0 = eqb-true b 0 f in
    cases (eqb a 1)
    (λ d. let j : a ≡ 1 = eqb-true a 1 d in (2, omega arith, λ z. omega arith, λ z. omega arith))
    (λ d. let j : a ≢ 1 = eqb-false a 1 d in (1, omega arith, j, λ z. omega arith)))
    (λ f. let k : b ≢ 0 = eqb-false b 0 f in (0, omega arith, h, λ z. k (sym z))))

module _ {p : Plan} {holders : List ℕ} {i : ℕ} {k : Round} (s : Standing p holders i k) where
  -- To whom a frame of the board is due.
  due-other : (j : ℕ) → due p i j k ≡ true → (j < p.n) × (i ≢ j) × (j ≢ p.dealer) × (0 < length (sent p i i k))
  unfolding due
  due-other j e =
      let a = ltb i p.n && ltb j p.n in
      let some = ltb 0 (length (sent p i j k)) in
      let rest = and_r a _ e in
      let far = and_r (not (eqb i j)) _ rest in (
        ltb-true j p.n (and_r (ltb i p.n) _ (and_l a _ e)),
        eqb-false i j (not_t _ (and_l (not (eqb i j)) _ rest)),
        eqb-false j p.dealer (not_t _ (and_l (not (eqb j p.dealer)) some far)),
        (let z = ltb-true 0 (length (sent p i j k)) (and_r (not (eqb j p.dealer)) some far) in
            omega (arith, z, ap length (sent-same p i j i k))),
      )

  none-sent : length (sent p i i k) ≡ 0 → any (λ j. due p i j k) p.n ≡ false
  none-sent e = is_false _ λ t.
      let (j, l, d) = any-true (λ j. due p i j k) p.n t in
      let (_, _, _, some) = due-other j d in
      omega arith

  none_other : p.n < 3 → any (λ j. due p i j k) p.n ≡ false
  none_other l = is_false _ λ t.
      let (j, h, d) = any-true (λ j. due p i j k) p.n t in
      let (_, a, b, _) = due-other j d in
      three j i p.dealer s.other a b (omega arith) (omega (arith, s.board-below)) (omega (arith, s.dealer-below))

  some-other : length (sent p i i k) ≢ 0 → 3 ≤ p.n → any (λ j. due p i j k) p.n ≡ true
  unfolding due
  some-other ne l =
      let (j, h, a, b) = free i p.dealer in
      any_of (λ j. due p i j k) p.n j (omega arith)
      (rw (lt-ltb i p.n s.board-below, lt-ltb j p.n (omega arith), ne_eqb i j a, ne_eqb j p.dealer b)
      (lt-ltb 0 (length (sent p i j k)) (omega (arith, ap length (sent-same p i j i k)))))

  -- 16 and 17. Nothing is due to another board exactly if the frame is empty or there is no other board.
  module _ (cells out : List ℕ) where
    abbrev idle : Bool
    idle = eqb (length (sent p i i k)) 0 || ltb p.n 3

    wire-length : length (wire p i k cells) ≡ value_size current * length (sent p i i k)
    unfolding frame
    wire-length = let z = length-map (sent p i i k) (read p cells) in length-encode current (frame p i i k cells) ∙ ap (λ x. value_size current * x) z

    some-due : idle ≡ false → any (λ j. due p i j k) p.n ≡ true
    some-due e =
        some-other (eqb-false (length (sent p i i k)) 0 (or_l _ _ e)) (ltb-false p.n 3 (or_r (eqb (length (sent p i i k)) 0) _ e))

    pub writes-none : idle ≡ true → Writes p i k cells out (refused 16) out
    unfolding is_taken
    writes-none e = record {
      answer = rw (⊎_elim (λ z. none-sent (eqb-true (length (sent p i i k)) 0 z)) (λ z. none_other (ltb-true p.n 3 z)) (or-true _ _ e)) refl;
      out = refl;
    }

    pub writes_short : idle ≡ false → length out < value_size current * length (sent p i i k) → Writes p i k cells out (refused 17) out
    unfolding is_taken
    writes_short e h = record {
      answer = rw (some-due e, lt-ltb (length out) (length (wire p i k cells)) (omega (arith, wire-length))) refl;
      out = refl;
    }

    pub writes-all : idle ≡ false → value_size current * length (sent p i i k) ≤ length out
        → Writes p i k cells out (taken (value_size current * length (sent p i i k) ∷ [])) (encode current (map (read p cells) (sent p i i k)) ++ drop (value_size current * length (sent p i i k)) out)
    unfolding is_taken frame
    writes-all e h = record {
      answer = rw (some-due e, le-ltb (length out) (length (wire p i k cells)) (omega (arith, wire-length))) (ap (λ x. taken (x ∷ [])) (sym wire-length));
      out = ap (λ x. encode current (map (read p cells) (sent p i i k)) ++ drop x out) (sym wire-length);
    }

  -- In round 1 the board sends nothing.
  pub idle-first : k.0 ≡ 1 → (eqb (length (sent p i i k)) 0 || ltb p.n 3) ≡ true
  unfolding sent
  idle-first one = rw (eq-eqb k.0 1 one, ne_eqb i p.dealer s.other) refl

-- In a later round, by the nodes that the frame carries.
module _ {p : Plan} {holders : List ℕ} {i : ℕ} {k : Round} (s : Standing p holders i k) (later : 2 ≤ k.0) (cells out : List ℕ)
    (count : ℕ) (e : count ≡ length (carried p i i (k.0 - 1))) where
  count-sent : count ≡ length (sent p i i k)
  count-sent = e ∙ sym (ap length (sent-carried s later i))

  idle-sent : (eqb (length (sent p i i k)) 0 || ltb p.n 3) ≡ (eqb count 0 || ltb p.n 3)
  idle-sent = ap (λ x. eqb x 0 || ltb p.n 3) (sym count-sent)

  pub later-none : (eqb count 0 || ltb p.n 3) ≡ true → Writes p i k cells out (refused 16) out
  later-none t = writes-none s cells out (idle-sent ∙ t)

  pub later-short : (eqb count 0 || ltb p.n 3) ≡ false → length out < value_size current * count → Writes p i k cells out (refused 17) out
  later-short t h = writes_short s cells out (idle-sent ∙ t) (omega (arith, count-sent))

  pub later-all : (eqb count 0 || ltb p.n 3) ≡ false → value_size current * count ≤ length out → (αs : List Label) (size : ℕ) (after : List ℕ)
      → αs ≡ carried p i i (k.0 - 1) → size ≡ length αs → after ≡ encode current (map (read p cells) αs) ++ drop (value_size current * size) out
      → Writes p i k cells out (taken (value_size current * count ∷ [])) after
  unfolding is_taken
  later-all t h αs size after x y z =
      let all = writes-all s cells out (idle-sent ∙ t) (omega (arith, count-sent)) in
      let labels : αs ≡ sent p i i k = x ∙ sym (sent-carried s later i) in
      record {
        answer = ap (λ n. taken (value_size current * n ∷ [])) count-sent ∙ all.answer;
        out = z ∙ ap₂ (λ βs n. encode current (map (read p cells) βs) ++ drop (value_size current * n) out) labels (y ∙ ap length labels) ∙ all.out;
      }

-- What writing leaves.
module _ (r : Record) (cells out : List ℕ) where
  abbrev b : Board
  b = board_with r cells

  pub send-closed : (o : Outcome) → o ≡ judge_open b → o.number ≢ 0 → record { answer = o; out = out } ≡ sending b out
  send-closed o e ne =
      let no : is_taken (judge_open b) ≡ false = unfold is_taken in ne_eqb (judge_open b).number 0 (λ z. ne (ap (λ (x : Outcome). x.number) e ∙ z)) in
      ap (λ x. output x out) e ∙ sym (sending-closed b out no)

  judged-open : (judge_open b).number ≡ 0 → (o : Outcome) (after : List ℕ)
      → Writes r.plan r.board r.round cells out o after → judge_sending b out ≡ o
  unfolding judge_sending frame_of wire_of
  judged-open e o after w = taken-first (judge_open b) _ e ∙ sym w.answer

  pub send-open : (judge_open b).number ≡ 0 → (o : Outcome) (after : List ℕ)
      → Writes r.plan r.board r.round cells out o after → record { answer = o; out = after } ≡ sending b out
  unfolding sending frame_of wire_of
  send-open e o after w = ap (λ xs. record { answer = o; out = xs }) w.out ∙ rw (judged-open e o after w) refl
