-- The reduction from lists of calls to the synchronous session, once for all boards: what a board, a call, a frame and a step are is left open.
-- The invariant is `Where`: after every prefix of a fair list a board that keeps a state has that of the session after as many steps as closings of
-- it were taken, with the frames that it took for this step and for the next. A frame may be taken a step ahead (`early`), and what is written may
-- differ from receiver to receiver. Used of boards are only the laws of `Laws`: a frame more, in any order; a closing; the frame that is written.
-- Assumes nothing.
use Prim.Native.Nat.{ℕ, suc, ◌+◌, ◌≤◌, ◌<◌}
use mathlib.Core.Path.{◌≡◌, refl, sym, ◌∙◌, ap, ap₂, subst}
use mathlib.Core.Logic.{◌≢◌, ◌⊎◌, ⊎_elim}
use mathlib.Core.Bool.{Bool, true, false, ◌&&◌, cond}
use mathlib.Core.List.{List, [], ◌∷◌, ◌++◌}
use mathlib.Core.Option.{Option, some, none, none-ne-some}
use native.Mathlib.Omega.{arith}
use lib.Dec.{eqb, leb, ltb}
use borrow.Author.Tests.{eqb-true, eqb-false, eq-eqb, ne_eqb, ltb-true, ltb-false, le-leb, lt-leb}
use Rattle.sets.proofs.Tests.{cases, clash, is_false}
use Rattle.synchronous.proofs.AnyOrder.{update, update_here, update_other}
use Rattle.agreement.proofs.Prefixes.{Prefix, Stands, prefix_refl, prefix_trans, stands-prefix, stands-next, along}

-- Boards

-- What a call takes: the frame of a sender, for a step.
pub record Entry (Frame : Type 0) : Type 0 where
  pub sender : ℕ
  pub step : ℕ
  pub frame : Frame

-- What a call writes, in a step.
pub record Letter (Frame : Type 0) : Type 0 where
  pub step : ℕ
  pub frame : Frame

-- Boards with states S: whose call it is, what it leaves of that board's state, the frame that it takes, what it writes for a receiver, and whether
-- it is a closing that is taken.
pub record Boards (S Call Frame : Type 0) : Type 0 where
  pub caller : Call → ℕ
  pub leaves : Call → S → S
  pub takes : Call → S → Option (Entry Frame)
  pub writes : Call → ℕ → S → Option (Letter Frame)
  pub ends : Call → S → Bool

-- The first of two.
or_else : {A : Type 0} → Option A → Option A → Option A
or_else none y = y
or_else (some x) y = some x

or_else_none : {A : Type 0} (x : Option A) → or_else x none ≡ x
unfolding or_else
or_else_none none = refl
or_else_none (some x) = refl

or-else-assoc : {A : Type 0} (x y z : Option A) → or_else (or_else x y) z ≡ or_else x (or_else y z)
unfolding or_else
or-else-assoc none y z = refl
or-else-assoc (some x) y z = refl

abbrev one : Bool → ℕ
one b = cond b 1 0

-- The frame of q for step j, if that is what is taken.
entry_for : {Frame : Type 0} → ℕ → ℕ → Option (Entry Frame) → Option Frame
entry_for j q none = none
entry_for j q (some e) = cond (eqb e.step j && eqb e.sender q) (some e.frame) none

module _ {Frame : Type 0} (j q : ℕ) (e : Entry Frame) where
  entry-hit : e.step ≡ j → e.sender ≡ q → entry_for j q (some e) ≡ some e.frame
  unfolding entry_for
  entry-hit a b = rw (eq-eqb e.step j a, eq-eqb e.sender q b)

  entry-step : e.step ≢ j → entry_for j q (some e) ≡ none
  unfolding entry_for
  entry-step a = rw (ne_eqb e.step j a)

  entry-sender : e.sender ≢ q → entry_for j q (some e) ≡ none
  unfolding entry_for
  entry-sender b = cases (eqb e.step j) (λ x. rw (x, ne_eqb e.sender q b)) (λ x. rw x)

-- Lists of calls: the states after them, the closings that were taken, and the frames.
module _ {S Call Frame : Type 0} (B : Boards S Call Frame) where
  unfoldable pub after_one : (ℕ → S) → Call → ℕ → S
  after_one w c i = cond (eqb i (B.caller c)) (B.leaves c (w i)) (w i)

  unfoldable pub after : (ℕ → S) → List Call → ℕ → S
  after w [] = w
  after w (c ∷ cs) = after (after_one w c) cs

  abbrev pub closes_now : (ℕ → S) → ℕ → Call → Bool
  closes_now w i c = eqb i (B.caller c) && B.ends c (w i)

  unfoldable pub closings : (ℕ → S) → ℕ → List Call → ℕ
  closings w i [] = 0
  closings w i (c ∷ cs) = cond (closes_now w i c) 1 0 + closings (after_one w c) i cs

  -- What the call brings board i from q for step j.
  abbrev brings : (ℕ → S) → ℕ → ℕ → ℕ → Call → Option Frame
  brings w i j q c = cond (eqb i (B.caller c)) (entry_for j q (B.takes c (w i))) none

  -- The first frame of q that board i takes for step j, before it closes that step; k of its closings were taken before.
  pub took_from : (ℕ → S) → ℕ → ℕ → ℕ → ℕ → List Call → Option Frame
  took_from w i k j q [] = none
  took_from w i k j q (c ∷ cs) = or_else (cond (leb k j) (brings w i j q c) none) (took_from (after_one w c) i (one (closes_now w i c) + k) j q cs)

  abbrev pub took : (ℕ → S) → ℕ → ℕ → ℕ → List Call → Option Frame
  took w i j q cs = took_from w i 0 j q cs

  pub after-append : (w : ℕ → S) (xs ys : List Call) → after w (xs ++ ys) ≡ after (after w xs) ys
  unfolding after
  after-append w [] ys = refl
  after-append w (c ∷ xs) ys = after-append (after_one w c) xs ys

  after_next : (w : ℕ → S) (before : List Call) (c : Call) → after w (before ++ (c ∷ [])) ≡ after_one (after w before) c
  unfolding after
  after_next w before c = after-append w before (c ∷ [])

  one-own : (w : ℕ → S) (c : Call) (i : ℕ) → i ≡ B.caller c → after_one w c i ≡ B.leaves c (w i)
  unfolding after_one
  one-own w c i e = rw (eq-eqb i (B.caller c) e)

  one-other : (w : ℕ → S) (c : Call) (i : ℕ) → i ≢ B.caller c → after_one w c i ≡ w i
  unfolding after_one
  one-other w c i ne = rw (ne_eqb i (B.caller c) ne)

  pub own-next : (w : ℕ → S) (before : List Call) (c : Call) (i : ℕ) → i ≡ B.caller c
      → after w (before ++ (c ∷ [])) i ≡ B.leaves c (after w before i)
  own-next w before c i e = ap (λ (v : ℕ → S). v i) (after_next w before c) ∙ one-own (after w before) c i e

  other-next : (w : ℕ → S) (before : List Call) (c : Call) (i : ℕ) → i ≢ B.caller c → after w (before ++ (c ∷ [])) i ≡ after w before i
  other-next w before c i ne = ap (λ (v : ℕ → S). v i) (after_next w before c) ∙ one-other (after w before) c i ne

  closings-append : (w : ℕ → S) (i : ℕ) (xs ys : List Call) → closings w i (xs ++ ys) ≡ closings w i xs + closings (after w xs) i ys
  unfolding closings after
  closings-append w i [] ys = omega arith
  closings-append w i (c ∷ xs) ys = omega (arith, closings-append (after_one w c) i xs ys)

  pub closings-next : (w : ℕ → S) (i : ℕ) (before : List Call) (c : Call) (x : Bool) → closes_now (after w before) i c ≡ x
      → closings w i (before ++ (c ∷ [])) ≡ closings w i before + one x
  unfolding closings
  closings-next w i before c x e =
      let whole : closings w i (before ++ (c ∷ [])) ≡ closings w i before + one (closes_now (after w before) i c) = omega (arith, closings-append w i before (c ∷ [])) in
      whole ∙ ap (λ z. closings w i before + one z) e

  pub closings-mono : (w : ℕ → S) (i : ℕ) (a b : List Call) → Prefix a b → closings w i a ≤ closings w i b
  closings-mono w i a b p = rw p.1 (omega (arith, closings-append w i a p.0))

  took-append : (w : ℕ → S) (i k j q : ℕ) (xs ys : List Call)
      → took_from w i k j q (xs ++ ys) ≡ or_else (took_from w i k j q xs) (took_from (after w xs) i (closings w i xs + k) j q ys)
  unfolding took_from after closings or_else
  took-append w i k j q [] ys = ap (λ z. took_from w i z j q ys) (let z : k ≡ 0 + k = omega arith in z)
  took-append w i k j q (c ∷ xs) ys =
      let here : Option Frame = cond (leb k j) (brings w i j q c) none in
      let sum : closings (after_one w c) i xs + (one (closes_now w i c) + k) ≡ one (closes_now w i c) + closings (after_one w c) i xs + k = omega arith in
      ap (or_else here) (took-append (after_one w c) i (one (closes_now w i c) + k) j q xs ys
      ∙ ap (λ z. or_else (took_from (after_one w c) i (one (closes_now w i c) + k) j q xs) (took_from (after (after_one w c) xs) i z j q ys)) sum)
      ∙ sym (or-else-assoc here _ _)

  -- No frame is taken for a step that is closed.
  took-past : (w : ℕ → S) (i k j q : ℕ) (cs : List Call) → j < k → took_from w i k j q cs ≡ none
  unfolding took_from or_else
  took-past w i k j q [] l = refl
  took-past w i k j q (c ∷ cs) l = rw (lt-leb k j l) (took-past (after_one w c) i (one (closes_now w i c) + k) j q cs (omega arith))

-- The session

-- Its steps; may frames be taken a step ahead; who keeps a state; who is outside F; is a frame due to a receiver, in a step, from a sender, and what is
-- it told then; the states: in a step with frames taken for it and for the next, and at the end.
pub record Session (S Frame : Type 0) : Type 0 where
  pub steps : ℕ
  pub early : Bool
  pub keeper : ℕ → Bool
  pub healthy : ℕ → Bool
  pub due : ℕ → ℕ → ℕ → Bool
  pub told : ℕ → ℕ → ℕ → Option Frame
  pub mid : ℕ → ℕ → (ℕ → Option Frame) → (ℕ → Option Frame) → S
  pub final : ℕ → S

-- What is used of boards, which begin at w₀.
pub record Laws {S Call Frame : Type 0} (B : Boards S Call Frame) (w₀ : ℕ → S) (N : Session S Frame) : Type 0 where
  -- a call that takes no frame and is no closing leaves its board alone; a closing takes no frame
  pub idle : (c : Call) (b : S) → B.takes c b ≡ none → B.ends c b ≡ false → B.leaves c b ≡ b
  pub apart : (c : Call) (b : S) → B.ends c b ≡ true → B.takes c b ≡ none
  pub start : (i : ℕ) → N.keeper i ≡ true → w₀ i ≡ N.mid 0 i (λ q. none) (λ q. none)
  pub some-step : 0 < N.steps
  -- a state is known by its frames
  pub same : (j i : ℕ) → N.keeper i ≡ true → j < N.steps → (x x' y y' : ℕ → Option Frame) → ((q : ℕ) → x q ≡ x' q) → ((q : ℕ) → y q ≡ y' q)
      → N.mid j i x y ≡ N.mid j i x' y'
  -- a frame that is taken is for this step or the next, and the first of its sender
  pub near : (j i : ℕ) → N.keeper i ≡ true → j < N.steps → (x y : ℕ → Option Frame) (c : Call) (e : Entry Frame) → B.takes c (N.mid j i x y) ≡ some e
      → (e.step ≡ j) ⊎ ((e.step ≡ suc j) × (N.early ≡ true))
  pub now : (j i : ℕ) → N.keeper i ≡ true → j < N.steps → (x y : ℕ → Option Frame) (c : Call) (e : Entry Frame) → B.takes c (N.mid j i x y) ≡ some e
      → e.step ≡ j → (x e.sender ≡ none) × (B.leaves c (N.mid j i x y) ≡ N.mid j i (update x e.sender e.frame) y)
  pub next : (j i : ℕ) → N.keeper i ≡ true → j < N.steps → (x y : ℕ → Option Frame) (c : Call) (e : Entry Frame) → B.takes c (N.mid j i x y) ≡ some e
      → e.step ≡ suc j → (y e.sender ≡ none) × (B.leaves c (N.mid j i x y) ≡ N.mid j i x (update y e.sender e.frame))
  -- closing a step in which all due frames were heard as the session tells them: what was taken for the next step is then there
  pub close : (j i : ℕ) → N.keeper i ≡ true → j < N.steps → (x y : ℕ → Option Frame) (c : Call) → B.ends c (N.mid j i x y) ≡ true
      → ((q : ℕ) → N.due i j q ≡ true → x q ≡ N.told i j q) → (N.early ≡ false → (q : ℕ) → y q ≡ none)
      → (suc j < N.steps → B.leaves c (N.mid j i x y) ≡ N.mid (suc j) i y (λ q. none)) × (suc j ≡ N.steps → B.leaves c (N.mid j i x y) ≡ N.final i)
  -- at the end nothing is taken or written
  pub over : (i : ℕ) → N.keeper i ≡ true → (c : Call) → (B.takes c (N.final i) ≡ none) × (B.ends c (N.final i) ≡ false)
  pub silent : (q : ℕ) → N.keeper q ≡ true → (c : Call) (i : ℕ) → B.writes c i (N.final q) ≡ none
  -- what a board writes in a step is what the session tells of it, whatever the board has heard
  pub written : (j q : ℕ) → N.keeper q ≡ true → j < N.steps → (x y : ℕ → Option Frame) (c : Call) (i : ℕ) (l : Letter Frame)
      → B.writes c i (N.mid j q x y) ≡ some l → (l.step ≡ j) × (N.told i j q ≡ some l.frame)

-- Fair lists

-- A frame for receiver i and step j was written by its sender q, which keeps a state, after the calls `earlier`.
pub record Written {S Call Frame : Type 0} (B : Boards S Call Frame) (w₀ : ℕ → S) (N : Session S Frame) (before : List Call) (i j q : ℕ) (f : Frame) : Type 0 where
  pub keeps : N.keeper q ≡ true
  pub earlier : List Call
  pub call : Call
  pub letter : Letter Frame
  pub stands : Stands call earlier before
  pub wrote : B.writes call i (after B w₀ earlier q) ≡ some letter
  pub in_step : letter.step ≡ j
  pub gave : f ≡ letter.frame

-- A frame of q for step j was taken by board i after the calls `earlier`, as the session tells it or as q wrote it.
pub record HandedIn {S Call Frame : Type 0} (B : Boards S Call Frame) (w₀ : ℕ → S) (N : Session S Frame) (before : List Call) (i j q : ℕ) : Type 0 where
  pub earlier : List Call
  pub call : Call
  pub entry : Entry Frame
  pub stands : Stands call earlier before
  pub own : i ≡ B.caller call
  pub entered : B.takes call (after B w₀ earlier i) ≡ some entry
  pub from : entry.sender ≡ q
  pub for : entry.step ≡ j
  pub as-sent : (N.told i j q ≡ some entry.frame) ⊎ Written B w₀ N earlier i j q entry.frame

pub record Fair {S Call Frame : Type 0} (B : Boards S Call Frame) (w₀ : ℕ → S) (N : Session S Frame) (calls : List Call) : Type 0 where
  -- the session tells of boards in F what the list has
  pub adversary : (i j q : ℕ) → N.healthy q ≡ false → N.told i j q ≡ took B w₀ i j q calls
  -- before a closing that is taken all due frames of boards outside F were handed in as they were sent
  pub heard : (c : Call) (before : List Call) → Stands c before calls → (i : ℕ) → i ≡ B.caller c → N.keeper i ≡ true → B.ends c (after B w₀ before i) ≡ true
      → closings B w₀ i before < N.steps → (x y : ℕ → Option Frame) → after B w₀ before i ≡ N.mid (closings B w₀ i before) i x y
      → (q : ℕ) → N.healthy q ≡ true → N.due i (closings B w₀ i before) q ≡ true → HandedIn B w₀ N before i (closings B w₀ i before) q

-- The invariant

module _ {S Call Frame : Type 0} (B : Boards S Call Frame) (w₀ : ℕ → S) (N : Session S Frame) where
  -- Where board i stands after the calls `before`.
  pub record Where (before : List Call) (i : ℕ) : Type 0 where
    pub most : closings B w₀ i before ≤ N.steps
    pub here : (j : ℕ) → closings B w₀ i before ≡ j → j < N.steps
        → after B w₀ before i ≡ N.mid j i (λ q. took B w₀ i j q before) (λ q. took B w₀ i (suc j) q before)
    pub done : closings B w₀ i before ≡ N.steps → after B w₀ before i ≡ N.final i
    -- nothing was taken for steps past the next, and for the next only where frames may come early
    pub late : (m q : ℕ) → closings B w₀ i before + 1 < m → took B w₀ i m q before ≡ none
    pub punctual : N.early ≡ false → (m q : ℕ) → closings B w₀ i before < m → took B w₀ i m q before ≡ none

  -- One call more, as board i sees it.
  module _ (before : List Call) (c : Call) (i : ℕ) where
    abbrev brought : ℕ → ℕ → Option Frame
    brought j q = brings B (after B w₀ before) i j q c

    took-next : (j q : ℕ) → took B w₀ i j q (before ++ (c ∷ [])) ≡ or_else (took B w₀ i j q before) (cond (leb (closings B w₀ i before) j) (brought j q) none)
    unfolding took_from
    took-next j q =
        let z : closings B w₀ i before + 0 ≡ closings B w₀ i before = omega arith in
        took-append B w₀ i 0 j q before (c ∷ [])
        ∙ ap (or_else (took B w₀ i j q before)) (or_else_none _ ∙ ap (λ k. cond (leb k j) (brought j q) none) z)

    took-same : (j q : ℕ) → brought j q ≡ none → took B w₀ i j q (before ++ (c ∷ [])) ≡ took B w₀ i j q before
    took-same j q e =
        took-next j q
        ∙ ap (or_else (took B w₀ i j q before)) (cases (leb (closings B w₀ i before) j) (λ x. rw (x, e)) (λ x. rw x))
        ∙ or_else_none (took B w₀ i j q before)

    took-new : (j q : ℕ) (f : Frame) → closings B w₀ i before ≤ j → took B w₀ i j q before ≡ none → brought j q ≡ some f → took B w₀ i j q (before ++ (c ∷ [])) ≡ some f
    unfolding or_else
    took-new j q f l e h = took-next j q ∙ rw (e, le-leb (closings B w₀ i before) j l, h)

    brought-other : (j q : ℕ) → i ≢ B.caller c → brought j q ≡ none
    brought-other j q ne = rw (ne_eqb i (B.caller c) ne)

    brought-own : (j q : ℕ) (o : Option (Entry Frame)) → i ≡ B.caller c → B.takes c (after B w₀ before i) ≡ o → brought j q ≡ entry_for j q o
    brought-own j q o e h = rw (eq-eqb i (B.caller c) e, h)

    brought-nothing : (j q : ℕ) → i ≡ B.caller c → B.takes c (after B w₀ before i) ≡ none → brought j q ≡ none
    unfolding entry_for
    brought-nothing j q e h = brought-own j q none e h

    -- A frame e is there for its step, and no other is.
    took-entry : (m : ℕ) → closings B w₀ i before ≤ m → (e : Entry Frame) → ((q : ℕ) → brought m q ≡ entry_for m q (some e)) → e.step ≡ m → took B w₀ i m e.sender before ≡ none
        → (q : ℕ) → update (λ q. took B w₀ i m q before) e.sender e.frame q ≡ took B w₀ i m q (before ++ (c ∷ []))
    took-entry m low e br z free q =
        let told : ℕ → Option Frame = λ q. took B w₀ i m q before in
        cases (eqb q e.sender)
        (λ t. let s = eqb-true q e.sender t in
        ap (update told e.sender e.frame) s ∙ update_here told e.sender e.frame
        ∙ sym (took-new m q e.frame low (ap (λ u. took B w₀ i m u before) s ∙ free) (br q ∙ entry-hit m q e z (sym s))))
        (λ t. let ne = eqb-false q e.sender t in
        update_other told e.sender e.frame q ne
        ∙ sym (took-same m q (br q ∙ entry-sender m q e (λ u. ne (sym u)))))

  -- What was taken stays.
  took-keeps : (i j q : ℕ) (f : Frame) (earlier before : List Call) → Prefix earlier before → took B w₀ i j q earlier ≡ some f → took B w₀ i j q before ≡ some f
  unfolding or_else
  took-keeps i j q f earlier before p h =
      ap (took B w₀ i j q) p.1 ∙ took-append B w₀ i 0 j q earlier p.0
      ∙ ap (λ o. or_else o (took_from B (after B w₀ earlier) i (closings B w₀ i earlier + 0) j q p.0)) h

module _ {S Call Frame : Type 0} (B : Boards S Call Frame) (w₀ : ℕ → S) (N : Session S Frame) (L : Laws B w₀ N) where
  -- One call more, of a board that stands where it should.
  module _ (before : List Call) (c : Call) (i : ℕ) (ki : N.keeper i ≡ true) (w : Where B w₀ N before i) where
    abbrev at-now : S
    at-now = after B w₀ before i

    abbrev closed-steps : ℕ
    closed-steps = closings B w₀ i before

    abbrev then : List Call
    then = before ++ (c ∷ [])

    -- A call that brings nothing and closes nothing.
    unchanged : after B w₀ then i ≡ at-now → closes_now B (after B w₀ before) i c ≡ false
        → ((j q : ℕ) → brings B (after B w₀ before) i j q c ≡ none) → Where B w₀ N then i
    unchanged stays quiet nothing =
        let e : closings B w₀ i then ≡ closed-steps = let z = closings-next B w₀ i before c false quiet in omega arith in
        let same : (j q : ℕ) → took B w₀ i j q then ≡ took B w₀ i j q before = λ j q. took-same B w₀ N before c i j q (nothing j q) in
        record {
          most = rw e w.most;
          here = λ j z l. stays ∙ w.here j (sym e ∙ z) l ∙ L.same j i ki l _ _ _ _ (λ q. sym (same j q)) (λ q. sym (same (suc j) q));
          done = λ z. stays ∙ w.done (sym e ∙ z);
          late = λ m q l. same m q ∙ w.late m q (omega arith);
          punctual = λ f m q l. same m q ∙ w.punctual f m q (omega arith);
        }

    other : i ≢ B.caller c → Where B w₀ N then i
    other ne = unchanged (other-next B w₀ before c i ne) (rw (ne_eqb i (B.caller c) ne)) (λ j q. brought-other B w₀ N before c i j q ne)

    idle : i ≡ B.caller c → B.takes c at-now ≡ none → B.ends c at-now ≡ false → Where B w₀ N then i
    idle e n f =
        unchanged (own-next B w₀ before c i e ∙ L.idle c at-now n f) (rw (eq-eqb i (B.caller c) e, f)) (λ j q. brought-nothing B w₀ N before c i j q e n)

    -- A board of which something is taken has steps to go.
    more : (B.takes c at-now ≡ none → B.ends c at-now ≡ false → ⊥) → closed-steps < N.steps
    more live =
        cases (ltb closed-steps N.steps) (λ x. ltb-true closed-steps N.steps x)
        (λ x. let at = w.done (omega (arith, w.most, ltb-false closed-steps N.steps x)) in
        let (n, f) = L.over i ki c in
        absurd (live (ap (B.takes c) at ∙ n) (ap (B.ends c) at ∙ f)))

    -- A frame is taken.
    entered : (e : Entry Frame) → i ≡ B.caller c → B.takes c at-now ≡ some e → Where B w₀ N then i
    entered e own h =
        let j = closed-steps in
        let l : j < N.steps = more (λ n _. none-ne-some e (sym n ∙ h)) in
        let at = w.here j refl l in
        let x : ℕ → Option Frame = λ q. took B w₀ i j q before in
        let y : ℕ → Option Frame = λ q. took B w₀ i (suc j) q before in
        let h' : B.takes c (N.mid j i x y) ≡ some e = ap (B.takes c) (sym at) ∙ h in
        let quiet : B.ends c at-now ≡ false = is_false (B.ends c at-now) (λ t. none-ne-some e (sym (L.apart c at-now t) ∙ h)) in
        let count : closings B w₀ i then ≡ j = let z = closings-next B w₀ i before c false (rw (eq-eqb i (B.caller c) own, quiet)) in omega arith in
        let brings-it : (m q : ℕ) → brings B (after B w₀ before) i m q c ≡ entry_for m q (some e) = λ m q. brought-own B w₀ N before c i m q (some e) own h in
        let elsewhere : (m q : ℕ) → e.step ≢ m → took B w₀ i m q then ≡ took B w₀ i m q before =
        λ m q ne. took-same B w₀ N before c i m q (brings-it m q ∙ entry-step m q e ne) in
        let filled : (m : ℕ) → j ≤ m → e.step ≡ m → took B w₀ i m e.sender before ≡ none
        → (q : ℕ) → update (λ q. took B w₀ i m q before) e.sender e.frame q ≡ took B w₀ i m q then =
        λ m low z free. took-entry B w₀ N before c i m low e (brings-it m) z free in
        let moved : (z : S) → B.leaves c (N.mid j i x y) ≡ z → z ≡ N.mid j i (λ q. took B w₀ i j q then) (λ q. took B w₀ i (suc j) q then)
        → (k : ℕ) → closings B w₀ i then ≡ k → after B w₀ then i ≡ N.mid k i (λ q. took B w₀ i k q then) (λ q. took B w₀ i (suc k) q then) =
        λ z left is k ek. subst (λ k. after B w₀ then i ≡ N.mid k i (λ q. took B w₀ i k q then) (λ q. took B w₀ i (suc k) q then)) (sym count ∙ ek)
        (own-next B w₀ before c i own ∙ ap (B.leaves c) at ∙ left ∙ is) in
        let not_done : closings B w₀ i then ≡ N.steps → after B w₀ then i ≡ N.final i = λ ek. absurd (let a : ⊥ = omega arith in a) in
        ⊎_elim
        (λ z. let (free, left) = L.now j i ki l x y c e h' z in
        record {
          most = rw count w.most;
          here = λ k ek _. moved _ left
              (L.same j i ki l _ _ _ _ (filled j (omega arith) z free) (λ q. sym (elsewhere (suc j) q (λ u. let a : ⊥ = omega arith in a)))) k ek;
          done = not_done;
          late = λ m q g. elsewhere m q (λ u. let a : ⊥ = omega arith in a) ∙ w.late m q (omega arith);
          punctual = λ f m q g. elsewhere m q (λ u. let a : ⊥ = omega arith in a) ∙ w.punctual f m q (omega arith);
        })
        (λ ze. let z = ze.0 in
        let (free, left) = L.next j i ki l x y c e h' z in
        record {
          most = rw count w.most;
          here = λ k ek _. moved _ left
              (L.same j i ki l _ _ _ _ (λ q. sym (elsewhere j q (λ u. let a : ⊥ = omega arith in a))) (filled (suc j) (omega arith) z free)) k ek;
          done = not_done;
          late = λ m q g. elsewhere m q (λ u. let a : ⊥ = omega arith in a) ∙ w.late m q (omega arith);
          punctual = λ f. clash ze.1 f;
        })
        (L.near j i ki l x y c e h')

  -- What a board wrote is what the session tells of it.
  told-written : (i j q : ℕ) (f : Frame) (before : List Call) (v : Written B w₀ N before i j q f) → Where B w₀ N v.earlier q → N.told i j q ≡ some f
  told-written i j q f before v w =
      let k = closings B w₀ q v.earlier in
      cases (ltb k N.steps)
      (λ x. let lk = ltb-true k N.steps x in
      let (s, t) = L.written k q v.keeps lk _ _ v.call i v.letter (ap (B.writes v.call i) (sym (w.here k refl lk)) ∙ v.wrote) in
      ap (λ m. N.told i m q) (sym v.in_step ∙ s) ∙ t ∙ ap some (sym v.gave))
      (λ x. let z : k ≡ N.steps = omega (arith, w.most, ltb-false k N.steps x) in
      absurd (none-ne-some v.letter (sym (L.silent q v.keeps v.call i) ∙ ap (B.writes v.call i) (sym (w.done z)) ∙ v.wrote)))

  -- A frame that was handed in is what the session tells.
  took-told : (i j q : ℕ) → N.keeper i ≡ true → (before : List Call) → closings B w₀ i before ≡ j → (H : HandedIn B w₀ N before i j q)
      → ((earlier : List Call) → Prefix earlier before → (k : ℕ) → N.keeper k ≡ true → Where B w₀ N earlier k) → took B w₀ i j q before ≡ N.told i j q
  took-told i j q ki before ej H past =
      let then = H.earlier in
      let e = H.entry in
      let pre = stands-prefix H.call then before H.stands in
      let w = past then pre i ki in
      let k = closings B w₀ i then in
      let lk : k < N.steps = more then H.call i ki w (λ n _. none-ne-some e (sym n ∙ H.entered)) in
      let x : ℕ → Option Frame = λ q. took B w₀ i k q then in
      let y : ℕ → Option Frame = λ q. took B w₀ i (suc k) q then in
      let h' : B.takes H.call (N.mid k i x y) ≡ some e = ap (B.takes H.call) (sym (w.here k refl lk)) ∙ H.entered in
      let new : took B w₀ i j q then ≡ none =
      ⊎_elim
      (λ z. ap₂ (λ j q. took B w₀ i j q then) (sym H.for ∙ z) (sym H.from) ∙ (L.now k i ki lk x y H.call e h' z).0)
      (λ z. ap₂ (λ j q. took B w₀ i j q then) (sym H.for ∙ z.0) (sym H.from) ∙ (L.next k i ki lk x y H.call e h' z.0).0)
      (L.near k i ki lk x y H.call e h') in
      let low : k ≤ j = let m = closings-mono B w₀ i then before pre in omega arith in
      let here : took B w₀ i j q (then ++ (H.call ∷ [])) ≡ some e.frame =
      took-new B w₀ N then H.call i j q e.frame low new
      (brought-own B w₀ N then H.call i j q (some e) H.own H.entered ∙ entry-hit j q e H.for H.from) in
      let kept = took-keeps B w₀ N i j q e.frame (then ++ (H.call ∷ [])) before (stands-next H.call then before H.stands) here in
      let tells : N.told i j q ≡ some e.frame =
      ⊎_elim (λ t. t)
      (λ v. let sent = prefix_trans v.earlier then before (stands-prefix v.call v.earlier then v.stands) pre in
      told-written i j q e.frame then v (past v.earlier sent q v.keeps))
      H.as-sent in
      kept ∙ sym tells

  -- After a closing nothing is taken for its step.
  took-closed : (i q : ℕ) (c : Call) (before calls : List Call) → Stands c before calls → i ≡ B.caller c → B.ends c (after B w₀ before i) ≡ true
      → took B w₀ i (closings B w₀ i before) q calls ≡ took B w₀ i (closings B w₀ i before) q before
  unfolding took_from or_else
  took-closed i q c before calls st own ok =
      let j = closings B w₀ i before in
      let w = after B w₀ before in
      let quiet : brings B w i j q c ≡ none = brought-nothing B w₀ N before c i j q own (L.apart c (w i) ok) in
      let shut : closes_now B w i c ≡ true = rw (eq-eqb i (B.caller c) own, ok) in
      let past : took_from B (after_one B w c) i (one (closes_now B w i c) + (j + 0)) j q st.0 ≡ none =
      took-past B (after_one B w c) i (one (closes_now B w i c) + (j + 0)) j q st.0 (rw shut (omega arith)) in
      let by-it : cond (leb (j + 0) j) (brings B w i j q c) none ≡ none = cases (leb (j + 0) j) (λ x. rw (x, quiet)) (λ x. rw x) in
      ap (took B w₀ i j q) st.1 ∙ took-append B w₀ i 0 j q before (c ∷ st.0)
      ∙ ap (or_else (took B w₀ i j q before)) (ap₂ or_else by-it past) ∙ or_else_none (took B w₀ i j q before)

module _ {S Call Frame : Type 0} (B : Boards S Call Frame) (w₀ : ℕ → S) (N : Session S Frame) (L : Laws B w₀ N) (calls : List Call) (fair : Fair B w₀ N calls) where
  -- A closing that is taken.
  module _ (c : Call) (before : List Call) (st : Stands c before calls) (i : ℕ) (own : i ≡ B.caller c) (ki : N.keeper i ≡ true)
      (ok : B.ends c (after B w₀ before i) ≡ true)
      (past : (earlier : List Call) → Prefix earlier before → (k : ℕ) → N.keeper k ≡ true → Where B w₀ N earlier k) where
    abbrev J : ℕ
    J = closings B w₀ i before

    w : Where B w₀ N before i
    w = past before (prefix_refl before) i ki

    to-go : J < N.steps
    to-go = more B w₀ N L before c i ki w (λ _ f. clash ok f)

    -- Before it board i has heard what the session tells it.
    heard_all : (q : ℕ) → N.due i J q ≡ true → took B w₀ i J q before ≡ N.told i J q
    heard_all q d =
        cases (N.healthy q)
        (λ h. took-told B w₀ N L i J q ki before refl (fair.heard c before st i own ki ok to-go _ _ (w.here J refl to-go) q h d) past)
        (λ h. sym (fair.adversary i J q h ∙ took-closed B w₀ N L i q c before calls st own ok))

    closed : Where B w₀ N (before ++ (c ∷ [])) i
    closed =
        let then = before ++ (c ∷ []) in
        let at = w.here J refl to-go in
        let x : ℕ → Option Frame = λ q. took B w₀ i J q before in
        let y : ℕ → Option Frame = λ q. took B w₀ i (suc J) q before in
        let (goes_on, end) = L.close J i ki to-go x y c (ap (B.ends c) (sym at) ∙ ok) heard_all (λ f q. w.punctual f (suc J) q (omega arith)) in
        let count : closings B w₀ i then ≡ J + 1 = closings-next B w₀ i before c true (rw (eq-eqb i (B.caller c) own, ok)) in
        let same : (m q : ℕ) → took B w₀ i m q then ≡ took B w₀ i m q before =
        λ m q. took-same B w₀ N before c i m q (brought-nothing B w₀ N before c i m q own (L.apart c (after B w₀ before i) ok)) in
        let is : after B w₀ then i ≡ B.leaves c (N.mid J i x y) = own-next B w₀ before c i own ∙ ap (B.leaves c) at in
        record {
          most = rw count (omega (arith, to-go));
          here = λ k ek lk.
              subst (λ k. after B w₀ then i ≡ N.mid k i (λ q. took B w₀ i k q then) (λ q. took B w₀ i (suc k) q then)) (let jk : suc J ≡ k = omega arith in jk)
              (is ∙ goes_on (omega arith)
              ∙ L.same (suc J) i ki (omega arith) _ _ _ _ (λ q. sym (same (suc J) q)) (λ q. sym (same (suc (suc J)) q ∙ w.late (suc (suc J)) q (omega arith))));
          done = λ ek. is ∙ end (omega arith);
          late = λ m q g. same m q ∙ w.late m q (omega arith);
          punctual = λ f m q g. same m q ∙ w.punctual f m q (omega arith);
        }

  begin : (i : ℕ) → N.keeper i ≡ true → Where B w₀ N [] i
  unfolding closings after took_from
  begin i ki = record {
    most = omega arith;
    here = λ j z l. subst (λ k. w₀ i ≡ N.mid k i (λ q. none) (λ q. none)) z (L.start i ki);
    done = λ z. absurd (let s = L.some-step in let a : ⊥ = omega arith in a);
    late = λ m q g. refl;
    punctual = λ f m q g. refl;
  }

  one_more : (before : List Call) (c : Call) → Stands c before calls
      → ((earlier : List Call) → Prefix earlier before → (k : ℕ) → N.keeper k ≡ true → Where B w₀ N earlier k)
      → (i : ℕ) → N.keeper i ≡ true → Where B w₀ N (before ++ (c ∷ [])) i
  one_more before c st past i ki =
      let w = past before (prefix_refl before) i ki in
      cases (eqb i (B.caller c))
      (λ x. own (eqb-true i (B.caller c) x) w (B.takes c (after B w₀ before i)) refl (B.ends c (after B w₀ before i)) refl)
      (λ x. other B w₀ N L before c i ki w (eqb-false i (B.caller c) x))
    where
      own : i ≡ B.caller c → Where B w₀ N before i → (o : Option (Entry Frame)) → B.takes c (after B w₀ before i) ≡ o
          → (d : Bool) → B.ends c (after B w₀ before i) ≡ d → Where B w₀ N (before ++ (c ∷ [])) i
      own e w (some x) h d f = entered B w₀ N L before c i ki w x e h
      own e w none h true f = closed c before st i e ki f past
      own e w none h false f = idle B w₀ N L before c i ki w e h f

  -- After every prefix of a fair list every board with a state stands where the session stands.
  pub whereabouts : (before : List Call) → Prefix before calls → (i : ℕ) → N.keeper i ≡ true → Where B w₀ N before i
  whereabouts = along calls (λ before. (i : ℕ) → N.keeper i ≡ true → Where B w₀ N before i) begin one_more
