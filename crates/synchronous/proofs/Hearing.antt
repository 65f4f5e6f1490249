-- A round of a board that hears some frames: what its cells hold when rule G begins.
-- Assumes nothing.
use Prim.Native.Nat.{ℕ, zero, suc, ◌≤◌, ◌<◌, ◌^◌}
use mathlib.Core.Path.{◌≡◌, refl, sym, ◌∙◌, ap, subst}
use mathlib.Core.Logic.{◌≢◌}
use mathlib.Core.Bool.{Bool, true, false, not, ◌&&◌, cond, and-false}
use mathlib.Core.List.{List, [], ◌∷◌, map, Memᴰ}
use mathlib.Core.Option.{Option, some, none, get_or}
use native.Mathlib.Omega.{arith}
use lib.Dec.{eqb}
use lib.ListN.{length, length-map}
use lib.Pow.{pow_pos}
use borrow.Author.Tests.{eqb-true, eqb-false, eq-eqb, ne_eqb, lt-ltb}
use Rattle.codec.specs.Codec.{Width}
use Rattle.sets.specs.Sets.{member, insert}
use Rattle.sets.proofs.Tests.{cases, clash, and_r, and-true, not_t, true-not}
use Rattle.sets.proofs.Member.{member-insert, member-empty}
use Rattle.refusals.specs.Outcome.{taken, refused}
use Rattle.refusals.proofs.Outcomes.{taken-first}
use Rattle.plan.specs.declared.plan.Plan.{Plan}
use Rattle.plan.specs.Values.{default, value}
use Rattle.schedule.specs.declared.rounds.Round.{Round}
use Rattle.tree.specs.Labels.{Label}
use Rattle.tree.specs.Places.{cell_count}
use Rattle.tree.specs.Cells.{cell_at}
use Rattle.protocol.proofs.Listing.{insert-below}
use Rattle.protocol.proofs.Bounds.{read_small}
use Rattle.protocol.specs.declared.records.Slot.{Slot}
use Rattle.protocol.specs.declared.records.Record.{Record}
use Rattle.protocol.specs.Listing.{as_set}
use Rattle.protocol.specs.Records.{with_marks}
use Rattle.protocol.specs.Nodes.{read, nodes, sent, due, frame}
use Rattle.protocol.specs.Rounds.{board_of, Board, fill, counted, receive, fill_missing, copy_own}
use Rattle.protocol.specs.Calls.{is_taken, judge_open, judge_receiving}
use Rattle.protocol.specs.Session.{take_all, hand_in}
use Rattle.protocol.proofs.Nodes.{sent-node, node-label}
use Rattle.protocol.proofs.Fill.{IsLabel, fill-length, fill-other, fill-map, fill_none, value-default}
use Rattle.synchronous.proofs.Local.{SameOutside, fill-outside, missing-outside, own-outside, own-length, missing-length}
use Rattle.protocol.proofs.Judgement.{Good, good-dealer, Open, open-taken}
use Rattle.protocol.proofs.Taken.{taking-taken, taking-refused}
use Rattle.protocol.proofs.Turns.{listed-silent}

unfoldable pub is_given : Option (List ℕ) → Bool
is_given none = false
is_given (some f) = true

-- Board i of plan p, in round k with this list, is told msg.
module _ (p : Plan) (i : ℕ) (k : Round) (list : List Slot) (msg : ℕ → Option (List ℕ)) where
  -- A frame of q is taken.
  unfoldable pub accepts : ℕ → Bool
  accepts q = due p q i k && is_given (msg q)

  unfoldable pub marks : ℕ → ℕ
  marks zero = 0
  marks (suc q) = cond (accepts q) (insert q (marks q)) (marks q)

  -- What a frame of q counts as.
  unfoldable pub content : ℕ → List ℕ
  content q = counted list q (sent p q i k) (get_or (msg q) [])

  unfoldable pub heard_cells : List ℕ → ℕ → List ℕ
  heard_cells cells zero = cells
  heard_cells cells (suc q) =
      cond (accepts q) (fill p q (sent p q i k) (content q) (heard_cells cells q)) (heard_cells cells q)

  marks-low : (j q : ℕ) → j ≤ q → member q (marks j) ≡ false
  unfolding marks
  marks-low zero q l = member-empty q
  marks-low (suc j) q l =
      let ih = marks-low j q (omega arith) in
      cases (accepts j)
      (λ e. rw e (member-insert q j (marks j) ∙ rw (ne_eqb q j (omega arith), ih)))
      (λ e. rw e ih)

  pub marks-at : (j q : ℕ) → q < j → member q (marks j) ≡ accepts q
  unfolding marks
  marks-at zero q l = absurd (omega arith)
  marks-at (suc j) q l =
      cases (eqb q j)
      (λ e. let z = eqb-true q j e in
      cases (accepts j)
      (λ t. rw (t, z) (member-insert j j (marks j) ∙ rw (eq-eqb j j refl, t)))
      (λ t. rw (t, z) (marks-low j j (omega arith) ∙ sym t)))
      (λ e. let ne : q ≢ j = eqb-false q j e in
      let ih = marks-at j q (omega arith) in
      cases (accepts j)
      (λ t. rw t (member-insert q j (marks j) ∙ rw (ne_eqb q j ne, ih)))
      (λ t. rw t ih))

-- The record with marks of boards below n is good, and the board is open.
marked-good : (r : Record) → Good r → (t : ℕ) → t < 2 ^ r.plan.n → Good (with_marks r t)
marked-good r g t h = record {
  plan-good = g.plan-good;
  below = g.below;
  other = g.other;
  position = g.position;
  list-good = g.list-good;
  marks-below = h;
  decision-below = g.decision-below;
}

module _ (r : Record) (g : Good r) (msg : ℕ → Option (List ℕ)) where
  abbrev p : Plan
  p = r.plan

  abbrev l : r.plan.dealer < r.plan.n
  l = good-dealer r g

  pub marks-below : (j : ℕ) → j ≤ p.n → marks r.plan r.board r.round r.list msg j < 2 ^ p.n
  unfolding marks
  marks-below zero h = pow_pos p.n
  marks-below (suc j) h =
      let ih = marks-below j (omega arith) in
      cases (accepts r.plan r.board r.round r.list msg j) (λ e. rw e (insert-below p.n j (marks r.plan r.board r.round r.list msg j) (omega arith) ih)) (λ e. rw e ih)

  pub heard-length : (cells : List ℕ) (j : ℕ) → length (heard_cells r.plan r.board r.round r.list msg cells j) ≡ length cells
  unfolding heard_cells
  heard-length cells zero = refl
  heard-length cells (suc q) =
      let ih = heard-length cells q in
      cases (accepts r.plan r.board r.round r.list msg q)
      (λ e. rw e (fill-length p l q (sent p q r.board r.round) (content r.plan r.board r.round r.list msg q) (heard_cells r.plan r.board r.round r.list msg cells q) ∙ ih))
      (λ e. rw e ih)

module _ (w : Width) (r : Record) (g : Good r) (undecided : r.decided ≡ false) (msg : ℕ → Option (List ℕ)) (cells : List ℕ)
    (room : cell_count r.plan.n ≤ length cells) where
  -- The board when it has heard the boards below j.
  abbrev pub heard : ℕ → Board
  heard j = board_of w (with_marks r (marks r.plan r.board r.round r.list msg j)) (heard_cells r.plan r.board r.round r.list msg cells j)

  pub heard-open : (j : ℕ) → j ≤ r.plan.n → Open (heard j)
  heard-open j h = record { good = marked-good r g (marks r.plan r.board r.round r.list msg j) (marks-below r g msg j h); room = rw (heard-length r g msg cells j) room; undecided = undecided }

  -- One frame more.
  judged-due : (q : ℕ) → q < r.plan.n → judge_receiving (heard q) q ≡ cond (due r.plan q r.board r.round) (taken []) (refused 14)
  unfolding judge_receiving
  judged-due q h =
      taken-first (judge_open (heard q)) _ (ap (λ o. o.number) (open-taken (heard q) (heard-open q (omega arith))))
      ∙ ap (λ b. cond (due r.plan q r.board r.round) (cond b (refused 15) (taken [])) (refused 14)) (marks-low r.plan r.board r.round r.list msg q q (omega arith))

  one_more : (q : ℕ) (o : Option (List ℕ)) → msg q ≡ o → q < r.plan.n → hand_in q o (heard q) ≡ heard (suc q)
  unfolding hand_in marks heard_cells accepts is_given content counted
  one_more q none e h = rw (e, and-false (due r.plan q r.board r.round))
  one_more q (some f) e h =
      cases (due r.plan q r.board r.round)
      (λ d. taking-taken (heard q) q f (ap (λ o. o.number) (judged-due q h ∙ ap (λ b. cond b (taken []) (refused 14)) d)) ∙ rw (e, d) (unfold receive in refl))
      (λ d. taking-refused (heard q) q f (ap is_taken (judged-due q h ∙ ap (λ b. cond b (taken []) (refused 14)) d) ∙ unfold is_taken in refl) ∙ rw (e, d))

  pub hear-shape : (b : Board) → b ≡ board_of w (with_marks r 0) cells → (j : ℕ) → j ≤ r.plan.n → take_all msg b j ≡ heard j
  unfolding take_all marks heard_cells
  hear-shape b e zero h = e
  hear-shape b e (suc q) h = ap (hand_in q (msg q)) (hear-shape b e q (omega arith)) ∙ one_more q (msg q) refl h

pub value_same : (p : Plan) (x : ℕ) → x < p.span → value p x ≡ x
unfolding value
value_same p x h = rw (lt-ltb x p.span h)

-- Storing a frame of another board leaves the children of q alone.
module _ (p : Plan) (l : p.dealer < p.n) (i : ℕ) (k : Round) (low : 1 ≤ k.0) where
  pub sent-label : (q : ℕ) (α : Label) → q < p.n → Memᴰ α (sent p q i k) → IsLabel p l k.0 (q ∷ α)
  sent-label q α lq m = node-label p i k.0 (q ∷ α) (sent-node p i q k α low lq m)

  pub other-sender : (q q' : ℕ) (vs cells : List ℕ) (b : ℕ) (α : Label) → q ≢ q' → q' < p.n → IsLabel p l b (q ∷ α)
      → cell_at p.n (fill p q' (sent p q' i k) vs cells) (q ∷ α) ≡ cell_at p.n cells (q ∷ α)
  other-sender q q' vs cells b α ne lq m =
      fill-other p l q' k.0 (sent p q' i k) vs cells b (q ∷ α) (λ β w. sent-label q' β lq w) m (λ β w e. ne (let z : q ≡ q' = cc in z))

  pub stored-map : (q : ℕ) (g : Label → ℕ) (cells : List ℕ) (α : Label) → q < p.n → cell_count p.n ≤ length cells → Memᴰ α (sent p q i k)
      → cell_at p.n (fill p q (sent p q i k) (map g (sent p q i k)) cells) (q ∷ α) ≡ value p (g α)
  stored-map q g cells α lq room m = fill-map p l q k.0 g (sent p q i k) cells α room (λ β w. sent-label q β lq w) m

  pub stored-none : (q : ℕ) (cells : List ℕ) (α : Label) → q < p.n → cell_count p.n ≤ length cells → Memᴰ α (sent p q i k)
      → cell_at p.n (fill p q (sent p q i k) [] cells) (q ∷ α) ≡ default p
  stored-none q cells α lq room m =
      ap (λ c. cell_at p.n c (q ∷ α)) (fill_none p l q (sent p q i k) cells) ∙ stored-map q (λ _. default p) cells α lq room m ∙ value-default p

-- What is missing.
module _ (r : Record) (l : r.plan.dealer < r.plan.n) (low : 1 ≤ r.round.0) (below : r.board < r.plan.n) (q : ℕ) (α : Label)
    (m : Memᴰ α (sent r.plan q r.board r.round)) (lq : q < r.plan.n) where
  abbrev here : IsLabel r.plan l r.round.0 (q ∷ α)
  here = sent-label r.plan l r.board r.round low q α lq m

  pub missing-keeps : (j : ℕ) (cells : List ℕ) → j ≤ r.plan.n → member q r.marks ≡ true
      → cell_at r.plan.n (fill_missing r.plan r.board r.round r.marks j cells) (q ∷ α) ≡ cell_at r.plan.n cells (q ∷ α)
  unfolding fill_missing
  missing-keeps zero cells h t = refl
  missing-keeps (suc j) cells h t =
      let ih = missing-keeps j cells (omega arith) t in
      cases (due r.plan j r.board r.round && not (member j r.marks))
      (λ e. let out = not_t (member j r.marks) (and_r (due r.plan j r.board r.round) (not (member j r.marks)) e) in
      let ne : q ≢ j = λ z. clash t (subst (λ x. member x r.marks ≡ false) (sym z) out) in
      rw e (other-sender r.plan l r.board r.round low q j [] (fill_missing r.plan r.board r.round r.marks j cells) r.round.0 α ne h here ∙ ih))
      (λ e. rw e ih)

  pub missing-default : (j : ℕ) (cells : List ℕ) → j ≤ r.plan.n → q < j → cell_count r.plan.n ≤ length cells
      → due r.plan q r.board r.round ≡ true → member q r.marks ≡ false
      → cell_at r.plan.n (fill_missing r.plan r.board r.round r.marks j cells) (q ∷ α) ≡ default r.plan
  unfolding fill_missing
  missing-default zero cells h lt room d t = absurd (omega arith)
  missing-default (suc j) cells h lt room d t =
      let rest = fill_missing r.plan r.board r.round r.marks j cells in
      let room' : cell_count r.plan.n ≤ length rest = rw (missing-length r l low below j cells) room in
      cases (eqb q j)
      (λ e. let z = eqb-true q j e in
      let on : (due r.plan j r.board r.round && not (member j r.marks)) ≡ true =
      and-true (due r.plan j r.board r.round) (not (member j r.marks)) (subst (λ x. due r.plan x r.board r.round ≡ true) z d)
      (true-not (member j r.marks) (subst (λ x. member x r.marks ≡ false) z t)) in
      rw on (subst (λ x. cell_at r.plan.n (fill r.plan x (sent r.plan x r.board r.round) [] rest) (q ∷ α) ≡ default r.plan) z
      (stored-none r.plan l r.board r.round low q rest α lq room' m)))
      (λ e. let ne : q ≢ j = eqb-false q j e in
      let ih = missing-default j cells (omega arith) (omega arith) room d t in
      cases (due r.plan j r.board r.round && not (member j r.marks))
      (λ x. rw x (other-sender r.plan l r.board r.round low q j [] rest r.round.0 α ne h here ∙ ih))
      (λ x. rw x ih))

-- A whole round: what a board's cells hold when all frames are stored.
module _ (r : Record) (g : Good r) (undecided : r.decided ≡ false) (msg : ℕ → Option (List ℕ)) (cells : List ℕ)
    (room : cell_count r.plan.n ≤ length cells) where
  abbrev P₀ : Plan
  P₀ = r.plan

  abbrev L₀ : r.plan.dealer < r.plan.n
  L₀ = good-dealer r g

  abbrev low : 1 ≤ r.round.0
  low = g.position.round-low

  -- The record when all are heard.
  abbrev pub marked : Record
  marked = with_marks r (marks r.plan r.board r.round r.list msg r.plan.n)

  unfoldable pub stored : List ℕ
  stored = fill_missing marked.plan marked.board marked.round marked.marks r.plan.n (heard_cells r.plan r.board r.round r.list msg cells r.plan.n)

  unfoldable pub filled : List ℕ
  filled = copy_own marked.plan marked.board marked.round stored

  pub heard-outside : (j : ℕ) → j ≤ P₀.n → SameOutside P₀ L₀ r.board r.round.0 cells (heard_cells r.plan r.board r.round r.list msg cells j)
  unfolding heard_cells
  heard-outside zero h b γ m out = refl
  heard-outside (suc q) h b γ m out =
      let ih = heard-outside q (omega arith) b γ m out in
      cases (accepts r.plan r.board r.round r.list msg q)
      (λ e. rw e (fill-outside P₀ L₀ r.board q r.round (content r.plan r.board r.round r.list msg q) (heard_cells r.plan r.board r.round r.list msg cells q) low h b γ m out ∙ ih))
      (λ e. rw e ih)

  stored-outside : SameOutside P₀ L₀ r.board r.round.0 cells stored
  unfolding stored
  stored-outside b γ m out =
      missing-outside marked L₀ low g.below P₀.n (heard_cells r.plan r.board r.round r.list msg cells P₀.n) (omega arith) b γ m out
      ∙ heard-outside P₀.n (omega arith) b γ m out

  -- Cells of other levels are as they were.
  pub filled-outside : SameOutside P₀ L₀ r.board r.round.0 cells filled
  unfolding filled
  filled-outside b γ m out = own-outside marked L₀ low g.below stored b γ m out ∙ stored-outside b γ m out

  stored-length : length stored ≡ length cells
  unfolding stored
  stored-length =
      missing-length marked L₀ low g.below P₀.n (heard_cells r.plan r.board r.round r.list msg cells P₀.n) ∙ heard-length r g msg cells P₀.n

  pub filled-length : length filled ≡ length cells
  unfolding filled
  filled-length = own-length marked L₀ low g.below stored ∙ stored-length

  module _ (q : ℕ) (α : Label) (lq : q < P₀.n) (m : Memᴰ α (sent P₀ q r.board r.round)) where
    abbrev label : IsLabel P₀ L₀ r.round.0 (q ∷ α)
    label = sent-label P₀ L₀ r.board r.round low q α lq m

    -- A frame that was taken stands until all are heard.
    heard-at : (j : ℕ) → j ≤ P₀.n → q < j → accepts r.plan r.board r.round r.list msg q ≡ true
        → cell_at P₀.n (heard_cells r.plan r.board r.round r.list msg cells j) (q ∷ α)
        ≡ cell_at P₀.n (fill P₀ q (sent P₀ q r.board r.round) (content r.plan r.board r.round r.list msg q) (heard_cells r.plan r.board r.round r.list msg cells q)) (q ∷ α)
    unfolding heard_cells
    heard-at zero h lt a = absurd (omega arith)
    heard-at (suc j) h lt a =
        cases (eqb q j)
        (λ e. let z = eqb-true q j e in
        subst (λ x. cell_at P₀.n (cond (accepts r.plan r.board r.round r.list msg x) (fill P₀ x (sent P₀ x r.board r.round) (content r.plan r.board r.round r.list msg x) (heard_cells r.plan r.board r.round r.list msg cells x)) (heard_cells r.plan r.board r.round r.list msg cells x)) (q ∷ α)
        ≡ cell_at P₀.n (fill P₀ q (sent P₀ q r.board r.round) (content r.plan r.board r.round r.list msg q) (heard_cells r.plan r.board r.round r.list msg cells q)) (q ∷ α)) z (rw a))
        (λ e. let ne : q ≢ j = eqb-false q j e in
        let ih = heard-at j (omega arith) (omega arith) a in
        cases (accepts r.plan r.board r.round r.list msg j)
        (λ x. rw x (other-sender P₀ L₀ r.board r.round low q j (content r.plan r.board r.round r.list msg j) (heard_cells r.plan r.board r.round r.list msg cells j) r.round.0 α ne h label ∙ ih))
        (λ x. rw x ih))

    -- Another board's child is stored before the own copies.
    own-keeps : q ≢ r.board → cell_at P₀.n filled (q ∷ α) ≡ cell_at P₀.n stored (q ∷ α)
    unfolding filled copy_own
    own-keeps ne =
        other-sender P₀ L₀ r.board r.round low q r.board (frame P₀ r.board r.board r.round stored) stored r.round.0 α ne g.below label

    heard-room : cell_count P₀.n ≤ length (heard_cells r.plan r.board r.round r.list msg cells q)
    heard-room = rw (heard-length r g msg cells q) room

    taken-cell : q ≢ r.board → accepts r.plan r.board r.round r.list msg q ≡ true
        → cell_at P₀.n filled (q ∷ α)
        ≡ cell_at P₀.n (fill P₀ q (sent P₀ q r.board r.round) (content r.plan r.board r.round r.list msg q) (heard_cells r.plan r.board r.round r.list msg cells q)) (q ∷ α)
    unfolding stored
    taken-cell ne a =
        own-keeps ne
        ∙ missing-keeps marked L₀ low g.below q α m lq P₀.n (heard_cells r.plan r.board r.round r.list msg cells P₀.n) (omega arith) (marks-at r.plan r.board r.round r.list msg P₀.n q lq ∙ a)
        ∙ heard-at P₀.n (omega arith) lq a

    missed-cell : q ≢ r.board → due P₀ q r.board r.round ≡ true → accepts r.plan r.board r.round r.list msg q ≡ false → cell_at P₀.n filled (q ∷ α) ≡ default P₀
    unfolding stored
    missed-cell ne d a =
        own-keeps ne
        ∙ missing-default marked L₀ low g.below q α m lq P₀.n (heard_cells r.plan r.board r.round r.list msg cells P₀.n) (omega arith) lq
        (rw (heard-length r g msg cells P₀.n) room) d (marks-at r.plan r.board r.round r.list msg P₀.n q lq ∙ a)

    -- A listed board counts as silent.
    pub silenced : q ≢ r.board → due P₀ q r.board r.round ≡ true → member q (as_set r.list) ≡ true → read P₀ filled (q ∷ α) ≡ default P₀
    unfolding read content
    silenced ne d on =
        let αs = sent P₀ q r.board r.round in
        cases (accepts r.plan r.board r.round r.list msg q)
        (λ a. let c : content r.plan r.board r.round r.list msg q ≡ [] = listed-silent r.list q αs (get_or (msg q) []) on in
        ap (value P₀) (taken-cell ne a ∙ ap (λ vs. cell_at P₀.n (fill P₀ q αs vs (heard_cells r.plan r.board r.round r.list msg cells q)) (q ∷ α)) c
        ∙ stored-none P₀ L₀ r.board r.round low q (heard_cells r.plan r.board r.round r.list msg cells q) α lq heard-room m) ∙ value-default P₀)
        (λ a. ap (value P₀) (missed-cell ne d a) ∙ value-default P₀)

    -- The frame of a board that is not listed, of the right length, is what is read.
    pub delivered : (f : Label → ℕ) → q ≢ r.board → due P₀ q r.board r.round ≡ true → member q (as_set r.list) ≡ false
        → msg q ≡ some (map f (sent P₀ q r.board r.round)) → f α < P₀.span → read P₀ filled (q ∷ α) ≡ f α
    unfolding read accepts is_given content counted
    delivered f ne d out e small =
        let αs = sent P₀ q r.board r.round in
        let a : accepts r.plan r.board r.round r.list msg q ≡ true = and-true (due P₀ q r.board r.round) (is_given (msg q)) d (rw e) in
        let c : content r.plan r.board r.round r.list msg q ≡ map f αs = rw (e, out, eq-eqb (length (map f αs)) (length αs) (length-map αs f)) in
        ap (value P₀) (taken-cell ne a ∙ ap (λ vs. cell_at P₀.n (fill P₀ q αs vs (heard_cells r.plan r.board r.round r.list msg cells q)) (q ∷ α)) c
        ∙ stored-map P₀ L₀ r.board r.round low q f (heard_cells r.plan r.board r.round r.list msg cells q) α lq heard-room m)
        ∙ ap (value P₀) (value_same P₀ (f α) small) ∙ value_same P₀ (f α) small

  -- A board's own child has its own cell.
  pub copied : (α : Label) (b : ℕ) → Memᴰ α (sent P₀ r.board r.board r.round) → IsLabel P₀ L₀ b α → (Memᴰ α (nodes P₀ r.board r.round.0) → ⊥)
      → default P₀ < P₀.span → read P₀ filled (r.board ∷ α) ≡ read P₀ cells α
  unfolding filled copy_own frame read
  copied α b m w out default_below =
      let own : cell_at P₀.n filled (r.board ∷ α) ≡ value P₀ (read P₀ stored α) =
      stored-map P₀ L₀ r.board r.round low r.board (read P₀ stored) stored α g.below (rw stored-length room) m in
      let same : read P₀ stored α ≡ read P₀ cells α = ap (value P₀) (stored-outside b α w out) in
      let small = read_small P₀ default_below cells α in
      ap (value P₀) (own ∙ ap (value P₀) same ∙ value_same P₀ (read P₀ cells α) small) ∙ value_same P₀ (read P₀ cells α) small
