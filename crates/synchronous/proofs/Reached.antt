-- Boards that were begun and called: their records stay good, and a place with no value yet, or no node, holds the mark.
-- Assumes nothing.
use Prim.Native.Nat.{ℕ, zero, suc, ◌+◌, ◌-◌, ◌≤◌, ◌<◌}
use mathlib.Core.Path.{◌≡◌, refl, sym, ◌∙◌, ap, subst}
use mathlib.Core.Logic.{◌≢◌, ◌⊎◌, inl, inr, ⊎_elim}
use mathlib.Core.Bool.{true, false, cond}
use mathlib.Core.List.{List, ◌∷◌, Memᴰ, []}
use native.Mathlib.Omega.{arith}
use lib.Dec.{eqb, ltb}
use lib.ListN.{length, get_or, drop, replicate, length-append, length-replicate, length-drop, get_or-replicate, get_or-append}
use lib.Pow.{pow_pos}
use borrow.Author.Tests.{eqb-false, ltb-true}
use Rattle.codec.specs.Codec.{Width, blank}
use Rattle.sets.specs.Sets.{member, insert}
use Rattle.sets.proofs.Tests.{cases, clash, or_l, or_r}
use Rattle.sets.proofs.Member.{member-insert}
use Rattle.refusals.proofs.Outcomes.{both-taken}
use Rattle.plan.specs.declared.plan.Plan.{Plan}
use Rattle.plan.specs.Calls.{judged}
use Rattle.schedule.specs.Schedule.{rounds, runs}
use Rattle.schedule.proofs.Levels.{rounds-pos, runs-pos}
use Rattle.schedule.proofs.Steps.{later-rounds}
use Rattle.tree.specs.Labels.{Label, last}
use Rattle.tree.specs.Places.{cell_count, place}
use Rattle.tree.specs.Cells.{cell_at}
use Rattle.tree.proofs.Labels.{label-length, no_label, root-inv, root-has}
use Rattle.tree.proofs.Places.{place-lt, some-cell, place-levels}
use Rattle.protocol.specs.Nodes.{nodes, sent}
use Rattle.protocol.specs.Detection.{Scan, resolve_root}
use Rattle.protocol.specs.Records.{run_ended}
use Rattle.protocol.specs.Rounds.{board_of, Board, counted, receive, gather, next_round, convert, close, root_only, cleared}
use Rattle.protocol.specs.Calls.{is_taken, judge_board, judge_cells, judge_open, judge_beginning, beginning, fresh_record, judge_receiving, taking, closing}
use Rattle.protocol.proofs.Nodes.{sent-node, node-label, node-length, root-node}
use Rattle.protocol.proofs.Fill.{IsLabel, fill-other, fill-length}
use Rattle.synchronous.proofs.Local.{gather-outside, gather-length}
use Rattle.protocol.proofs.Judgement.{is-taken, taken_is, plan-default, Good, good-dealer, Open, open-facts, cells-facts, board-facts}
use Rattle.protocol.proofs.Listing.{insert-below, GoodList, none-good}
use Rattle.protocol.proofs.Bounds.{gather-good, levels-good, root-small}
use Rattle.protocol.proofs.Turns.{frame-stored, decides-root, begun-length, begun-blank}
use Rattle.protocol.proofs.Taken.{taking-taken, taking-refused, closing-taken, due-sender, receiving-facts, closing-refused}

-- A begun board's record is good.
pub fresh-good : (p : Plan) (i : ℕ) → (judged p).number ≡ 0 → i < p.n → i ≢ p.dealer → Good (fresh_record p i)
unfolding fresh_record
fresh-good p i e l ne = record {
  plan-good = e;
  below = l;
  other = ne;
  position = record {
    run-low = omega arith;
    run-high = runs-pos p;
    round-low = omega arith;
    round-later = λ x. absurd (x refl);
    round-high = rounds-pos p;
  };
  list-good = none-good p;
  marks-below = pow_pos p.n;
  decision-below = λ x. clash x refl;
}

pub receive-good : (q : ℕ) (f : List ℕ) (b : Board) → Good b.rec → q < b.rec.plan.n → Good (receive q f b).rec
unfolding receive
receive-good q f b g l = record {
  plan-good = g.plan-good;
  below = g.below;
  other = g.other;
  position = g.position;
  list-good = g.list-good;
  marks-below = insert-below b.rec.plan.n q b.rec.marks l g.marks-below;
  decision-below = g.decision-below;
}

pub next-good : (b : Board) (s : Scan) → Good b.rec → GoodList b.rec.plan s.list → b.rec.round.0 < (rounds b.rec.plan).0
    → Good (next_round b s).rec
unfolding next_round
next-good b s g d l = record {
  plan-good = g.plan-good;
  below = g.below;
  other = g.other;
  position = record {
    run-low = g.position.run-low;
    run-high = g.position.run-high;
    round-low = omega arith;
    round-later = λ x. omega (arith, g.position.round-low);
    round-high = omega arith;
  };
  list-good = d;
  marks-below = pow_pos b.rec.plan.n;
  decision-below = λ x. clash x refl;
}

pub convert-good : (b : Board) (s : Scan) → Good b.rec → GoodList b.rec.plan s.list → Good (convert b s).rec
unfolding convert run_ended
convert-good b s g d =
    let r = b.rec in
    let p = r.plan in
    let listed-good = levels-good p (good-dealer r g) r.board r.run r.round g.position s.cells ((rounds p).0 - 1) s.list d in
    cases (eqb r.run.0 (runs p).0)
    (λ e. let small : (convert b s).rec.decision < p.span =
    subst {A = ℕ} (λ v. v < p.span) (sym (decides-root b s e)) (root-small p (plan-default p g.plan-good) r.board s.cells) in
    rw e (record {
      plan-good = g.plan-good;
      below = g.below;
      other = g.other;
      position = g.position;
      list-good = listed-good;
      marks-below = pow_pos p.n;
      decision-below = λ _. rw e at small;
    }))
    (λ e. let ne : r.run.0 ≢ (runs p).0 = eqb-false r.run.0 (runs p).0 e in
    rw e (record {
      plan-good = g.plan-good;
      below = g.below;
      other = g.other;
      position = record {
        run-low = omega arith;
        run-high = omega (arith, g.position.run-high);
        round-low = omega arith;
        round-later = λ _. omega arith;
        round-high = later-rounds p g.plan-good (omega (arith, g.position.run-high, g.position.run-low));
      };
      list-good = listed-good;
      marks-below = pow_pos p.n;
      decision-below = λ x. clash x refl;
    }))

pub close-good : (b : Board) → Good b.rec → Good (close b).rec
unfolding close
close-good b g =
    let r = b.rec in
    let d = gather-good b (good-dealer r g) g.position g.list-good in
    cases (ltb b.rec.round.0 (rounds b.rec.plan).0)
    (λ e. rw e (next-good b (gather b) g d (ltb-true b.rec.round.0 (rounds b.rec.plan).0 e)))
    (λ e. rw e (convert-good b (gather b) g d))

-- Board b awaits the values of level k from board q: the level's round is yet to come, or the sender's frame is.
abbrev pub Awaits : Board → ℕ → ℕ → Type 0
Awaits b k q = (b.rec.round.0 < k) ⊎ ((b.rec.round.0 ≡ k) × (member q b.rec.marks ≡ false))

-- The label has no value in board b: it is no node, or the board awaits it, or the board has decided.
abbrev pub NoValue : Board → ℕ → Label → Type 0
NoValue b k α =
    (Memᴰ α (nodes b.rec.plan b.rec.board k) → ⊥)
    ⊎ (((b.rec.decided ≡ false) × Awaits b k (last α))
    ⊎ ((b.rec.decided ≡ true) × (1 < k)))

-- 01: "A place with no value yet, or no node, holds FF" (02 g: FFFF).
abbrev pub Vacant : Board → Type 0
Vacant b = (l : b.rec.plan.dealer < b.rec.plan.n) (k : ℕ) (α : Label) → IsLabel b.rec.plan l k α → NoValue b k α
    → cell_at b.rec.plan.n b.cells α ≡ blank b.width

pub fresh-vacant : (w : Width) (p : Plan) (i : ℕ) (cells : List ℕ)
    → Vacant (board_of w (fresh_record p i) (cleared w p.n cells))
unfolding cell_at fresh_record
fresh-vacant w p i cells l k α m v =
    begun-blank w p.n cells (place p.n α) (place-lt p.n p.dealer k α l m)

-- A label of level k is no node of another level.
pub other-level : (p : Plan) (l : p.dealer < p.n) (i k a : ℕ) (α : Label) → IsLabel p l k α → Memᴰ α (nodes p i a) → k ≡ a
other-level p l i k a α m w = sym (label-length p.n p.dealer k α m) ∙ node-length p i a α w

-- A frame that is taken writes only nodes of its round whose last board is its sender.
module _ (q : ℕ) (f : List ℕ) (b : Board) (o : Open b) (lq : q < b.rec.plan.n) (l : b.rec.plan.dealer < b.rec.plan.n) where
  abbrev k₀ : ℕ
  k₀ = b.rec.round.0

  unmarked : (α : Label) → member (last α) (insert q b.rec.marks) ≡ false → (eqb (last α) q ≡ false) × (member (last α) b.rec.marks ≡ false)
  unmarked α x =
      let y = sym (member-insert (last α) q b.rec.marks) ∙ x in
      (or_l (eqb (last α) q) (member (last α) b.rec.marks) y, or_r (eqb (last α) q) (member (last α) b.rec.marks) y)

  still : (k : ℕ) (α : Label) → NoValue (receive q f b) k α → NoValue b k α
  unfolding receive
  still k α v =
      ⊎_elim inl
      (λ w. inr (⊎_elim (λ u. inl (u.0, ⊎_elim inl (λ x. inr (x.0, (unmarked α x.1).1)) u.1)) inr w))
      v

  apart : (k : ℕ) (α : Label) → IsLabel b.rec.plan l k α → NoValue (receive q f b) k α
      → (β : Label) → Memᴰ β (sent b.rec.plan q b.rec.board b.rec.round) → α ≢ q ∷ β
  unfolding receive last
  apart k α m v β w e =
      let p = b.rec.plan in
      let i = b.rec.board in
      let node : Memᴰ α (nodes p i k₀) =
      subst (λ z. Memᴰ z (nodes p i k₀)) (sym e) (sent-node p i q b.rec.round β o.good.position.round-low lq w) in
      let level : k ≡ k₀ = other-level p l i k k₀ α m node in
      ⊎_elim
      (λ out. out (subst (λ z. Memᴰ α (nodes p i z)) (sym level) node))
      (λ x. ⊎_elim
      (λ u. ⊎_elim (λ lt. let y : k₀ < k = lt in omega arith) (λ y. eqb-false (last α) q (unmarked α y.1).0 (ap last e)) u.1)
      (λ d. clash d.0 o.undecided)
      x)
      v

pub receive-vacant : (q : ℕ) (f : List ℕ) (b : Board) → Open b → q < b.rec.plan.n → Vacant b → Vacant (receive q f b)
unfolding receive
receive-vacant q f b o lq h l k α m v =
    let p = b.rec.plan in
    let i = b.rec.board in
    let αs = sent p q i b.rec.round in
    ap (λ c. cell_at p.n c α) (frame-stored q f b)
    ∙ fill-other p l q b.rec.round.0 αs (counted b.rec.list q αs f) b.cells k α
    (λ β w. node-label p i b.rec.round.0 (q ∷ β) (sent-node p i q b.rec.round β o.good.position.round-low lq w)) m
    (apart q f b o lq l k α m v)
    ∙ h l k α m (still q f b o lq l k α v)

-- Closing a round writes only nodes of that round.
pub next-vacant : (b : Board) → Open b → Vacant b → Vacant (next_round b (gather b))
unfolding next_round
next-vacant b o h l k α m v =
    let r = b.rec in
    let low = o.good.position.round-low in
    let same : (Memᴰ α (nodes r.plan r.board r.round.0) → ⊥) → cell_at r.plan.n (gather b).cells α ≡ cell_at r.plan.n b.cells α =
    gather-outside r l low o.good.below b.width b.cells k α m in
    ⊎_elim
    (λ out. same (λ w. out (subst (λ z. Memᴰ α (nodes r.plan r.board z)) (sym (other-level r.plan l r.board k r.round.0 α m w)) w))
    ∙ h l k α m (inl out))
    (λ w. ⊎_elim
    (λ u. let past : r.round.0 < k = ⊎_elim (λ lt. let y : r.round.0 + 1 < k = lt in omega arith) (λ y. let z : r.round.0 + 1 ≡ k = y.0 in omega arith) u.1 in
    same (λ x. absurd (let z = other-level r.plan l r.board k r.round.0 α m x in let y : ⊥ = omega arith in y))
    ∙ h l k α m (inr (inl (o.undecided, inl past))))
    (λ d. clash d.0 refl)
    w)
    v

-- Conversion leaves the root alone.
pub root-only : (w : Width) (p : Plan) (l : p.dealer < p.n) (root : ℕ) (cells : List ℕ) (k : ℕ) (α : Label) → IsLabel p l (suc (suc k)) α
    → cell_at p.n (root_only w p.n root cells) α ≡ blank w
unfolding cell_at root_only
root-only w p l root cells k α m =
    let n = p.n in
    let x = place n α in
    let low : 0 < x = let z = place-levels n p.dealer 1 (suc (suc k)) (p.dealer ∷ []) α l (root-has n p.dealer) m (omega arith) in omega arith in
    let high = place-lt n p.dealer (suc (suc k)) α l m in
    let j : x ≡ suc (x - 1) = omega arith in
    let size = length-replicate (cell_count n - 1) (blank w) in
    get_or-append (root ∷ replicate (cell_count n - 1) (blank w)) (drop (cell_count n) cells) 0 x (omega (arith, size))
    ∙ ap (λ y. get_or (root ∷ replicate (cell_count n - 1) (blank w)) y 0) j
    ∙ get_or-replicate (cell_count n - 1) (x - 1) (blank w) 0 (omega arith)

pub convert-vacant : (b : Board) (s : Scan) → Vacant (convert b s)
unfolding convert run_ended
convert-vacant b s l zero α m v = absurd (no_label b.rec.plan.n b.rec.plan.dealer α m)
convert-vacant b s l (suc zero) α m v =
    let r = b.rec in
    let last-run = eqb r.run.0 (runs r.plan).0 in
    absurd (⊎_elim
    (λ out. out (subst (λ z. Memᴰ z (nodes r.plan r.board 1)) (sym (root-inv r.plan.n r.plan.dealer α m)) (root-node r.plan r.board)))
    (λ w. ⊎_elim
    (λ u. let e : last-run ≡ false = u.0 in
    ⊎_elim
    (λ lt. let y : 2 < 1 = subst (λ c. cond c r.round.0 2 < 1) e lt in omega arith)
    (λ x. let y : 2 ≡ 1 = subst (λ c. cond c r.round.0 2 ≡ 1) e x.0 in omega arith)
    u.1)
    (λ d. let y : 1 < 1 = d.1 in omega arith)
    w)
    v)
convert-vacant b s l (suc (suc k)) α m v = root-only b.width b.rec.plan l (resolve_root b.rec.plan b.rec.board s.cells) s.cells k α m

pub close-vacant : (b : Board) → Open b → Vacant b → Vacant (close b)
unfolding close
close-vacant b o h =
    cases (ltb b.rec.round.0 (rounds b.rec.plan).0)
    (λ e. rw e (next-vacant b o h))
    (λ e. rw e (convert-vacant b (gather b)))

-- Lengths.
pub receive-length : (q : ℕ) (f : List ℕ) (b : Board) → Open b → length (receive q f b).cells ≡ length b.cells
unfolding receive
receive-length q f b o =
    let r = b.rec in
    let αs = sent r.plan q r.board r.round in
    fill-length r.plan (good-dealer r o.good) q αs (counted r.list q αs f) b.cells

pub root-only-length : (w : Width) (n root : ℕ) (cells : List ℕ) → 0 < cell_count n → cell_count n ≤ length cells → length (root_only w n root cells) ≡ length cells
unfolding root_only
root-only-length w n root cells z h =
    omega (
      arith,
      length-append (root ∷ replicate (cell_count n - 1) (blank w)) (drop (cell_count n) cells),
      length-replicate (cell_count n - 1) (blank w),
      length-drop (cell_count n) cells,
    )

pub close-length : (b : Board) → Open b → length (close b).cells ≡ length b.cells
unfolding close next_round convert run_ended
close-length b o =
    let r = b.rec in
    let p = r.plan in
    let l = good-dealer r o.good in
    let g = gather-length r l o.good.position.round-low o.good.below b.width b.cells in
    cases (ltb r.round.0 (rounds p).0)
    (λ e. rw e g)
    (λ e. rw e (root-only-length b.width p.n (resolve_root p r.board (gather b).cells) (gather b).cells (some-cell p.n p.dealer l) (rw g o.room) ∙ g))

-- A board that was begun, and then called in any way.
pub record Reached (b : Board) : Type 0 where
  pub good : Good b.rec
  pub room : cell_count b.rec.plan.n ≤ length b.cells
  pub vacant : Vacant b

pub reached-taking : (b : Board) (q : ℕ) (vs : List ℕ) → Reached b → Reached (taking b q vs).board
reached-taking b q vs h =
    cases (is_taken (judge_receiving b q))
    (λ e. let t = is-taken (judge_receiving b q) e in
    let (o, on, new) = receiving-facts b q t in
    let lq = due-sender b.rec.plan q b.rec.board b.rec.round on in
    rw (taking-taken b q vs t) (unfold receive in record {
      good = receive-good q vs b h.good lq;
      room = rw (receive-length q vs b o) h.room;
      vacant = receive-vacant q vs b o lq h.vacant;
    }))
    (λ e. rw (taking-refused b q vs e) h)

-- A closing keeps the plan.
pub close-plan : (b : Board) → (close b).rec.plan ≡ b.rec.plan
unfolding close next_round convert run_ended
close-plan b = cases (ltb b.rec.round.0 (rounds b.rec.plan).0) (λ e. rw e) (λ e. rw e)

pub reached-closing : (b : Board) → Reached b → Reached (closing b).board
reached-closing b h =
    cases (is_taken (judge_open b))
    (λ e. let t = is-taken (judge_open b) e in
    let o = open-facts b t in
    rw (closing-taken b t) (record {
      good = close-good b h.good;
      room = rw (close-plan b, close-length b o) h.room;
      vacant = close-vacant b o h.vacant;
    }))
    (λ e. rw (closing-refused b e) h)

pub reached-begun : (w : Width) (p : Plan) (i : ℕ) (cells : List ℕ) → (judge_beginning p i cells).number ≡ 0 → Reached (beginning w p i cells).board
unfolding beginning judge_beginning fresh_record
reached-begun w p i cells e =
    let (e1, e2) = both-taken (judged p) _ e in
    let (e3, e4) = both-taken (judge_board p i) (judge_cells p cells) e2 in
    let (l, ne) = board-facts p i e3 in
    let room = cells-facts p cells e4 in
    rw (taken_is (judge_beginning p i cells) e) (record {
      good = fresh-good p i e1 l ne;
      room = rw (begun-length w p.n cells room) room;
      vacant = fresh-vacant w p i cells;
    })
