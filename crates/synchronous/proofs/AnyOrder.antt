-- What a board holds inside a round depends on which frames it took, not on their order.
-- Assumes nothing.
use Prim.Native.Nat.{ℕ, zero, suc, ◌-◌, ◌≤◌, ◌<◌, ◌^◌}
use mathlib.Core.Path.{◌≡◌, refl, sym, ◌∙◌, ap, ap₂}
use mathlib.Core.Logic.{◌≢◌, ◌⊎◌, inl, ⊎_elim}
use mathlib.Core.Bool.{true, false, ◌&&◌, cond, and-false}
use mathlib.Core.List.{List, [], ◌∷◌, map, Memᴰ}
use mathlib.Core.Option
use mathlib.Core.Option.{Option, some, none}
use native.Mathlib.Omega.{arith}
use lib.Bits.{bit_and, and_comm}
use lib.Dec.{eqb}
use lib.ListN.{length, get_or}
use lib.Seq.{set_comm}
use borrow.Author.Tests.{eqb-true, eqb-false, eq-eqb, ne_eqb}
use Rattle.codec.specs.Codec.{Width}
use Rattle.sets.specs.Sets.{member, insert, within}
use Rattle.sets.proofs.Tests.{cases, clash, and-true}
use Rattle.sets.proofs.Member.{member-insert, member-within}
use Rattle.refusals.specs.Outcome.{taken, refused}
use Rattle.refusals.proofs.Outcomes.{taken-first}
use Rattle.plan.specs.declared.plan.Plan.{Plan}
use Rattle.plan.specs.Values.{default, value}
use Rattle.schedule.specs.declared.rounds.Round.{Round}
use Rattle.tree.specs.Labels.{Label}
use Rattle.tree.proofs.Labels.{label-length, root-has}
use Rattle.tree.specs.Places.{cell_count, place}
use Rattle.tree.specs.Cells.{cell_at, store}
use Rattle.tree.proofs.Places.{place-injective}
use Rattle.tree.proofs.Cells.{root-cell}
use Rattle.protocol.specs.declared.records.Record.{Record}
use Rattle.protocol.specs.Nodes.{read, sent, due, frame}
use Rattle.protocol.specs.Rounds.{board_of, Board, fill, counted, receive}
use Rattle.protocol.specs.Calls.{judge_open, judge_receiving, frame_of}
use Rattle.protocol.proofs.Nodes.{inner-inv, node-label, node-length, sent-inv, sent-first}
use Rattle.protocol.proofs.Fill.{IsLabel, Children}
use Rattle.protocol.proofs.Judgement.{Good, good-dealer, open-taken}
use Rattle.protocol.proofs.Listing.{insert-below}
use Rattle.protocol.proofs.Taken.{due-sender}
use Rattle.protocol.specs.Records.{with_marks}
use Rattle.synchronous.proofs.Hearing.{is_given, accepts, marks, content, heard_cells, marks-at, marks-below, heard, heard-open, heard-outside, sent-label}

-- The children by two boards, or of two levels, are different cells, so storing them commutes.
module _ (p : Plan) (l : p.dealer < p.n) (q q' a a' : ℕ) (apart : (q ≢ q') ⊎ (a ≢ a')) where
  differ : (α β : Label) → IsLabel p l a (q ∷ α) → IsLabel p l a' (q' ∷ β) → (q ∷ α) ≢ (q' ∷ β)
  differ α β m m' e =
      ⊎_elim (λ ne. ne (let y : q ≡ q' = cc in y))
      (λ ne. ne (sym (label-length p.n p.dealer a (q ∷ α) m) ∙ ap length e ∙ label-length p.n p.dealer a' (q' ∷ β) m')) apart

  store-store : (α β : Label) (v w : ℕ) (cells : List ℕ) → IsLabel p l a (q ∷ α) → IsLabel p l a' (q' ∷ β)
      → store p.n (store p.n cells (q ∷ α) v) (q' ∷ β) w ≡ store p.n (store p.n cells (q' ∷ β) w) (q ∷ α) v
  unfolding store
  store-store α β v w cells m m' =
      set_comm cells (place p.n (q ∷ α)) (place p.n (q' ∷ β)) v w
      (λ e. differ α β m m' (place-injective p.n p.dealer a a' (q ∷ α) (q' ∷ β) l m m' e))

  store-fill : (α : Label) (v : ℕ) (βs : List Label) (ws cells : List ℕ) → IsLabel p l a (q ∷ α) → Children p l q' a' βs
      → fill p q' βs ws (store p.n cells (q ∷ α) v) ≡ store p.n (fill p q' βs ws cells) (q ∷ α) v
  unfolding fill
  store-fill α v [] ws cells m ch = refl
  store-fill α v (β ∷ βs) [] cells m ch =
      ap (fill p q' βs []) (store-store α β v (default p) cells m (ch β (Memᴰ.head refl)))
      ∙ store-fill α v βs [] (store p.n cells (q' ∷ β) (default p)) m (λ γ w. ch γ (Memᴰ.tail w))
  store-fill α v (β ∷ βs) (w ∷ ws) cells m ch =
      ap (fill p q' βs ws) (store-store α β v (value p w) cells m (ch β (Memᴰ.head refl)))
      ∙ store-fill α v βs ws (store p.n cells (q' ∷ β) (value p w)) m (λ γ w. ch γ (Memᴰ.tail w))

  fill-fill : (αs βs : List Label) (vs ws cells : List ℕ) → Children p l q a αs → Children p l q' a' βs
      → fill p q αs vs (fill p q' βs ws cells) ≡ fill p q' βs ws (fill p q αs vs cells)
  unfolding fill
  fill-fill [] βs vs ws cells ch ch' = refl
  fill-fill (α ∷ αs) βs [] ws cells ch ch' =
      ap (fill p q αs []) (sym (store-fill α (default p) βs ws cells (ch α (Memᴰ.head refl)) ch'))
      ∙ fill-fill αs βs [] ws (store p.n cells (q ∷ α) (default p)) (λ γ w. ch γ (Memᴰ.tail w)) ch'
  fill-fill (α ∷ αs) βs (v ∷ vs) ws cells ch ch' =
      ap (fill p q αs vs) (sym (store-fill α (value p v) βs ws cells (ch α (Memᴰ.head refl)) ch'))
      ∙ fill-fill αs βs vs ws (store p.n cells (q ∷ α) (value p v)) (λ γ w. ch γ (Memᴰ.tail w)) ch'

-- Frames of two boards, or of two rounds, may be stored in either order.
pub fill-commutes : (p : Plan) (l : p.dealer < p.n) (i : ℕ) (k k' : Round) → 1 ≤ k.0 → 1 ≤ k'.0 → (q q' : ℕ) (vs ws cells : List ℕ)
    → (q ≢ q') ⊎ (k.0 ≢ k'.0) → q < p.n → q' < p.n
    → fill p q (sent p q i k) vs (fill p q' (sent p q' i k') ws cells) ≡ fill p q' (sent p q' i k') ws (fill p q (sent p q i k) vs cells)
fill-commutes p l i k k' low low' q q' vs ws cells apart lq lq' =
    fill-fill p l q q' k.0 k'.0 apart (sent p q i k) (sent p q' i k') vs ws cells
    (λ α w. sent-label p l i k low q α lq w) (λ β w. sent-label p l i k' low' q' β lq' w)

-- Sets of boards below k with the same members are equal.
pub same-members : (k a b : ℕ) → a < 2 ^ k → b < 2 ^ k → ((i : ℕ) → i < k → member i a ≡ member i b) → a ≡ b
unfolding within
same-members k a b ha hb h =
    let x = eqb-true (bit_and a b) a (member-within k a b ha (λ i l t. sym (h i l) ∙ t)) in
    let y = eqb-true (bit_and b a) b (member-within k b a hb (λ i l t. h i l ∙ t)) in
    sym x ∙ and_comm a b ∙ y

-- Two boards told the same, as far as they take it.
module _ (r : Record) (msg msg' : ℕ → Option (List ℕ)) where
  -- Of the boards below j the same frames are taken, and they count as the same.
  record Alike (j : ℕ) : Type 0 where
    same-accepts : (q : ℕ) → q < j → accepts r.plan r.board r.round r.list msg q ≡ accepts r.plan r.board r.round r.list msg' q
    same-content : (q : ℕ) → q < j → accepts r.plan r.board r.round r.list msg q ≡ true → content r.plan r.board r.round r.list msg q ≡ content r.plan r.board r.round r.list msg' q

  alike-low : (j : ℕ) → Alike (suc j) → Alike j
  alike-low j h = record {
    same-accepts = λ q l. h.same-accepts q (omega arith);
    same-content = λ q l. h.same-content q (omega arith);
  }

  marks-same : (j : ℕ) → Alike j → marks r.plan r.board r.round r.list msg j ≡ marks r.plan r.board r.round r.list msg' j
  unfolding marks
  marks-same zero h = refl
  marks-same (suc j) h = ap₂ (λ b s. cond b (insert j s) s) (h.same-accepts j (omega arith)) (marks-same j (alike-low j h))

  cells_same : (cells : List ℕ) (j : ℕ) → Alike j → heard_cells r.plan r.board r.round r.list msg cells j ≡ heard_cells r.plan r.board r.round r.list msg' cells j
  unfolding heard_cells
  cells_same cells zero h = refl
  cells_same cells (suc j) h =
      let ih = cells_same cells j (alike-low j h) in
      cases (accepts r.plan r.board r.round r.list msg j)
      (λ e. rw (e, sym (h.same-accepts j (omega arith)) ∙ e) (ap₂ (fill r.plan j (sent r.plan j r.board r.round)) (h.same-content j (omega arith) e) ih))
      (λ e. rw (e, sym (h.same-accepts j (omega arith)) ∙ e) ih)

-- No frame is taken.
module _ (r : Record) (msg : ℕ → Option (List ℕ)) where
  marks-none : (j : ℕ) → ((q : ℕ) → q < j → accepts r.plan r.board r.round r.list msg q ≡ false) → marks r.plan r.board r.round r.list msg j ≡ 0
  unfolding marks
  marks-none zero h = refl
  marks-none (suc j) h = rw (h j (omega arith)) (marks-none j (λ q l. h q (omega arith)))

  cells-none : (cells : List ℕ) (j : ℕ) → ((q : ℕ) → q < j → accepts r.plan r.board r.round r.list msg q ≡ false) → heard_cells r.plan r.board r.round r.list msg cells j ≡ cells
  unfolding heard_cells
  cells-none cells zero h = refl
  cells-none cells (suc j) h = rw (h j (omega arith)) (cells-none cells j (λ q l. h q (omega arith)))

-- The frames told, and one of board q.
module _ {Frame : Type 0} (msg : ℕ → Option Frame) (q : ℕ) (f : Frame) where
  unfoldable pub update : ℕ → Option Frame
  update x = cond (eqb x q) (some f) (msg x)

  pub update_here : update q ≡ some f
  unfolding update
  update_here = rw (eq-eqb q q refl)

  pub update_other : (x : ℕ) → x ≢ q → update x ≡ msg x
  unfolding update
  update_other x ne = rw (ne_eqb x q ne)

-- One frame more, of board q.
module _ (r : Record) (msg : ℕ → Option (List ℕ)) (q : ℕ) (f : List ℕ) where
  accepts-here : due r.plan q r.board r.round ≡ true → accepts r.plan r.board r.round r.list (update msg q f) q ≡ true
  unfolding accepts is_given
  accepts-here d = and-true (due r.plan q r.board r.round) (is_given (update msg q f q)) d (ap is_given (update_here msg q f))

  accepts-other : (x : ℕ) → x ≢ q → accepts r.plan r.board r.round r.list (update msg q f) x ≡ accepts r.plan r.board r.round r.list msg x
  unfolding accepts
  accepts-other x ne = ap (λ o. due r.plan x r.board r.round && is_given o) (update_other msg q f x ne)

  content-here : content r.plan r.board r.round r.list (update msg q f) q ≡ counted r.list q (sent r.plan q r.board r.round) f
  unfolding content
  content-here = ap (λ o. counted r.list q (sent r.plan q r.board r.round) (Option.get_or o [])) (update_here msg q f)

  content-other : (x : ℕ) → x ≢ q → content r.plan r.board r.round r.list (update msg q f) x ≡ content r.plan r.board r.round r.list msg x
  unfolding content
  content-other x ne = ap (λ o. counted r.list x (sent r.plan x r.board r.round) (Option.get_or o [])) (update_other msg q f x ne)

  alike-before : Alike r (update msg q f) msg q
  alike-before = record {
    same-accepts = λ x l. accepts-other x (omega arith);
    same-content = λ x l _. content-other x (omega arith);
  }

  module _ (g : Good r) (undecided : r.decided ≡ false) (cells : List ℕ) (room : cell_count r.plan.n ≤ length cells)
      (lq : q < r.plan.n) (d : due r.plan q r.board r.round ≡ true) (new : msg q ≡ none) where
    accepts-not : accepts r.plan r.board r.round r.list msg q ≡ false
    unfolding accepts is_given
    accepts-not = rw (new, d)

    cells-more : (j : ℕ) → q < j → j ≤ r.plan.n
        → heard_cells r.plan r.board r.round r.list (update msg q f) cells j
        ≡ fill r.plan q (sent r.plan q r.board r.round) (counted r.list q (sent r.plan q r.board r.round) f) (heard_cells r.plan r.board r.round r.list msg cells j)
    unfolding heard_cells
    cells-more zero lt h = absurd (omega arith)
    cells-more (suc j) lt h =
        let p = r.plan in
        let αs = sent p q r.board r.round in
        cases (eqb j q)
        (λ e. rw (eqb-true j q e, accepts-here d, accepts-not)
        (ap₂ (fill p q αs) content-here (cells_same r (update msg q f) msg cells q alike-before)))
        (λ e. let ne : j ≢ q = eqb-false j q e in
        let ih = cells-more j (omega arith) (omega arith) in
        cases (accepts r.plan r.board r.round r.list msg j)
        (λ t. rw (t, accepts-other j ne ∙ t)
        (ap₂ (fill p j (sent p j r.board r.round)) (content-other j ne) ih
        ∙ fill-commutes p (good-dealer r g) r.board r.round r.round g.position.round-low g.position.round-low j q (content r.plan r.board r.round r.list msg j) (counted r.list q αs f) (heard_cells r.plan r.board r.round r.list msg cells j) (inl ne) h lq))
        (λ t. rw (t, accepts-other j ne ∙ t) ih))

    marks-more : marks r.plan r.board r.round r.list (update msg q f) r.plan.n ≡ insert q (marks r.plan r.board r.round r.list msg r.plan.n)
    marks-more =
        let n = r.plan.n in
        same-members n (marks r.plan r.board r.round r.list (update msg q f) n) (insert q (marks r.plan r.board r.round r.list msg n))
        (marks-below r g (update msg q f) n (omega arith))
        (insert-below n q (marks r.plan r.board r.round r.list msg n) lq (marks-below r g msg n (omega arith)))
        (λ x l. marks-at r.plan r.board r.round r.list (update msg q f) n x l ∙ cases (eqb x q)
        (λ e. rw (eqb-true x q e) (accepts-here d ∙ sym (member-insert q q (marks r.plan r.board r.round r.list msg n) ∙ rw (eq-eqb q q refl))))
        (λ e. accepts-other x (eqb-false x q e) ∙ sym (member-insert x q (marks r.plan r.board r.round r.list msg n) ∙ rw e (marks-at r.plan r.board r.round r.list msg n x l))))

not-given : (o : Option (List ℕ)) → is_given o ≡ false → o ≡ none
unfolding is_given
not-given none e = refl
not-given (some f) e = clash refl e

map_same : (f g : Label → ℕ) (αs : List Label) → ((α : Label) → Memᴰ α αs → f α ≡ g α) → map f αs ≡ map g αs
map_same f g [] h = refl
map_same f g (α ∷ αs) h = ap₂ ◌∷◌ (h α (Memᴰ.head refl)) (map_same f g αs (λ β w. h β (Memᴰ.tail w)))

-- The board with these marks and cells.
abbrev holding : Width → Record → ℕ → List ℕ → Board
holding w r t cells = board_of w (with_marks r t) cells

-- A board that has heard all others.
module _ (w : Width) (r : Record) (g : Good r) (undecided : r.decided ≡ false) (cells : List ℕ) (room : cell_count r.plan.n ≤ length cells) where
  abbrev pub heard_all : (ℕ → Option (List ℕ)) → Board
  heard_all msg = heard w r g undecided msg cells room r.plan.n

  -- Taking one frame more is having been told it with the others.
  pub heard-more : (msg : ℕ → Option (List ℕ)) (q : ℕ) (f : List ℕ) → q < r.plan.n → due r.plan q r.board r.round ≡ true → msg q ≡ none
      → receive q f (heard_all msg) ≡ heard_all (update msg q f)
  unfolding receive counted
  heard-more msg q f lq d new =
      ap₂ (holding w r)
      (sym (marks-more r msg q f g undecided cells room lq d new))
      (sym (cells-more r msg q f g undecided cells room lq d new r.plan.n lq (omega arith)))

  -- How the next frame is judged.
  pub heard-judged : (msg : ℕ → Option (List ℕ)) (q : ℕ)
      → judge_receiving (heard_all msg) q ≡ cond (due r.plan q r.board r.round) (cond (accepts r.plan r.board r.round r.list msg q) (refused 15) (taken [])) (refused 14)
  unfolding judge_receiving
  heard-judged msg q =
      taken-first (judge_open (heard_all msg)) _
      (ap (λ o. o.number) (open-taken (heard_all msg) (heard-open w r g undecided msg cells room r.plan.n (omega arith))))
      ∙ cases (due r.plan q r.board r.round)
      (λ d. ap (λ b. cond (due r.plan q r.board r.round) (cond b (refused 15) (taken [])) (refused 14)) (marks-at r.plan r.board r.round r.list msg r.plan.n q (due-sender r.plan q r.board r.round d)))
      (λ d. rw d)

  -- A frame that is taken was due, and the first of its sender.
  pub heard-taken : (msg : ℕ → Option (List ℕ)) (q : ℕ) → (judge_receiving (heard_all msg) q).number ≡ 0
      → (q < r.plan.n) × (due r.plan q r.board r.round ≡ true) × (msg q ≡ none)
  unfolding accepts
  heard-taken msg q e =
      let j = ap (λ o. o.number) (sym (heard-judged msg q)) ∙ e in
      cases (due r.plan q r.board r.round)
      (λ d. let j' = rw d at j in
      cases (is_given (msg q))
      (λ t. absurd (let z : 15 ≡ 0 = rw t at j' in omega arith))
      (λ t. (due-sender r.plan q r.board r.round d, d, not-given (msg q) t)))
      (λ d. absurd (let z : 14 ≡ 0 = rw d at j in omega arith))

  -- Boards told the same, as far as they take it, hold the same.
  pub heard-same : (msg msg' : ℕ → Option (List ℕ)) → ((q : ℕ) → q < r.plan.n → accepts r.plan r.board r.round r.list msg q ≡ accepts r.plan r.board r.round r.list msg' q)
      → ((q : ℕ) → q < r.plan.n → accepts r.plan r.board r.round r.list msg q ≡ true → content r.plan r.board r.round r.list msg q ≡ content r.plan r.board r.round r.list msg' q) → heard_all msg ≡ heard_all msg'
  heard-same msg msg' a c =
      let h : Alike r msg msg' r.plan.n = record { same-accepts = a; same-content = c } in
      ap₂ (holding w r) (marks-same r msg msg' r.plan.n h) (cells_same r msg msg' cells r.plan.n h)

  -- A board that is told nothing keeps its cells, and marks no board.
  pub heard-none : (msg : ℕ → Option (List ℕ)) → ((q : ℕ) → q < r.plan.n → msg q ≡ none) → heard_all msg ≡ board_of w (with_marks r 0) cells
  unfolding accepts is_given
  heard-none msg h =
      let a : (q : ℕ) → q < r.plan.n → accepts r.plan r.board r.round r.list msg q ≡ false = λ q l. rw (h q l) (and-false (due r.plan q r.board r.round)) in
      ap₂ (holding w r) (marks-none r msg r.plan.n a) (cells-none r msg cells r.plan.n a)

  -- A board sends cells of the level before, which hearing leaves alone.
  sent-kept : (msg : ℕ → Option (List ℕ)) (j : ℕ) (α : Label) → j ≤ r.plan.n → Memᴰ α (sent r.plan r.board r.board r.round)
      → cell_at r.plan.n (heard_cells r.plan r.board r.round r.list msg cells j) α ≡ cell_at r.plan.n cells α
  sent-kept msg j α h m =
      let p = r.plan in
      let i = r.board in
      let k = r.round in
      cases (eqb k.0 1)
      (λ e. absurd (g.other (sent-first p i i k α (eqb-true k.0 1 e) m).0))
      (λ e. let here = (inner-inv p i (k.0 - 1) α (sent-inv p i i k α (eqb-false k.0 1 e) m).0).0 in
      heard-outside r g undecided msg cells room j h (k.0 - 1) α (node-label p i (k.0 - 1) α here)
      (λ in-round. absurd (omega (arith, node-length p i (k.0 - 1) α here, node-length p i k.0 α in-round, g.position.round-low))))

  -- What a board sends in a round does not depend on what it hears in it, whether from some boards or from all.
  pub part-frame : (msg : ℕ → Option (List ℕ)) (j : ℕ) → j ≤ r.plan.n → frame_of (heard w r g undecided msg cells room j) ≡ frame_of (board_of w r cells)
  unfolding frame_of frame read
  part-frame msg j h = map_same _ _ (sent r.plan r.board r.board r.round) (λ α m. ap (value r.plan) (sent-kept msg j α h m))

  pub heard-frame : (msg : ℕ → Option (List ℕ)) → frame_of (heard_all msg) ≡ frame_of (board_of w r cells)
  heard-frame msg = part-frame msg r.plan.n (omega arith)

  -- Past round 1 hearing leaves the root alone.
  pub heard-root : (msg : ℕ → Option (List ℕ)) → 2 ≤ r.round.0 → get_or (heard_all msg).cells 0 0 ≡ get_or cells 0 0
  heard-root msg later =
      let p = r.plan in
      let root = p.dealer ∷ [] in
      sym (root-cell p.n p.dealer (heard_all msg).cells)
      ∙ heard-outside r g undecided msg cells room p.n (omega arith) 1 root (root-has p.n p.dealer)
      (λ in-round. absurd (omega (arith, node-length p r.board r.round.0 root in-round)))
      ∙ root-cell p.n p.dealer cells
