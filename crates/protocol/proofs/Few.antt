-- A frame has at most 120 values: more bytes than these and one are never read, and room for as many is enough to write every frame.
-- Assumes nothing.
use Prim.Native.Nat.{ℕ, zero, suc, ◌-◌, ◌*◌, ◌≤◌, ◌<◌}
use mathlib.Core.Path.{◌≡◌, refl, sym, ◌∙◌, ap, subst}
use mathlib.Core.Logic.{◌≢◌, ⊎_elim}
use mathlib.Core.Bool.{Bool, true, false, not, ◌&&◌, cond}
use mathlib.Core.List.{List, [], ◌∷◌, ◌++◌, Memᴰ}
use native.Mathlib.Omega.{arith}
use native.Mathlib.Nat.{mul-le-mul_right}
use lib.Dec.{eqb, leb}
use lib.ListN.{length, take, length-append, length-map}
use lib.Seq.{take_all, length-take-le}
use borrow.Author.Tests.{eq-eqb, ne_eqb, leb-true, leb-false}
use Rattle.codec.specs.Codec.{Width, one, two, value_size, decode}
use Rattle.codec.proofs.Codec.{length-encode, decode-past}
use Rattle.sets.specs.Sets.{member}
use Rattle.sets.proofs.Tests.{cases, or_right}
use Rattle.sets.proofs.Search.{any_of}
use Rattle.plan.specs.declared.plan.Plan.{Plan}
use Rattle.schedule.specs.declared.rounds.Round.{Round}
use Rattle.refusals.specs.Outcome.{taken}
use Rattle.plan.specs.Calls.{judged}
use Rattle.tree.specs.Labels.{Label, occurs, children_from, children, children_of, labels}
use Rattle.tree.specs.Places.{level_size, ordinal}
use Rattle.tree.proofs.Entries.{get_d-mem}
use Rattle.tree.proofs.Children.{child-get, ordinal-size}
use Rattle.tree.proofs.Sizes.{size-suc, size-bound}
use Rattle.tree.proofs.Ranks.{label-width}
use Rattle.protocol.specs.Limits.{frame_most, frame_room}
use Rattle.protocol.specs.declared.records.Slot.{Slot}
use Rattle.protocol.specs.Listing.{as_set}
use Rattle.protocol.specs.Nodes.{filter, internal, nodes, inner, carried, sent, due, frame}
use Rattle.protocol.specs.Rounds.{Board, counted, receive}
use Rattle.protocol.specs.Calls.{Output, is_taken, judge_receiving, taking, receiving, frame_of, wire_of, sending}
use Rattle.protocol.proofs.Nodes.{inner-inv, node-label}
use Rattle.protocol.proofs.Judgement.{is-taken, plan-facts, Open, open-taken}
use Rattle.protocol.proofs.Taken.{receiving-facts, taking-refused, due-sender, some_due, sending-written}

-- Filters.
pub filter-length : (f : Label → Bool) (αs : List Label) → length (filter f αs) ≤ length αs
unfolding filter
filter-length f [] = omega arith
filter-length f (α ∷ αs) = let ih = filter-length f αs in cases (f α) (λ e. rw e (omega arith)) (λ e. rw e (omega arith))

pub filter-append : (f : Label → Bool) (αs βs : List Label) → filter f (αs ++ βs) ≡ filter f αs ++ filter f βs
unfolding filter
filter-append f [] βs = refl
filter-append f (α ∷ αs) βs = let ih = filter-append f αs βs in cases (f α) (λ e. rw e (ap (λ x. α ∷ x) ih)) (λ e. rw e ih)

filter-both : (f g : Label → Bool) (αs : List Label) → length (filter f (filter g αs)) ≤ length (filter f αs)
unfolding filter
filter-both f g [] = omega arith
filter-both f g (α ∷ αs) =
    let ih = filter-both f g αs in
    cases (g α)
    (λ e. cases (f α) (λ t. rw (e, t) (omega arith)) (λ t. rw (e, t) ih))
    (λ e. cases (f α) (λ t. rw (e, t) (omega arith)) (λ t. rw (e, t) ih))

filter-drops : (f : Label → Bool) (αs : List Label) (α : Label) → Memᴰ α αs → f α ≡ false → length (filter f αs) < length αs
unfolding filter
filter-drops f [] α m e = absurd (mathlib.Core.List.Memᴰ.not-nil m)
filter-drops f (β ∷ αs) α m e =
    ⊎_elim
    (λ x. rw (subst (λ z. f z ≡ false) x e) (omega (arith, filter-length f αs)))
    (λ w. let ih = filter-drops f αs α w e in cases (f β) (λ t. rw t (omega arith)) (λ t. rw t (omega arith)))
    (mathlib.Core.List.Memᴰ.cases_cons m)

-- The labels without board q.
abbrev without : ℕ → List Label → List Label
without q αs = filter (λ α. not (occurs q α)) αs

-- Children of a label with q have q.
with_none : (q : ℕ) (α : Label) (i k : ℕ) → occurs q α ≡ true → length (without q (children_from α i k)) ≡ 0
unfolding filter children_from occurs
with_none q α i zero e = refl
with_none q α i (suc k) e =
    let ih = with_none q α (suc i) k e in
    cases (occurs i α) (λ t. rw t ih) (λ t. rw (t, or_right (eqb q i) (occurs q α) e) ih)

-- Of the children of a label without q, one is by q.
one_less : (n d q k : ℕ) (α : Label) → d < n → q < n → Memᴰ α (labels n d (suc k)) → occurs q α ≡ false
    → length (without q (children n α)) ≤ n - 1 - suc k
one_less n d q k α ld lq m e =
    let here : Memᴰ (q ∷ α) (children n α) =
    subst (λ z. Memᴰ z (children n α)) (child-get n α q lq e) (get_d-mem (children n α) (ordinal q α) [] (ordinal-size n α q lq e)) in
    let drops = filter-drops (λ α. not (occurs q α)) (children n α) (q ∷ α) here (unfold occurs in rw (eq-eqb q q refl)) in
    omega (arith, label-width n d (suc k) α ld m)

-- So a list of labels has at most so many children without q.
of-few : (n q w : ℕ) (αs : List Label) → ((α : Label) → Memᴰ α αs → occurs q α ≡ false → length (without q (children n α)) ≤ w)
    → length (without q (children_of n αs)) ≤ length (without q αs) * w
unfolding filter children_of
of-few n q w [] h = omega arith
of-few n q w (α ∷ αs) h =
    let ih = of-few n q w αs (λ β m. h β (mathlib.Core.List.Memᴰ.tail m)) in
    let split = ap length (filter-append (λ α. not (occurs q α)) (children n α) (children_of n αs)) ∙ length-append (without q (children n α)) (without q (children_of n αs)) in
    cases (occurs q α)
    (λ e. let none : length (without q (children n α)) ≡ 0 = unfold children in with_none q α 0 n e in rw e (omega (arith, split)))
    (λ e. let most = h α (mathlib.Core.List.Memᴰ.head refl) e in rw e (omega (arith, split)))

module _ (p : Plan) (q i : ℕ) (ld : p.dealer < p.n) (lq : q < p.n) where
  no-nodes : length (without q (nodes p i 0)) ≤ level_size (p.n - 1) 0
  unfolding nodes level_size filter
  no-nodes = omega arith

  one-node : length (without q (nodes p i 1)) ≤ level_size (p.n - 1) 1
  unfolding nodes level_size
  one-node = filter-length (λ α. not (occurs q α)) ((p.dealer ∷ []) ∷ [])

  next-nodes : (k : ℕ) → nodes p i (suc (suc k)) ≡ children_of p.n (inner p i (suc k))
  unfolding nodes inner
  next-nodes k = refl

  inner-few : (k : ℕ) → length (without q (inner p i k)) ≤ length (without q (nodes p i k))
  unfolding inner
  inner-few k = filter-both (λ α. not (occurs q α)) (internal p i) (nodes p i k)

  -- The nodes of a level without q are at most the labels of that level for one board less.
  level-few : (k : ℕ) → length (without q (nodes p i k)) ≤ level_size (p.n - 1) k
  level-few zero = no-nodes
  level-few (suc zero) = one-node
  level-few (suc (suc k)) =
      let w = p.n - 1 - suc k in
      let αs = inner p i (suc k) in
      let ih = level-few (suc k) in
      let kids = of-few p.n q w αs (λ α m e. one_less p.n p.dealer q k α ld lq (node-label p i (suc k) α (inner-inv p i (suc k) α m).0) e) in
      let scaled : length (without q αs) * w ≤ level_size (p.n - 1) (suc k) * w = mul-le-mul_right w (omega (arith, inner-few (suc k))) in
      omega (arith, ap (λ x. length (without q x)) (next-nodes k), size-suc (p.n - 1) k)

-- These are at most 120 where n is at most 7.
size_few : (m k : ℕ) → m ≤ 6 → level_size m k ≤ frame_most
unfolding level_size
size_few = size-bound 6 frame_most (omega arith) refl

-- A level has at most 120 internal nodes without q.
pub carried-few : (p : Plan) (q i k : ℕ) → p.dealer < p.n → p.n ≤ 7 → q < p.n → length (carried p q i k) ≤ frame_most
unfolding carried
carried-few p q i k ld most lq =
    omega (arith, inner-few p q i ld lq k, level-few p q i ld lq k, size_few (p.n - 1) k (omega arith))

-- A frame has at most 120 values.
pub few : (p : Plan) → (judged p).number ≡ 0 → (q i : ℕ) (k : Round) → q < p.n → length (sent p q i k) ≤ frame_most
unfolding sent
few p e q i k lq =
    let f = plan-facts p e in
    cases (eqb k.0 1)
    (λ x. cases (eqb q p.dealer) (λ y. rw (x, y) (omega arith)) (λ y. rw (x, y) (omega arith)))
    (λ x. rw x (carried-few p q i (k.0 - 1) f.dealer-below f.admission.most-boards lq))

-- Room for a frame is more than the bytes of 120 values.
room-past : (w : Width) → value_size w * frame_most < frame_room w
room-past one = omega arith
room-past two = omega arith

-- A frame with bytes for more than 120 values counts for nothing.
counted-past : (w : Width) (list : List Slot) (q : ℕ) (αs : List Label) (f : List ℕ) → length αs ≤ frame_most → value_size w * frame_most < length f
    → counted list q αs (decode w f) ≡ []
unfolding counted
counted-past w list q αs f most l =
    ⊎_elim (λ e. rw e (nothing (eqb 0 (length αs) && not (member q (as_set list))))) (λ h. rw (ne_eqb (length (decode w f)) (length αs) (omega arith)) refl)
    (decode-past w frame_most f l)
  where
    nothing : (b : Bool) → cond {A = List ℕ} b [] [] ≡ []
    nothing true = refl
    nothing false = refl

-- Of a frame only as many bytes are read as there is room for: past 120 values its length is wrong.
counted-few : (w : Width) (list : List Slot) (q : ℕ) (αs : List Label) (f : List ℕ) → length αs ≤ frame_most
    → counted list q αs (decode w (take (frame_room w) f)) ≡ counted list q αs (decode w f)
counted-few w list q αs f most =
    cases (leb (length f) (frame_room w))
    (λ e. ap (λ x. counted list q αs (decode w x)) (take_all (frame_room w) f (leb-true (length f) (frame_room w) e)))
    (λ e. let high : frame_room w < length f = leb-false (length f) (frame_room w) e in
    let cut : length (take (frame_room w) f) ≡ frame_room w = length-take-le (frame_room w) f (omega arith) in
    counted-past w list q αs (take (frame_room w) f) most (subst (λ k. value_size w * frame_most < k) (sym cut) (room-past w))
    ∙ sym (counted-past w list q αs f most (let z = room-past w in omega arith)))

pub overlong : (b : Board) (q : ℕ) (f : List ℕ) → receiving b q (take (frame_room b.width) f) ≡ receiving b q f
unfolding receiving taking receive
overlong b q f =
    let r = b.rec in
    let αs = sent r.plan q r.board r.round in
    cases (is_taken (judge_receiving b q))
    (λ e. let (o, d, _) = receiving-facts b q (is-taken (judge_receiving b q) e) in
    let most = few r.plan o.good.plan-good q r.board r.round (due-sender r.plan q r.board r.round d) in
    rw (counted-few b.width r.list q αs f most))
    (λ e. rw e)

-- The bytes of at most 120 values have room.
room_for : (w : Width) (k : ℕ) → k ≤ frame_most → value_size w * k ≤ frame_room w
room_for one k l = omega arith
room_for two k l = omega arith

-- A board that is open and has a frame due to some board writes it where there is room for a frame.
pub sends : (b : Board) (out : List ℕ) → Open b → frame_room b.width ≤ length out → some_due b ≡ true → (sending b out).answer ≡ taken (length (wire_of b) ∷ [])
sends b out o room d =
    let r = b.rec in
    let size : length (frame_of b) ≡ length (sent r.plan r.board r.board r.round) =
    unfold frame_of frame in length-map (sent r.plan r.board r.board r.round) _ in
    let most = few r.plan o.good.plan-good r.board r.board r.round o.good.below in
    let bytes : length (wire_of b) ≡ value_size b.width * length (frame_of b) = unfold wire_of in length-encode b.width (frame_of b) in
    let fits = room_for b.width (length (frame_of b)) (omega arith) in
    ap (λ (x : Output). x.answer) (sending-written b out (ap (λ x. x.number) (open-taken b o)) d (omega arith))

-- Where it writes none, nothing that is handed in under its number is taken in that round.
pub unsent : (b c : Board) (out f : List ℕ) → Open b → frame_room b.width ≤ length out → c.rec.plan ≡ b.rec.plan → c.rec.round ≡ b.rec.round
    → (sending b out).answer.number ≢ 0 → (receiving c b.rec.board f).board ≡ c
unsent b c out f o room ep er silent =
    let q = b.rec.board in
    cases (is_taken (judge_receiving c q))
    (λ e. let (oc, d, _) = receiving-facts c q (is-taken (judge_receiving c q) e) in
    let d' : due b.rec.plan q c.rec.board b.rec.round ≡ true =
    subst (λ k. due b.rec.plan q c.rec.board k ≡ true) er (subst (λ p. due p q c.rec.board c.rec.round ≡ true) ep d) in
    let below : c.rec.board < b.rec.plan.n = subst (λ (p : Plan). c.rec.board < p.n) ep oc.good.below in
    absurd (silent (ap (λ x. x.number) (sends b out o room (any_of (λ i. due b.rec.plan q i b.rec.round) b.rec.plan.n c.rec.board below d')))))
    (λ e. unfold receiving in taking-refused c q (decode c.width f) e)
