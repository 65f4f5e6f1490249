-- Lists of nodes: what stands at a place of one, and that the list which the walk leaves is one.
-- Assumes nothing.
use Prim.Native.Nat.{zero, suc, ℕ, ◌+◌, ◌-◌, ◌/◌, ◌%◌, ◌≤◌, ◌<◌}
use mathlib.Core.Path.{◌≡◌, refl, sym, subst, ap, ap₂, ◌∙◌}
use mathlib.Core.Bool.{true, false, not}
use mathlib.Core.List.{List, [], ◌∷◌, map, Memᴰ}
use native.Mathlib.Numerals.{add-one}
use native.Mathlib.Omega.{arith}
use lib.ListN.{length, get_or, take, drop, length-map, get_or-map}
use lib.Seq.{drop-cons, take_at}
use borrow.Author.Tests.{ne_eqb}
use Rattle.sets.specs.Structure.{tolerated}
use Rattle.sets.proofs.Tests.{not_t}
use Rattle.plan.specs.declared.plan.Plan.{Plan}
use Rattle.plan.specs.Listed.{listed}
use Rattle.schedule.specs.declared.rounds.Round.{Round}
use Rattle.tree.specs.Labels.{Label, occurs, mask, last, labels, label_at}
use Rattle.tree.specs.Places.{rank, place, cell_count, child_index, start_within}
use Rattle.tree.proofs.Entries.{get_d-mem}
use Rattle.tree.proofs.NodePlaces.{at_lt}
use Rattle.tree.proofs.Ranks.{rank_lt, rank-get}
use Rattle.tree.proofs.Sizes.{size-most}
use Rattle.protocol.specs.Nodes.{inner, carried, sent}
use Rattle.protocol.proofs.Nodes.{filter-inv, inner-inv, node-label, internal-tol}
use Rattle.protocol.proofs.Few.{carried-few}
use Rattle.internal.specs.Numbers.{code}
use Rattle.walk.specs.Listing.{Walkable, Lists}
use Rattle.internal.proofs.Codes.{Coded, label-coded}
use Rattle.frames.proofs.Places.{at_sum, child-sum, child-lt}
use Rattle.frames.specs.Nodes.{Standing, node_at, IsNode, labels_of, Nodes, Without, Storable}

-- From place i on: the node there, and the rest.
pub labels-drop : (p : Plan) (level i : ℕ) (nodes : List ℕ) → i < length nodes
    → drop i (labels_of p level nodes) ≡ node_at p level (get_or nodes i 0) ∷ drop (i + 1) (labels_of p level nodes)
unfolding labels_of
labels-drop p level i nodes h =
    let αs = map (node_at p level) nodes in
    drop-cons αs i (node_at p level 0) (let z : i < length αs = omega (arith, length-map nodes (node_at p level)) in z)
    ∙ ap₂ (λ α k. α ∷ drop k αs) (get_or-map (node_at p level) nodes i 0) (sym (add-one i))

pub labels_at : (p : Plan) (level : ℕ) (nodes : List ℕ) (i : ℕ) → i < length nodes
    → get_or (labels_of p level nodes) i [] ≡ node_at p level (get_or nodes i 0)
unfolding labels_of
labels_at p level (x ∷ nodes) zero l = refl
labels_at p level (x ∷ nodes) (suc i) l = labels_at p level nodes i (omega arith)
labels_at p level [] i l = absurd (omega arith)

pub labels_length : (p : Plan) (level : ℕ) (nodes : List ℕ) → length (labels_of p level nodes) ≡ length nodes
unfolding labels_of
labels_length p level nodes = length-map nodes (node_at p level)

module _ (p : Plan) (level : ℕ) (ld : p.dealer < p.n) (most : p.n ≤ 7) where
  -- The number of a label of the level.
  module _ (α : Label) (m : Memᴰ α (labels p.n p.dealer level)) where
    abbrev c : Coded p.n α (code p.n α)
    c = label-coded p.n p.dealer level α most ld m

    node-is : node_at p level (code p.n α) ≡ α
    unfolding label_at
    node-is = ap (λ i. get_or (labels p.n p.dealer level) i []) c.index ∙ rank-get p.n p.dealer level α ld m

    is-node : IsNode p level (code p.n α)
    is-node = record {
      inside = omega (arith, c.index, rank_lt p.n p.dealer level α ld m);
      boards = c.boards ∙ ap mask (sym node-is);
      end = c.end ∙ ap last (sym node-is);
    }

  -- Numbers of labels of the level.
  pub labels-of : (αs : List Label) → ((α : Label) → Memᴰ α αs → Memᴰ α (labels p.n p.dealer level))
      → labels_of p level (map (code p.n) αs) ≡ αs
  unfolding labels_of
  labels-of [] h = refl
  labels-of (α ∷ αs) h = ap₂ (λ β βs. β ∷ βs) (node-is α (h α (Memᴰ.head refl))) (labels-of αs (λ β m. h β (Memᴰ.tail m)))

  module _ (αs : List Label) (h : (α : Label) → Memᴰ α αs → Memᴰ α (labels p.n p.dealer level)) where
    at_place : (j : ℕ) → get_or (map (code p.n) αs) j 0 ≡ code p.n (get_or αs j [])
    unfolding code rank last mask
    at_place j = get_or-map (code p.n) αs j []

    at_mem : (j : ℕ) → j < length (map (code p.n) αs) → Memᴰ (get_or αs j []) αs
    at_mem j l = get_d-mem αs j [] (omega (arith, length-map αs (code p.n)))

    pub are-nodes : (j : ℕ) → j < length (map (code p.n) αs) → IsNode p level (get_or (map (code p.n) αs) j 0)
    are-nodes j l = subst (IsNode p level) (sym (at_place j)) (is-node (get_or αs j []) (h (get_or αs j []) (at_mem j l)))

    -- What holds of the labels holds of what the numbers stand for.
    node-has : (P : Label → Type 0) → ((α : Label) → Memᴰ α αs → P α)
        → (j : ℕ) → j < length (map (code p.n) αs) → P (node_at p level (get_or (map (code p.n) αs) j 0))
    node-has P f j l =
        subst P (sym (ap (node_at p level) (at_place j) ∙ node-is (get_or αs j []) (h (get_or αs j []) (at_mem j l)))) (f (get_or αs j []) (at_mem j l))

-- At place i of a list: the cells of the node and of its child by board q.
module _ {p : Plan} {level : ℕ} {nodes : List ℕ} (ns : Nodes p level nodes) (i : ℕ) (h : i < length nodes) where
  abbrev node : ℕ
  node = get_or nodes i 0

  pub node-most : node / 1024 ≤ 720
  node-most = omega (arith, (ns.are i h).inside, size-most p.n level ns.most-boards)

  pub own-cell : (start m : ℕ) → start ≡ start_within p.n level → cell_count p.n ≤ m
      → (start + node / 1024 ≡ place p.n (node_at p level node)) × (start + node / 1024 < m)
  own-cell start m e room =
      let x : start + node / 1024 ≡ place p.n (node_at p level node) =
      at_sum p.n p.dealer level (node / 1024) ns.dealer-below (ns.are i h).inside start ns.some-board ns.most-boards e in
      (x, omega (arith, at_lt p.n p.dealer level (node / 1024) ns.dealer-below (ns.are i h).inside))

  pub child-cell : (q start j m : ℕ) → Without p level q nodes → q < p.n → start ≡ start_within p.n (level + 1)
      → j ≡ child_index p.n level (node / 1024) (node % 128) q → cell_count p.n ≤ m
      → (start + j ≡ place p.n (q ∷ node_at p level node)) × (start + j < m)
  child-cell q start j m w lq e z room =
      let is = ns.are i h in
      let x : start + j ≡ place p.n (q ∷ node_at p level node) =
      child-sum p.n p.dealer level (node / 1024) ns.dealer-below is.inside (node % 128) q start j ns.some-board ns.most-boards is.boards e z in
      (x, omega (arith, child-lt p.n p.dealer level (node / 1024) ns.dealer-below is.inside q m lq (w i h) room))

-- The front of what the walk leaves.
pub lists-front : (p : Plan) (count : ℕ) (αs : List Label) (before after : List ℕ) → Lists p count αs before after
    → take count after ≡ map (code p.n) αs
lists-front p count αs before after l =
    ap (take count) l.content
    ∙ take_at (map (code p.n) αs) (drop count before) count (let z : length (map (code p.n) αs) ≡ count = omega (arith, l.counted, length-map αs (code p.n)) in z)

-- Labels of the level before a round after the first.
module _ {p : Plan} {holders : List ℕ} {board : ℕ} {k : Round} (s : Standing p holders board k) (later : 2 ≤ k.0) where
  abbrev level : ℕ
  level = k.0 - 1

  module _ (αs : List Label) where
    walkable : (nodes : List ℕ) → length αs ≤ length nodes → Walkable p level αs holders nodes
    walkable nodes room = record {
      some-board = s.some-board;
      most-boards = s.most-boards;
      dealer-below = s.dealer-below;
      level-low = omega arith;
      level-most = omega (arith, s.round-high, s.rounds-most);
      level-high = omega (arith, s.round-high);
      table = s.table;
      room = room;
    }

    -- The front of the list that the walk leaves for them, as a part of an array.
    module _ (h : (α : Label) → Memᴰ α αs → Memᴰ α (labels p.n p.dealer level)) {count : ℕ} {before after : List ℕ} (l : Lists p count αs before after) where
      front : take (count - 0) after ≡ map (code p.n) αs
      front = ap (λ x. take x after) (let z : count - 0 ≡ count = omega arith in z) ∙ lists-front p count αs before after l

      nodes-of : Nodes p level (take (count - 0) after)
      nodes-of = subst (Nodes p level) (sym front) (record {
        some-board = s.some-board;
        most-boards = s.most-boards;
        dealer-below = s.dealer-below;
        level-below = omega (arith, s.round-high, s.rounds-most);
        are = are-nodes p level s.dealer-below s.most-boards αs h;
      })

      names-of : labels_of p level (take (count - 0) after) ≡ αs
      names-of = ap (labels_of p level) front ∙ labels-of p level s.dealer-below s.most-boards αs h

      -- What holds of the labels holds of what stands there.
      all-of : (P : Label → Type 0) → ((α : Label) → Memᴰ α αs → P α)
          → (j : ℕ) → j < length (take (count - 0) after) → P (node_at p level (get_or (take (count - 0) after) j 0))
      all-of P f =
          subst (λ nodes. (j : ℕ) → j < length nodes → P (node_at p level (get_or nodes j 0))) (sym front)
          (node-has p level s.dealer-below s.most-boards αs h P f)

  -- The internal nodes.
  inner-labels : (α : Label) → Memᴰ α (inner p board level) → Memᴰ α (labels p.n p.dealer level)
  inner-labels α m = node-label p board level α (inner-inv p board level α m).0

  pub inner-walkable : (nodes : List ℕ) → length (inner p board level) ≤ length nodes → Walkable p level (inner p board level) holders nodes
  inner-walkable = walkable (inner p board level)

  module _ {count : ℕ} {before after : List ℕ} (l : Lists p count (inner p board level) before after) where
    pub inner-front-nodes : Nodes p level (take (count - 0) after)
    inner-front-nodes = nodes-of (inner p board level) inner-labels l

    pub inner-front-labels : labels_of p level (take (count - 0) after) ≡ inner p board level
    inner-front-labels = names-of (inner p board level) inner-labels l

    pub inner-front-held : (j : ℕ) → j < length (take (count - 0) after)
        → tolerated (listed p) (mask (node_at p level (get_or (take (count - 0) after) j 0))) ≡ true
    inner-front-held =
        all-of (inner p board level) inner-labels l (λ α. tolerated (listed p) (mask α) ≡ true)
        (λ α m. internal-tol p board α (inner-inv p board level α m).1)

  -- What a frame of board q carries.
  module _ (q : ℕ) where
    abbrev αs : List Label
    αs = carried p q board level

    carried-both : (α : Label) → Memᴰ α αs → Memᴰ α (inner p board level) × (not (occurs q α) ≡ true)
    unfolding carried
    carried-both α m = filter-inv (λ β. not (occurs q β)) (inner p board level) α m

    carried-labels : (α : Label) → Memᴰ α αs → Memᴰ α (labels p.n p.dealer level)
    carried-labels α m = inner-labels α (carried-both α m).0

    pub carried-walkable : q < p.n → (nodes : List ℕ) → length nodes ≡ 120 → Walkable p level αs holders nodes
    carried-walkable lq nodes e = walkable αs nodes (omega (arith, carried-few p q board level s.dealer-below s.most-boards lq))

    -- It is the whole frame.
    pub sent-carried : sent p q board k ≡ αs
    unfolding sent
    sent-carried = rw (ne_eqb k.0 1 (omega arith))

    module _ {count : ℕ} {before after : List ℕ} (l : Lists p count αs before after) where
      pub front_fits : q < p.n → length after ≡ 120 → count ≤ length after
      front_fits lq e =
          omega (arith, l.counted, carried-few p q board level s.dealer-below s.most-boards lq)

      pub front-few : q < p.n → length (take (count - 0) after) ≤ 120
      front-few lq =
          omega (arith, ap length (front αs carried-labels l), length-map αs (code p.n), carried-few p q board level s.dealer-below s.most-boards lq)

      pub front-nodes : Nodes p level (take (count - 0) after)
      front-nodes = nodes-of αs carried-labels l

      pub front-labels : labels_of p level (take (count - 0) after) ≡ αs
      front-labels = names-of αs carried-labels l

      pub front-without : Without p level q (take (count - 0) after)
      front-without = all-of αs carried-labels l (λ α. occurs q α ≡ false) (λ α m. not_t (occurs q α) (carried-both α m).1)

      -- A frame of board q can be stored there.
      pub front-storable : q < p.n → (cells : List ℕ) → cell_count p.n ≤ length cells → Storable p level q (take (count - 0) after) cells
      front-storable lq cells room = record { are-nodes = front-nodes; without = front-without; sender = lq; enough = room }
