-- Resolving a node, as the code goes: from child to child.
-- Assumes nothing.
use Prim.Native.Nat.{ℕ, suc, ◌+◌, ◌-◌, ◌*◌, ◌%◌, ◌^◌, ◌≤◌, ◌<◌}
use mathlib.Core.Path.{◌≡◌, refl, sym, ap, ap₂, ◌∙◌, subst}
use mathlib.Core.Logic.{◌≢◌}
use mathlib.Core.Bool.{true, false, ◌&&◌, and-true, and-false}
use mathlib.Core.List.{List, [], ◌∷◌, Memᴰ}
use mathlib.Core.Option.{Option}
use native.Mathlib.Nat.{mul-le-mul}
use native.Mathlib.Numerals.{add-one}
use native.Mathlib.Omega.{arith}
use lib.Bits.{bit_or}
use lib.Dec.{ltb}
use lib.ListN.{length, get_or, set, replicate}
use mir.Syntax.{w64}
use mir.Val.{Fits}
use borrow.Author.Tests.{ltb-true, ltb-false, lt-ltb, le-ltb}
use Rattle.codec.specs.Codec.{current, blank}
use Rattle.sets.specs.Sets.{member, insert}
use Rattle.sets.proofs.Tests.{cases}
use Rattle.plan.specs.declared.plan.Plan.{Plan}
use Rattle.plan.specs.Values.{default, value}
use Rattle.schedule.specs.Schedule.{rounds}
use Rattle.tree.specs.Labels.{Label, occurs, mask, labels}
use Rattle.tree.specs.Places.{level_size, level_start, cell_count, place, child_index, size_within}
use Rattle.tree.specs.Cells.{cell_at, store}
use Rattle.tree.proofs.Boards.{outside-zero, outside-le, outside-more, outside-skip}
use Rattle.sets.proofs.Collect.{insert-byte}
use Rattle.tree.proofs.Descent.{root-at, root-byte}
use Rattle.tree.proofs.Labels.{label-length, label-below}
use Rattle.tree.proofs.Masks.{mask-member, mask_lt}
use Rattle.tree.proofs.NodePlaces.{at_mem, at_place, at_lt, child-absent, child-inside, child-label}
use Rattle.tree.proofs.Sizes.{start-suc, size-most, cells-most}
use Rattle.tree.proofs.Within.{size-within, start-within, start-next, start-most}
use Rattle.protocol.specs.Nodes.{read, internal}
use Rattle.protocol.specs.Detection.{resolve}
use Rattle.internal.specs.Tests.{is_internal}
use Rattle.internal.proofs.InternalNodes.{internal-is}
use Rattle.voting.specs.Worth.{worth, child_table}
use Rattle.protocol.proofs.Judgement.{plan-default}
use Rattle.voting.specs.Tables.{voted}
use Rattle.voting.proofs.Table.{table-zero, table_more, table-skip}
use Rattle.leaves.specs.Leaves.{Leaves}
use Rattle.resolving.specs.Settled.{settled_below, settled, settled_all}
use Rattle.resolving.specs.Promises.{Convertible, AtNode, Settles, Roots, node}
use Rattle.resolving.proofs.Under.{here, Labelled}
use Rattle.resolving.proofs.Settled.{settled-leaf, settled-inner, below-zero, below_more, below-skip, below_length, below-resolve}
use Rattle.resolving.proofs.Resolved.{resolve-leaf, resolve-inner, root_none, root-some}

-- What is asked of the cells is their number.
pub same-room : {p : Plan} {holders : List ℕ} {i : ℕ} {a b : List ℕ} → Convertible p holders i a → length b ≡ length a → Convertible p holders i b
same-room k e = record {
  accepted = k.accepted;
  some-board = k.some-board;
  most-boards = k.most-boards;
  few-sets = k.few-sets;
  dealer-below = k.dealer-below;
  below = k.below;
  other = k.other;
  some-round = k.some-round;
  most-rounds = k.most-rounds;
  table = k.table;
  most_values = k.most_values;
  room = omega (arith, k.room);
}

-- The children by boards below c are resolved: what they are worth, the cells, and the number of the next child.
pub record Filling (p : Plan) (i level index s left c child : ℕ) (values before cells : List ℕ) : Type 0 where
  pub inside : c ≤ p.n
  pub number : child ≡ child_index p.n level index s c
  pub values-are : values ≡ child_table (λ q. resolve p i before (left - 1) (q ∷ node p level index)) s c
  pub cells_are : cells ≡ settled_below (settled p i (left - 1)) (node p level index) c before

module _ {p : Plan} {holders : List ℕ} {i : ℕ} {before : List ℕ} (k : Convertible p holders i before)
    {level start index s left : ℕ} (st : AtNode p level start index s left) where
  abbrev α : Label
  α = node p level index

  mem : Memᴰ α (labels p.n p.dealer level)
  mem = at_mem p.n p.dealer level index k.dealer-below st.inside

  level-is : length (node p level index) ≡ level
  level-is = label-length p.n p.dealer level α mem

  labelled : Labelled p (node p level index)
  labelled = subst (λ x. Memᴰ α (labels p.n p.dealer x)) (sym level-is) mem

  pub boards-below : s < 2 ^ p.n
  boards-below = rw st.boards-are (mask_lt p.n α (label-below p.n p.dealer level α k.dealer-below mem))

  -- The node is internal if its boards are so and levels are left.
  pub inner-is : (ltb 0 left && is_internal p i s) ≡ internal p i (node p level index)
  inner-is =
      let t = is_internal p i (mask α) in
      ap (λ x. ltb 0 left && is_internal p i x) st.boards-are
      ∙ rw (internal-is p i α) (cases (ltb 0 left)
      (λ e. rw (e, lt-ltb (length α) (rounds p).0 (omega (arith, level-is, st.levels, ltb-true 0 left e))) (sym (and-true t)))
      (λ e. rw (e, le-ltb (length α) (rounds p).0 (omega (arith, level-is, st.levels, ltb-false 0 left e))) (sym (and-false t))))

  pub place_is : start + index ≡ place p.n (node p level index)
  place_is = ap (λ x. x + index) st.start_is ∙ sym (at_place p.n p.dealer level index k.dealer-below st.inside)

  pub place-below : start + index < cell_count p.n
  place-below = omega (arith, place_is, at_lt p.n p.dealer level index k.dealer-below st.inside)

  pub place-there : start + index < length before
  place-there = omega (arith, place-below, k.room)

  -- Numbers fit.
  pub place-fits : Fits w64 (start + index)
  place-fits = record { fits = omega (arith, place-below, cells-most p.n k.most-boards) }

  -- Where the cell's bytes start.
  pub bytes_fit : Fits w64 ((start + index) * 2)
  bytes_fit = record { fits = omega (arith, place-below, cells-most p.n k.most-boards) }

  next_small : (size : ℕ) → size ≡ size_within p.n level → start + size ≤ 1957
  next_small size e =
      omega (arith, st.start_is, start-within p.n level k.some-board k.most-boards, start-next p.n level, start-most p.n (level + 1))

  pub next_fits : (size : ℕ) → size ≡ size_within p.n level → Fits w64 (start + size)
  next_fits size e = record { fits = omega (arith, next_small size e) }

  first_small : index * (p.n - level) ≤ 5040
  first_small =
      let x : index ≤ 720 = omega (arith, st.inside, size-most p.n level k.most-boards) in
      let y : p.n - level ≤ 7 = omega (arith, k.most-boards) in
      omega (arith, mul-le-mul x y)

  pub first_fits : Fits w64 (index * (p.n - level))
  first_fits = record { fits = omega (arith, first_small) }

  -- A leaf.
  leaf-value : value p (get_or before (start + index) 0) ≡ read p before (node p level index)
  unfolding read cell_at
  leaf-value = ap (λ j. value p (get_or before j 0)) place_is

  pub leaf-settles : {v : ℕ} {after : List ℕ} → internal p i (node p level index) ≡ false → Leaves p (start + index) v before after
      → Settles p i left (node p level index) v before after
  unfolding store
  leaf-settles {v} {after} e f =
      let w = f.value-is ∙ leaf-value ∙ resolve-leaf p i before α left e in
      record { value-is = w; cells_are = f.cells_are ∙ ap₂ (λ j x. set before j x) place_is w ∙ sym (settled-leaf p i left α before e) }

  -- The children.
  abbrev At : ℕ → ℕ → List ℕ → List ℕ → Type 0
  At c child values cells = Filling p i level index s left c child values before cells

  abbrev found : ℕ → Option ℕ
  found q = resolve p i before (left - 1) (q ∷ α)

  pub filling-start : At 0 (index * (p.n - level)) (replicate 8 (blank current)) before
  unfolding child_index
  filling-start = record {
    inside = omega arith;
    number = omega (arith, outside-zero s);
    values-are = sym (table-zero found s);
    cells_are = sym (below-zero (settled p i (left - 1)) α before);
  }

  pub filling-length : {c child : ℕ} {values cells : List ℕ} → At c child values cells → length cells ≡ length before
  filling-length {c} f = ap length f.cells_are ∙ below_length p i (left - 1) α c before

  pub filling-room : {c child : ℕ} {values cells : List ℕ} → At c child values cells → Convertible p holders i cells
  filling-room f = same-room k (filling-length f)

  pub filling-there : {c child : ℕ} {values cells : List ℕ} → At c child values cells → start + index < length cells
  filling-there f = omega (arith, place-there, filling-length f)

  pub number_small : {c child : ℕ} {values cells : List ℕ} → At c child values cells → child ≤ 5047
  unfolding child_index
  number_small {c} f = omega (arith, f.number, f.inside, first_small, outside-le s c, k.most-boards)

  pub filling_skip : {c child child' : ℕ} {values values' cells cells' : List ℕ} → At c child values cells → c < p.n → member c s ≡ true
      → child' ≡ child → values' ≡ values → cells' ≡ cells → At (c + 1) child' values' cells'
  unfolding child_index
  filling_skip {c} f l e a b d = record {
    inside = omega arith;
    number = omega (arith, f.number, outside-skip s c e);
    values-are = b ∙ f.values-are ∙ sym (table-skip found s c e);
    cells_are =
        d
        ∙ f.cells_are
        ∙ sym (below-skip (settled p i (left - 1)) α c before (sym (mask-member c α) ∙ ap (member c) (sym st.boards-are) ∙ e))
        ∙ ap (λ x. settled_below (settled p i (left - 1)) α x before) (sym (add-one c));
  }

  -- The child by board c, which is not on the node.
  module _ {c child : ℕ} {values cells : List ℕ} (f : At c child values cells) (l : c < p.n) (out : member c s ≡ false) where
    child-is : node p (level + 1) child ≡ c ∷ node p level index
    child-is = child-label p.n p.dealer level index k.dealer-below st.inside s c child st.boards-are l out f.number

    absent : occurs c (node p level index) ≡ false
    absent = child-absent p.n p.dealer level index k.dealer-below st.inside s c child st.boards-are l out f.number

    pub child-stands : {next size : ℕ} → left ≢ 0 → size ≡ size_within p.n level → next ≡ start + size
        → AtNode p (level + 1) next child (bit_or s (1 * 2 ^ c % 256)) (left - 1)
    unfolding mask
    child-stands ne e x = record {
      start_is =
          let z : level_start p.n (level + 1) ≡ level_start p.n (suc level) = ap (level_start p.n) (add-one level) in
          omega (arith, z, start-suc p.n level, st.start_is, size-within p.n level k.some-board k.most-boards);
      inside = child-inside p.n p.dealer level index k.dealer-below st.inside s c child st.boards-are l out f.number;
      boards-are = insert-byte s c (omega (arith, k.most-boards)) ∙ ap (insert c) st.boards-are ∙ ap mask (sym child-is);
      levels = omega (arith, st.levels);
    }

    pub filling-here : {v child' : ℕ} {values' after cells' : List ℕ} → Settles p i (left - 1) (node p (level + 1) child) v cells after
        → child' ≡ child + 1 → values' ≡ set values c v → cells' ≡ after → At (c + 1) child' values' cells'
    unfolding child_index
    filling-here {v} g a b d =
        let step = settled p i (left - 1) in
        let w : v ≡ worth (found c) =
        g.value-is
        ∙ ap₂ (λ x β. worth (resolve p i x (left - 1) β)) f.cells_are child-is
        ∙ ap worth (below-resolve p i k.dealer-below here labelled l absent before) in
        record {
          inside = omega arith;
          number = omega (arith, f.number, outside-more s c out);
          values-are = b ∙ ap₂ (λ x y. set x c y) f.values-are w ∙ sym (table_more found s c out);
          cells_are =
              d
              ∙ g.cells_are
              ∙ ap₂ (λ x β. step β x) f.cells_are child-is
              ∙ sym (below_more step α c before absent)
              ∙ ap (λ x. settled_below step α x before) (sym (add-one c));
        }

  -- All children are done.
  pub filling-end : {c child v : ℕ} {values cells : List ℕ} → At c child values cells → p.n ≤ c → left ≢ 0 → internal p i (node p level index) ≡ true
      → v ≡ voted p s values → Settles p i left (node p level index) v before (set cells (start + index) v)
  unfolding store
  filling-end {c} {v = v} {cells = cells} f h ne e x =
      let whole : c ≡ p.n = omega (arith, f.inside) in
      let depth : suc (left - 1) ≡ left = omega arith in
      let w : v ≡ worth (resolve p i before (suc (left - 1)) α) =
      x
      ∙ ap (voted p s) (f.values-are ∙ ap (child_table found s) whole)
      ∙ ap (λ b. voted p b (child_table found b p.n)) st.boards-are
      ∙ resolve-inner p i before α (left - 1) (omega (arith, k.most-boards)) k.most_values e in
      record {
        value-is = w ∙ ap (λ m. worth (resolve p i before m α)) depth;
        cells_are =
            ap₂ (λ j y. set cells j y) place_is w
            ∙ ap (λ y. set y (place p.n α) (worth (resolve p i before (suc (left - 1)) α)))
            (f.cells_are ∙ ap (λ y. settled_below (settled p i (left - 1)) α y before) whole)
            ∙ sym (settled-inner p i (left - 1) α before e)
            ∙ ap (λ m. settled p i m α before) depth;
      }

-- The root.
module _ {p : Plan} {holders : List ℕ} {i : ℕ} {before : List ℕ} (k : Convertible p holders i before) {top : ℕ} (e : top ≡ (rounds p).0) where
  root_is : node p 1 0 ≡ p.dealer ∷ []
  unfolding level_size
  root_is = root-at p.n p.dealer 1 0 refl (omega arith)

  pub root_stands : AtNode p 1 0 0 (1 * 2 ^ p.dealer % 256) (top - 1)
  unfolding level_size level_start
  root_stands = record {
    start_is = refl;
    inside = omega arith;
    boards-are = root-byte p.dealer (omega (arith, k.dealer-below, k.most-boards)) ∙ ap mask (sym root_is);
    levels = omega (arith, k.some-round);
  }

  module _ {v : ℕ} {after : List ℕ} (f : Settles p i (top - 1) (node p 1 0) v before after) where
    root-value : v ≡ worth (resolve p i before ((rounds p).0 - 1) (p.dealer ∷ []))
    root-value = f.value-is ∙ ap₂ (λ x β. worth (resolve p i before (x - 1) β)) e root_is

    root-cells : after ≡ settled_all p i before
    unfolding settled_all
    root-cells = f.cells_are ∙ ap₂ (λ x β. settled p i (x - 1) β before) e root_is

    pub none-roots : {d : ℕ} → v ≡ blank current → d ≡ default p → Roots p i d before after
    none-roots z x = record { root_is = x ∙ root_none p i before v root-value k.most_values (plan-default p k.accepted) z; cells_are = root-cells }

    pub some-roots : v ≢ blank current → Roots p i v before after
    some-roots ne = record { root_is = root-some p i before v root-value ne; cells_are = root-cells }
