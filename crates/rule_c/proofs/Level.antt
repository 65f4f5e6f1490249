-- Rule C from node to node of a level, and from level to level, as the code goes.
-- Assumes nothing.
use Prim.Native.Nat.{ℕ, zero, suc, ◌+◌, ◌-◌, ◌*◌, ◌/◌, ◌%◌, ◌≤◌, ◌<◌}
use mathlib.Core.Path.{◌≡◌, sym, ap, ap₂, ◌∙◌, subst}
use mathlib.Core.Bool.{Bool, true, false, ◌||◌, cond}
use mathlib.Core.List.{List, [], ◌∷◌, map, Memᴰ}
use mathlib.Core.Option.{some}
use native.Mathlib.Nat.{mul-le-mul}
use native.Mathlib.Numerals.{add-one, sub-one}
use native.Mathlib.Omega.{arith}
use lib.ListN.{length, get_or, take, drop, length-map, get_or-map, drop_of_length-le}
use lib.Seq.{drop-cons, take_at}
use mir.Syntax.{w64}
use mir.Val.{Fits}
use Rattle.sets.specs.Sets.{member}
use Rattle.plan.specs.declared.plan.Plan.{Plan}
use Rattle.schedule.specs.declared.rounds.Run.{Run}
use Rattle.schedule.specs.declared.rounds.Round.{Round}
use Rattle.schedule.specs.Schedule.{rounds}
use Rattle.tree.specs.Labels.{Label, mask, last, labels}
use Rattle.tree.specs.Places.{level_start, rank, place, child_index, outside_below, start_within}
use Rattle.tree.specs.Cells.{cell_at}
use Rattle.tree.proofs.ChildIndex.{child-index}
use Rattle.tree.proofs.Entries.{get_d-mem}
use Rattle.tree.proofs.Labels.{label-length}
use Rattle.tree.proofs.Masks.{mask-member}
use Rattle.tree.proofs.NodePlaces.{child-mem}
use Rattle.tree.proofs.Places.{place-lt}
use Rattle.tree.proofs.Ranks.{rank_lt}
use Rattle.tree.proofs.Sizes.{size-most}
use Rattle.tree.proofs.Within.{start-within, start-most}
use Rattle.protocol.specs.Nodes.{inner}
use Rattle.protocol.specs.declared.records.Rule.TheVariants as Rule
use Rattle.protocol.specs.declared.records.Slot.{Slot}
use Rattle.protocol.specs.Listing.{join, as_set}
use Rattle.protocol.proofs.Nodes.{inner-inv, node-label}
use Rattle.voting.specs.Worth.{child_table, Beside}
use Rattle.voting.specs.Tables.{explained_by}
use Rattle.voting.proofs.Table.{table_same}
use Rattle.walk.specs.Listing.{Walkable, Lists}
use Rattle.internal.specs.Numbers.{code}
use Rattle.walk.proofs.Carried.{inner-coded, inner-few}
use Rattle.internal.proofs.Codes.{Coded}
use Rattle.walk.proofs.Reading.{lists_length}
use Rattle.resolving.specs.Promises.{Convertible}
use Rattle.rule_c.specs.Promises.{Listed}
use Rattle.rule_c.specs.Reading.{standing, passes_by, detect_by, levels_by}
use Rattle.children.specs.Standing.{standing_from, passes_at}

-- Node number j of a level.
module _ {p : Plan} {holders : List ℕ} {i : ℕ} {cells : List ℕ} (k : Convertible p holders i cells)
    {level : ℕ} {nodes : List ℕ} (list : Listed p i level nodes) where
  abbrev αs : List Label
  αs = inner p i level

  list_length : length nodes ≡ length (inner p i level)
  list_length = ap length list.all ∙ length-map αs (code p.n)

  module _ (j : ℕ) (h : j < length nodes) where
    abbrev α : Label
    α = get_or αs j []

    abbrev x : ℕ
    x = get_or nodes j 0

    there : Memᴰ (get_or (inner p i level) j []) (inner p i level)
    there = get_d-mem αs j [] (omega (arith, list_length))

    mem : Memᴰ (get_or (inner p i level) j []) (labels p.n p.dealer level)
    mem = node-label p i level α (inner-inv p i level α there).0

    number : get_or nodes j 0 ≡ code p.n (get_or (inner p i level) j [])
    unfolding code rank last mask
    number = ap (λ l. get_or l j 0) list.all ∙ get_or-map (code p.n) αs j []

    pub visited : Coded p.n (get_or (inner p i level) j []) (get_or nodes j 0)
    visited = subst (Coded p.n α) (sym number) (inner-coded p i k.dealer-below level α k.most-boards there)

    index-small : (ix : ℕ) → ix ≡ get_or nodes j 0 / 1024 → ix * (p.n - level) ≤ 5040
    index-small ix f =
        let a : ix ≤ 720 =
        omega (arith, visited.index, rank_lt p.n p.dealer level α k.dealer-below mem, size-most p.n level k.most-boards) in
        let b : p.n - level ≤ 7 = omega (arith, k.most-boards) in
        omega (arith, mul-le-mul a b)

    -- Its children's cells.
    module _ {start ix : ℕ} (e : start ≡ start_within p.n (level + 1)) (f : ix ≡ get_or nodes j 0 / 1024) where
      abbrev from : ℕ
      from = start + ix * (p.n - level)

      pub from-fits : Fits w64 (start + ix * (p.n - level))
      from-fits = record { fits = omega (arith, index-small ix f, e, start-most p.n (level + 1)) }

      child-place : (c : ℕ) → from + outside_below (x % 128) c ≡ place p.n (c ∷ α)
      unfolding place child_index
      child-place c =
          let z : start ≡ level_start p.n (suc (length α)) =
          e ∙ start-within p.n (level + 1) k.some-board k.most-boards
          ∙ ap (level_start p.n) (let y : level + 1 ≡ suc (length α) = omega (arith, label-length p.n p.dealer level α mem) in y) in
          let w = child-index p.n p.dealer level α c mem in
          let u : ix * (p.n - level) + outside_below (x % 128) c ≡ rank p.n α * (p.n - level) + outside_below (mask α) c =
          ap₂ (λ a s. a * (p.n - level) + outside_below s c) (f ∙ visited.index) visited.boards in
          omega arith

      child-there : (c : ℕ) → c < p.n → member c (x % 128) ≡ false → from + outside_below (x % 128) c < length cells
      child-there c l o =
          omega (
            arith,
            child-place c,
            place-lt p.n p.dealer (suc level) (c ∷ α) k.dealer-below
                (child-mem p.n p.dealer level c α mem l (sym (mask-member c α) ∙ ap (member c) (sym visited.boards) ∙ o)),
            k.room,
          )

      pub beside : Beside p.n (get_or nodes j 0 % 128) (start + ix * (p.n - level)) cells
      beside = record { few = omega (arith, k.most-boards); there = child-there }

      pub passes-here : (grown : List Slot) {b : Bool} → b ≡ passes_at p cells (start + ix * (p.n - level)) (get_or nodes j 0) grown
          → passes_by p cells (get_or (inner p i level) j []) grown ≡ b
      unfolding passes_at passes_by cell_at
      passes-here grown r =
          sym (r
          ∙ ap₂ (λ q t. member q (as_set grown) || explained_by p (x % 128) t (as_set grown)) visited.end
          (table_same (standing_from cells from (x % 128)) (standing p.n cells α) (x % 128) p.n
          (λ c l o. ap (λ y. some (get_or cells y 0)) (child-place c)))
          ∙ ap (λ s. member (last α) (as_set grown) || explained_by p s (child_table (standing p.n cells α) s p.n) (as_set grown)) visited.boards)

    -- One node of the level.
    here : drop j (inner p i level) ≡ get_or (inner p i level) j [] ∷ drop (j + 1) (inner p i level)
    here = drop-cons αs j [] (omega (arith, list_length)) ∙ ap (λ y. α ∷ drop y αs) (sym (add-one j))

    module _ (run : Run) (round : Round) where
      abbrev rest : ℕ → List Slot → List Slot
      rest m d = detect_by p run round cells (drop m αs) d

      step : (b : Bool) (grown : List Slot) → passes_by p cells (get_or (inner p i level) j []) grown ≡ b
          → rest j grown ≡ rest (j + 1) (cond b grown (join (last α) run round (Rule.C (length α)) grown))
      unfolding detect_by
      step b grown e =
          ap (λ l. detect_by p run round cells l grown) here
          ∙ ap (λ x. rest (j + 1) (cond x grown (join (last α) run round (Rule.C (length α)) grown))) e

      pub node_kept : (grown after : List Slot) → passes_by p cells (get_or (inner p i level) j []) grown ≡ true → after ≡ grown
          → detect_by p run round cells (drop (j + 1) (inner p i level)) after ≡ detect_by p run round cells (drop j (inner p i level)) grown
      node_kept grown after e d = ap (rest (j + 1)) d ∙ sym (step true grown e)

      pub node-joined : (grown after : List Slot) (q : ℕ) → passes_by p cells (get_or (inner p i level) j []) grown ≡ false → q ≡ get_or nodes j 0 / 128 % 8
          → after ≡ join q run round (Rule.C level) grown
          → detect_by p run round cells (drop (j + 1) (inner p i level)) after ≡ detect_by p run round cells (drop j (inner p i level)) grown
      node-joined grown after q e f d =
          let depth : level ≡ length α = sym (label-length p.n p.dealer level α mem) in
          ap (rest (j + 1)) (d ∙ ap₂ (λ r n. join r run round (Rule.C n) grown) (f ∙ visited.end) depth)
          ∙ sym (step false grown e)

  pub nodes-done : (run : Run) (round : Round) (j : ℕ) (grown : List Slot) → length nodes ≤ j
      → detect_by p run round cells (drop j (inner p i level)) grown ≡ grown
  unfolding detect_by
  nodes-done run round j grown h =
      ap (λ l. detect_by p run round cells l grown) (drop_of_length-le αs {i = j} (omega (arith, list_length)))

-- The list of the level's nodes, as the walk writes it.
module _ {p : Plan} {holders : List ℕ} {i : ℕ} {cells : List ℕ} (k : Convertible p holders i cells) {level : ℕ} (low : 1 ≤ level) (high : level < (rounds p).0) where
  few : length (inner p i level) ≤ 720
  few = inner-few p i k.dealer-below level k.most-boards

  pub level-walkable : {nodes : List ℕ} → length nodes ≡ 720 → Walkable p level (inner p i level) holders nodes
  level-walkable e = record {
    some-board = k.some-board;
    most-boards = k.most-boards;
    dealer-below = k.dealer-below;
    level-low = low;
    level-most = omega (arith, k.most-rounds);
    level-high = high;
    table = k.table;
    room = omega (arith, few);
  }

  module _ {r : ℕ} {before after : List ℕ} (l : Lists p r (inner p i level) before after) where
    pub front_fits : length before ≡ 720 → r ≤ length after
    front_fits e = omega (arith, l.counted, lists_length l (omega (arith, few)), few)

    pub front-listed : Listed p i level (take r after)
    front-listed =
        let z : r ≡ length (map (code p.n) (inner p i level)) = omega (arith, l.counted, length-map (inner p i level) (code p.n)) in
        record {
          low = low;
          high = high;
          all = ap (take r) l.content ∙ take_at (map (code p.n) (inner p i level)) (drop r before) r (sym z);
        }

-- From level to level.
module _ (p : Plan) (i : ℕ) (run : Run) (round : Round) (cells : List ℕ) where
  pub levels-step : (level : ℕ) (list found : List Slot) → 0 < level → found ≡ detect_by p run round cells (inner p i level) list
      → levels_by p i run round cells (level - 1) found ≡ levels_by p i run round cells level list
  unfolding levels_by
  levels-step zero list found l e = absurd (omega arith)
  levels-step (suc k) list found l e = ap₂ (λ z d. levels_by p i run round cells z d) (sub-one (suc k)) e

  pub levels-done : (level : ℕ) (list : List Slot) → level ≡ 0 → levels_by p i run round cells level list ≡ list
  unfolding levels_by
  levels-done level list e = ap (λ k. levels_by p i run round cells k list) e
