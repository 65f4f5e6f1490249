-- On alike plans boards resolve and detect alike.
-- Each law takes the definition's own text along the paths of the parts that read the plan.
-- Assumes nothing.
use Prim.Native.Nat.{ℕ, zero, suc, ◌-◌}
use mathlib.Core.Path.{◌≡◌, refl}
use mathlib.Core.Bool.{not, ◌&&◌, ◌||◌, cond}
use mathlib.Core.List.{List, [], ◌∷◌}
use mathlib.Core.Option
use mathlib.Core.Option.{Option, some, none}
use lib.Dec.{eqb}
use lib.ListN.{length, get_or}
use Rattle.sets.specs.Search.{any}
use Rattle.sets.specs.Only.{only, same}
use Rattle.sets.specs.Sets.{member, set_of}
use Rattle.sets.specs.Tabulate.{tabulate}
use Rattle.plan.specs.declared.plan.Plan.{Plan}
use Rattle.schedule.specs.declared.rounds.Run.{Run}
use Rattle.schedule.specs.declared.rounds.Round.{Round}
use Rattle.tree.specs.Labels.{Label, occurs, last}
use Rattle.tree.specs.Cells.{store}
use Rattle.protocol.specs.declared.records.Rule.TheVariants as Rule
use Rattle.protocol.specs.declared.records.Slot.{Slot}
use Rattle.protocol.specs.Listing.{join, as_set}
use Rattle.protocol.specs.Detection.{vote, resolve, resolve_root, explained, by_cell, by_resolving, passes, Scan, mask_board, detect_g, detect_all_g, detect_c, detect_all_c, detect_levels}
use Rattle.alike.specs.Alike.{Alike}
use Rattle.alike.proofs.Trees.{rounds-alike, default_alike, read_alike, internal-alike, nodes-alike, inner-alike}

module _ (p q : Plan) (a : Alike p q) where
  vote-alike : (α : Label) (f : ℕ → Option ℕ) → vote p α f ≡ vote q α f
  unfolding vote
  vote-alike α f = λ j. only (λ v. not (a.tolerate (set_of (λ c. not (occurs c α) && same (f c) (some v)) (a.n j)) j)) (a.span j)

  resolve-alike : (i : ℕ) (cells : List ℕ) (left : ℕ) (α : Label) → resolve p i cells left α ≡ resolve q i cells left α
  unfolding resolve
  resolve-alike i cells zero α = λ j. some (read_alike p q a cells α j)
  resolve-alike i cells (suc left) α = λ j.
      let child : ℕ → Option ℕ = λ c. let below = resolve-alike i cells left (c ∷ α) j in cond (occurs c α) none below in
      let results = tabulate child 0 (a.n j) in
      let voted = vote-alike α (λ c. get_or results c none) j in
      cond (internal-alike p q a i j α) voted (some (read_alike p q a cells α j))

  pub root_alike : (i : ℕ) (cells : List ℕ) → resolve_root p i cells ≡ resolve_root q i cells
  unfolding resolve_root
  root_alike i cells = λ j. Option.get_or (resolve-alike i cells ((rounds-alike p q a j).0 - 1) (a.dealer j ∷ []) j) (default_alike p q a j)

  explained-alike : (α : Label) (f : ℕ → Option ℕ) (list : List Slot) → explained p α f list ≡ explained q α f list
  unfolding explained
  explained-alike α f list = λ j.
      any (λ v. a.tolerate (set_of (λ c. (not (occurs c α) && not (same (f c) (some v))) || member c (as_set list)) (a.n j)) j) (a.span j)

  passes-alike : (α : Label) (f : ℕ → Option ℕ) (list : List Slot) → passes p α f list ≡ passes q α f list
  unfolding passes
  passes-alike α f list = λ j. member (last α) (as_set list) || explained-alike α f list j

  by-cell-alike : (cells : List ℕ) (α : Label) → by_cell p cells α ≡ by_cell q cells α
  unfolding by_cell
  by-cell-alike cells α = λ j c. some (read_alike p q a cells (c ∷ α) j)

  by-resolving-alike : (i : ℕ) (cells : List ℕ) (α : Label) → by_resolving p i cells α ≡ by_resolving q i cells α
  unfolding by_resolving
  by-resolving-alike i cells α = λ j c. resolve-alike i cells ((rounds-alike p q a j).0 - suc (length α)) (c ∷ α) j

  mask-alike : (r : ℕ) (γs : List Label) (cells : List ℕ) → mask_board p r γs cells ≡ mask_board q r γs cells
  unfolding mask_board
  mask-alike r [] cells = refl
  mask-alike r (γ ∷ γs) cells = λ j. mask-alike r γs (cond (eqb (last γ) r) (store (a.n j) cells γ (default_alike p q a j)) cells) j

  -- In a run and a round.
  module _ (i : ℕ) (t : Run) (k : Round) where
    detect-g-alike : (α : Label) (s : Scan) → detect_g p i t k α s ≡ detect_g q i t k α s
    unfolding detect_g
    detect-g-alike α s = λ j.
        let joined : Scan = record {
          list = join (last α) t k (Rule.G (length α)) s.list;
          cells = mask-alike (last α) (nodes-alike p q a i (suc (length α)) j) s.cells j;
        } in
        cond (passes-alike α (by-cell-alike s.cells α j) s.list j) s joined

    pub detect-all-g-alike : (αs : List Label) (s : Scan) → detect_all_g p i t k αs s ≡ detect_all_g q i t k αs s
    unfolding detect_all_g
    detect-all-g-alike [] s = refl
    detect-all-g-alike (α ∷ αs) s = λ j. detect-all-g-alike αs (detect-g-alike α s j) j

    detect-c-alike : (cells : List ℕ) (α : Label) (list : List Slot) → detect_c p i t k cells α list ≡ detect_c q i t k cells α list
    unfolding detect_c
    detect-c-alike cells α list = λ j.
        cond (passes-alike α (by-resolving-alike i cells α j) list j) list (join (last α) t k (Rule.C (length α)) list)

    detect-all-c-alike : (cells : List ℕ) (αs : List Label) (list : List Slot) → detect_all_c p i t k cells αs list ≡ detect_all_c q i t k cells αs list
    unfolding detect_all_c
    detect-all-c-alike cells [] list = refl
    detect-all-c-alike cells (α ∷ αs) list = λ j. detect-all-c-alike cells αs (detect-c-alike cells α list j) j

    pub levels-alike : (cells : List ℕ) (level : ℕ) (list : List Slot) → detect_levels p i t k cells level list ≡ detect_levels q i t k cells level list
    unfolding detect_levels
    levels-alike cells zero list = refl
    levels-alike cells (suc level) list = λ j. levels-alike cells level (detect-all-c-alike cells (inner-alike p q a i (suc level) j) list j) j
