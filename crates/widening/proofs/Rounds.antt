-- A board of one-byte values and the same board in two bytes, in a round: what is read of the cells is equal, and what is stored in them is below
-- the span, so it is its own widened form.
-- Assumes nothing.
use Prim.Native.Nat.{ℕ, zero, suc, ◌-◌, ◌≤◌, ◌<◌}
use mathlib.Core.Path.{◌≡◌, refl, sym, ◌∙◌, ap, ap₂, fun_ext}
use mathlib.Core.Bool.{not, ◌&&◌, cond}
use mathlib.Core.List.{List, [], ◌∷◌, ◌++◌, map}
use mathlib.Core.Option
use mathlib.Core.Option.{Option, some, none}
use native.Mathlib.Omega.{arith}
use lib.Dec.{eqb, ltb}
use lib.ListN.{length, get_or, set, drop, replicate, get_or-map}
use borrow.Author.Tests.{eqb-true, ne_eqb, le-ltb}
use Rattle.codec.specs.Codec.{one, two, blank}
use Rattle.sets.specs.Sets.{member}
use Rattle.sets.specs.Tabulate.{tabulate}
use Rattle.sets.proofs.Tests.{cases}
use Rattle.plan.specs.declared.plan.Plan.{Plan}
use Rattle.plan.specs.Values.{default, value}
use Rattle.schedule.specs.declared.rounds.Run.{Run}
use Rattle.schedule.specs.declared.rounds.Round.{Round}
use Rattle.schedule.specs.Schedule.{rounds}
use Rattle.tree.specs.Labels.{Label, occurs, last}
use Rattle.tree.specs.Places.{cell_count, place}
use Rattle.tree.specs.Cells.{cell_at, store}
use Rattle.protocol.specs.declared.records.Rule.TheVariants as Rule
use Rattle.protocol.specs.declared.records.Slot.{Slot}
use Rattle.protocol.specs.declared.records.Record.{Record}
use Rattle.protocol.specs.Listing.{join}
use Rattle.protocol.specs.Records.{run_ended}
use Rattle.protocol.specs.Nodes.{read, internal, nodes, inner, sent, due, frame}
use Rattle.protocol.specs.Detection.{vote, resolve, resolve_root, Scan, by_cell, by_resolving, passes, mask_board, detect_g, detect_all_g, detect_c, detect_all_c, detect_levels}
use Rattle.protocol.specs.Rounds.{board_of, Board, fill, fill_missing, copy_own, gather, cleared, root_only, next_round, convert, close}
use Rattle.protocol.proofs.Bounds.{value-small, root-small}
use Rattle.widening.specs.Widening.{wide, wide_record, wide_board}
use Rattle.widening.proofs.Mapped.{set-map, drop-map}

-- Cells without a value, then what lies past them.
blanks-wide : (k c : ℕ) (cells : List ℕ) → replicate k (blank two) ++ drop c (map wide cells) ≡ map wide (replicate k (blank one) ++ drop c cells)
unfolding wide
blanks-wide zero c cells = drop-map wide c cells
blanks-wide (suc k) c cells = ap (λ t. 65535 ∷ t) (blanks-wide k c cells)

pub cleared-wide : (n : ℕ) (cells : List ℕ) → cleared two n (map wide cells) ≡ map wide (cleared one n cells)
cleared-wide n cells = blanks-wide (cell_count n) (cell_count n) cells

module _ (p : Plan) (m : p.span ≤ 255) where
  -- A value is its own widened form.
  pub wide-small : (v : ℕ) → v < p.span → wide v ≡ v
  unfolding wide
  wide-small v l = rw (ne_eqb v 255 (omega arith))

  -- Both marks count as the default.
  value-wide : (x : ℕ) → value p (wide x) ≡ value p x
  unfolding value wide
  value-wide x =
      cases (eqb x 255)
      (λ e. let z = eqb-true x 255 e in rw (e, le-ltb 65535 p.span (omega arith), le-ltb x p.span (omega arith)))
      (λ e. rw e)

  pub read_wide : (cells : List ℕ) → read p (map wide cells) ≡ read p cells
  unfolding read cell_at wide
  read_wide cells = fun_ext (λ α. ap (value p) (get_or-map wide cells (place p.n α) 0) ∙ value-wide (get_or cells (place p.n α) 0))

  -- What a board resolves and lists depends on the values read only.
  module _ (i : ℕ) (cells : List ℕ) where
    resolve-wide : (left : ℕ) (α : Label) → resolve p i (map wide cells) left α ≡ resolve p i cells left α
    unfolding resolve
    resolve-wide zero α = λ j. some (read_wide cells j α)
    resolve-wide (suc left) α = λ j.
        let child : ℕ → Option ℕ = λ c. let below = resolve-wide left (c ∷ α) j in cond (occurs c α) none below in
        let results = tabulate child 0 p.n in
        let voted = vote p α (λ c. get_or results c none) in
        cond (internal p i α) voted (some (read_wide cells j α))

    pub root-wide : resolve_root p i (map wide cells) ≡ resolve_root p i cells
    unfolding resolve_root
    root-wide = λ j. Option.get_or (resolve-wide ((rounds p).0 - 1) (p.dealer ∷ []) j) (default p)

    module _ (t : Run) (k : Round) where
      detect_c-wide : (α : Label) (list : List Slot) → detect_c p i t k (map wide cells) α list ≡ detect_c p i t k cells α list
      unfolding detect_c by_resolving
      detect_c-wide α list = λ j.
          cond (passes p α (λ c. resolve-wide ((rounds p).0 - suc (length α)) (c ∷ α) j) list) list (join (last α) t k (Rule.C (length α)) list)

      detect_all_c-wide : (αs : List Label) (list : List Slot) → detect_all_c p i t k (map wide cells) αs list ≡ detect_all_c p i t k cells αs list
      unfolding detect_all_c
      detect_all_c-wide [] list = refl
      detect_all_c-wide (α ∷ αs) list = ap (detect_all_c p i t k (map wide cells) αs) (detect_c-wide α list) ∙ detect_all_c-wide αs (detect_c p i t k cells α list)

      pub levels-wide : (level : ℕ) (list : List Slot) → detect_levels p i t k (map wide cells) level list ≡ detect_levels p i t k cells level list
      unfolding detect_levels
      levels-wide zero list = refl
      levels-wide (suc level) list = ap (detect_levels p i t k (map wide cells) level) (detect_all_c-wide (inner p i (suc level)) list) ∙ levels-wide level _

unfoldable wide_scan : Scan → Scan
wide_scan s = record { list = s.list; cells = map wide s.cells }

module _ (p : Plan) (m : p.span ≤ 255) (d : default p < p.span) where
  store-wide : (cells : List ℕ) (α : Label) (v : ℕ) → v < p.span → store p.n (map wide cells) α v ≡ map wide (store p.n cells α v)
  unfolding store
  store-wide cells α v l = ap (set (map wide cells) (place p.n α)) (sym (wide-small p m v l)) ∙ set-map wide cells (place p.n α) v

  pub fill-wide : (q : ℕ) (αs : List Label) (vs cells : List ℕ) → fill p q αs vs (map wide cells) ≡ map wide (fill p q αs vs cells)
  unfolding fill
  fill-wide q [] vs cells = refl
  fill-wide q (α ∷ αs) [] cells =
      ap (fill p q αs []) (store-wide cells (q ∷ α) (default p) d) ∙ fill-wide q αs [] (store p.n cells (q ∷ α) (default p))
  fill-wide q (α ∷ αs) (v ∷ vs) cells =
      ap (fill p q αs vs) (store-wide cells (q ∷ α) (value p v) (value-small p d v)) ∙ fill-wide q αs vs (store p.n cells (q ∷ α) (value p v))

  mask-wide : (r : ℕ) (γs : List Label) (cells : List ℕ) → mask_board p r γs (map wide cells) ≡ map wide (mask_board p r γs cells)
  unfolding mask_board
  mask-wide r [] cells = refl
  mask-wide r (γ ∷ γs) cells =
      cases (eqb (last γ) r)
      (λ e. rw e (ap (mask_board p r γs) (store-wide cells γ (default p) d) ∙ mask-wide r γs (store p.n cells γ (default p))))
      (λ e. rw e (mask-wide r γs cells))

  module _ (i : ℕ) (t : Run) (k : Round) where
    detect_g-wide : (α : Label) (s : Scan) → detect_g p i t k α (wide_scan s) ≡ wide_scan (detect_g p i t k α s)
    unfolding detect_g wide_scan by_cell
    detect_g-wide α s =
        let same : passes p α (by_cell p (map wide s.cells) α) s.list ≡ passes p α (by_cell p s.cells α) s.list =
        ap (λ f. passes p α (λ c. some (f (c ∷ α))) s.list) (read_wide p m s.cells) in
        cases (passes p α (by_cell p s.cells α) s.list)
        (λ e. rw (same ∙ e, e))
        (λ e. rw (same ∙ e, e) (ap (λ c. record { list = join (last α) t k (Rule.G (length α)) s.list; cells = c }) (mask-wide (last α) (nodes p i (suc (length α))) s.cells)))

    detect_all_g-wide : (αs : List Label) (s : Scan) → detect_all_g p i t k αs (wide_scan s) ≡ wide_scan (detect_all_g p i t k αs s)
    unfolding detect_all_g
    detect_all_g-wide [] s = refl
    detect_all_g-wide (α ∷ αs) s = ap (detect_all_g p i t k αs) (detect_g-wide α s) ∙ detect_all_g-wide αs (detect_g p i t k α s)

  missing-wide : (i : ℕ) (k : Round) (marks n : ℕ) (cells : List ℕ) → fill_missing p i k marks n (map wide cells) ≡ map wide (fill_missing p i k marks n cells)
  unfolding fill_missing
  missing-wide i k marks zero cells = refl
  missing-wide i k marks (suc q) cells =
      let ih = missing-wide i k marks q cells in
      cases (due p q i k && not (member q marks))
      (λ e. rw e (ap (fill p q (sent p q i k) []) ih ∙ fill-wide q (sent p q i k) [] (fill_missing p i k marks q cells)))
      (λ e. rw e ih)

  own-wide : (i : ℕ) (k : Round) (cells : List ℕ) → copy_own p i k (map wide cells) ≡ map wide (copy_own p i k cells)
  unfolding copy_own frame
  own-wide i k cells =
      let αs = sent p i i k in
      ap (λ f. fill p i αs (map f αs) (map wide cells)) (read_wide p m cells) ∙ fill-wide i αs (map (read p cells) αs) cells

  root-only-wide : (root : ℕ) (cells : List ℕ) → root < p.span → root_only two p.n root (map wide cells) ≡ map wide (root_only one p.n root cells)
  unfolding root_only
  root-only-wide root cells l = ap₂ ◌∷◌ (sym (wide-small p m root l)) (blanks-wide (cell_count p.n - 1) (cell_count p.n) cells)

-- Closing a round.
module _ (r : Record) (m : r.plan.span ≤ 255) (d : default r.plan < r.plan.span) where
  abbrev narrow : List ℕ → Board
  narrow cells = board_of one r cells

  gather-wide : (cells : List ℕ) → gather (wide_board (narrow cells)) ≡ wide_scan (gather (narrow cells))
  unfolding gather wide_board wide_record wide_scan
  gather-wide cells =
      let p = r.plan in
      let i = r.board in
      let k = r.round in
      ap (λ c. detect_all_g p i r.run k (inner p i (k.0 - 1)) (record { list = r.list; cells = c }))
      (ap (copy_own p i k) (missing-wide p m d i k r.marks p.n cells) ∙ own-wide p m d i k (fill_missing p i k r.marks p.n cells))
      ∙ detect_all_g-wide p m d i r.run k (inner p i (k.0 - 1)) _

  convert-wide : (cells : List ℕ) (s : Scan) → convert (wide_board (narrow cells)) (wide_scan s) ≡ wide_board (convert (narrow cells) s)
  unfolding convert wide_scan wide_board wide_record
  convert-wide cells s =
      let p = r.plan in
      let root = root-wide p m r.board s.cells in
      let list = levels-wide p m r.board s.cells r.run r.round ((rounds p).0 - 1) s.list in
      let kept : root_only two p.n (resolve_root p r.board (map wide s.cells)) (map wide s.cells)
      ≡ map wide (root_only one p.n (resolve_root p r.board s.cells) s.cells) =
      ap (λ x. root_only two p.n x (map wide s.cells)) root
      ∙ root-only-wide p m d (resolve_root p r.board s.cells) s.cells (root-small p d r.board s.cells) in
      ap₂ (board_of two) (ap₂ (run_ended r) list root) kept

  pub close-wide : (cells : List ℕ) → close (wide_board (narrow cells)) ≡ wide_board (close (narrow cells))
  unfolding close next_round wide_board wide_record wide_scan
  close-wide cells =
      cases (ltb r.round.0 (rounds r.plan).0)
      (λ e. rw e (ap (next_round (wide_board (narrow cells))) (gather-wide cells)))
      (λ e. rw e (ap (convert (wide_board (narrow cells))) (gather-wide cells) ∙ convert-wide cells (gather (narrow cells))))
