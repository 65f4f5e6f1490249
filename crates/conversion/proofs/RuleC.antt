-- Over the settled cells rule C is that of the protocol.
-- Assumes nothing.
use Prim.Native.Nat.{ℕ, zero, suc, ◌+◌, ◌-◌, ◌≤◌, ◌<◌}
use mathlib.Core.Path.{◌≡◌, refl, sym, ◌∙◌, ap, subst}
use mathlib.Core.Bool.{false, ◌||◌, cond}
use mathlib.Core.List.{List, [], ◌∷◌, Memᴰ}
use mathlib.Core.Option.{Option}
use native.Mathlib.Omega.{arith}
use lib.ListN.{length, set}
use Rattle.codec.specs.Codec.{current, blank}
use Rattle.sets.specs.Sets.{member}
use Rattle.sets.proofs.Tests.{cases}
use Rattle.plan.specs.declared.plan.Plan.{Plan}
use Rattle.plan.specs.Calls.{judged}
use Rattle.schedule.specs.declared.rounds.Run.{Run}
use Rattle.schedule.specs.declared.rounds.Round.{Round}
use Rattle.schedule.specs.Schedule.{rounds}
use Rattle.tree.specs.Labels.{Label, occurs, mask, last}
use Rattle.tree.specs.Places.{cell_count}
use Rattle.tree.specs.Cells.{cell_at}
use Rattle.tree.proofs.Labels.{label-below}
use Rattle.tree.proofs.Masks.{mask-member}
use Rattle.protocol.specs.Nodes.{nodes, inner}
use Rattle.protocol.specs.declared.records.Rule.TheVariants as Rule
use Rattle.protocol.specs.declared.records.Slot.{Slot}
use Rattle.protocol.specs.Listing.{join, as_set}
use Rattle.protocol.specs.Detection.{by_resolving, passes, detect_c, detect_all_c, detect_levels}
use Rattle.protocol.proofs.Nodes.{no_node, node-root, inner-inv, node-inv, node-label, node-length, internal-tol, internal-above}
use Rattle.voting.specs.Worth.{worth, child_table}
use Rattle.voting.specs.Tables.{explained_by}
use Rattle.voting.proofs.Laws.{explained-table}
use Rattle.resolving.specs.Settled.{settled_all}
use Rattle.resolving.specs.Promises.{Convertible, Roots}
use Rattle.conversion.specs.Promises.{Converts}
use Rattle.rule_c.specs.Reading.{standing, passes_by, detect_by, levels_by}
use Rattle.resolving.proofs.Cells.{root-labelled, all-length}
use Rattle.resolving.proofs.Under.{Under, here, down, under-trans}
use Rattle.resolving.proofs.Settled.{settled-done}
use Rattle.resolving.proofs.Steps.{same-room}

-- A node of level j, with k levels below it, is below the root.
node-under : (p : Plan) (i j k : ℕ) (α : Label) → Memᴰ α (nodes p i j) → j + k ≡ (rounds p).0 → Under p i ((rounds p).0 - 1) (p.dealer ∷ []) k α
node-under p i zero k α m e = absurd (no_node p i α m)
node-under p i (suc zero) k α m e =
    let z : (rounds p).0 - 1 ≡ k = omega arith in
    rw (node-root p i α m) (subst (λ x. Under p i ((rounds p).0 - 1) (p.dealer ∷ []) x (p.dealer ∷ [])) z here)
node-under p i (suc (suc j)) k α m e =
    let (β, w, (q, x, l, a)) = node-inv p i j α m in
    let (v, t) = inner-inv p i (suc j) β w in
    rw x (under-trans (node-under p i (suc j) (suc k) β v (omega arith)) (down t l a here))

-- The table looks only at what children are worth.
table-worth : (f g : ℕ → Option ℕ) (s n : ℕ) → ((c : ℕ) → c < n → member c s ≡ false → worth (f c) ≡ worth (g c)) → child_table f s n ≡ child_table g s n
unfolding child_table
table-worth f g s zero h = refl
table-worth f g s (suc k) h =
    let ih = table-worth f g s k (λ c l e. h c (omega arith) e) in
    cases (member k s)
    (λ e. rw e ih)
    (λ e. rw e (ap (λ t. set t k (worth (f k))) ih ∙ ap (λ x. set (child_table g s k) k x) (h k (omega arith) e)))

module _ (p : Plan) (i : ℕ) (cells : List ℕ) where
  module _ (ld : p.dealer < p.n) where
    module _ (r : cell_count p.n ≤ length cells) where
      -- The child of an internal node holds what it resolves to.
      child-done : (k : ℕ) (α : Label) → Memᴰ α (inner p i k) → (c : ℕ) → c < p.n → occurs c α ≡ false
          → cell_at p.n (settled_all p i cells) (c ∷ α) ≡ worth (by_resolving p i cells α c)
      unfolding settled_all by_resolving
      child-done k α m c l o =
          let (v, t) = inner-inv p i k α m in
          let e : length α ≡ k = node-length p i k α v in
          let h : length α < (rounds p).0 = internal-above p i α t in
          let u = node-under p i k (suc ((rounds p).0 - suc (length α))) α v (omega arith) in
          settled-done p i ld (under-trans u (down t l o here)) (root-labelled p) cells r

      module _ (good : (judged p).number ≡ 0) (m : p.span ≤ blank current) where
        passes_same : (k : ℕ) (α : Label) (list : List Slot) → Memᴰ α (inner p i k)
            → passes_by p (settled_all p i cells) α list ≡ passes p α (by_resolving p i cells α) list
        unfolding passes_by passes worth
        passes_same k α list w =
            let (v, t) = inner-inv p i k α w in
            ap (λ x. member (last α) (as_set list) || explained_by p (mask α) x (as_set list))
            (table-worth (standing p.n (settled_all p i cells) α) (by_resolving p i cells α) (mask α) p.n
            (λ c l o. child-done k α w c l (sym (mask-member c α) ∙ o)))
            ∙ ap (λ x. member (last α) (as_set list) || x)
            (sym (explained-table p α (by_resolving p i cells α) list good m (internal-tol p i α t)
            (label-below p.n p.dealer k α ld (node-label p i k α v))))

        detect-same : (run : Run) (round : Round) (k : ℕ) (αs : List Label) (list : List Slot) → ((α : Label) → Memᴰ α αs → Memᴰ α (inner p i k))
            → detect_by p run round (settled_all p i cells) αs list ≡ detect_all_c p i run round cells αs list
        unfolding detect_by detect_all_c detect_c
        detect-same run round k [] list h = refl
        detect-same run round k (α ∷ αs) list h =
            ap (λ b. detect_by p run round (settled_all p i cells) αs (cond b list (join (last α) run round (Rule.C (length α)) list))) (passes_same k α list (h α (Memᴰ.head refl)))
            ∙ detect-same run round k αs _ (λ β w. h β (Memᴰ.tail w))

        pub levels-same : (run : Run) (round : Round) (k : ℕ) (list : List Slot) → levels_by p i run round (settled_all p i cells) k list ≡ detect_levels p i run round cells k list
        unfolding levels_by detect_levels
        levels-same run round zero list = refl
        levels-same run round (suc k) list =
            levels-same run round k _ ∙ ap (detect_levels p i run round cells k) (detect-same run round (suc k) (inner p i (suc k)) list (λ α w. w))

-- Converting: rule C runs on what resolving leaves.
module _ {p : Plan} {holders : List ℕ} {i v : ℕ} {before after : List ℕ} (k : Convertible p holders i before) (f : Roots p i v before after) where
  pub resolved-room : Convertible p holders i after
  resolved-room = same-room k (ap length f.cells_are ∙ all-length p i before)

  pub converts : {run : Run} {round : Round} {list found : List Slot} → found ≡ levels_by p i run round after ((rounds p).0 - 1) list → Converts p i run round list v found before after
  converts {run} {round} {list} e = record {
    root_is = f.root_is;
    list-is =
        e
        ∙ ap (λ x. levels_by p i run round x ((rounds p).0 - 1) list) f.cells_are
        ∙ levels-same p i before k.dealer-below k.room k.accepted k.most_values run round ((rounds p).0 - 1) list;
    cells_are = f.cells_are;
  }
