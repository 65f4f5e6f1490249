-- What the cells hold once every node was resolved in place.
-- Assumes nothing.
use Prim.Native.Nat.{ℕ, zero, suc, ◌≤◌, ◌<◌}
use mathlib.Core.Path.{◌≡◌, refl, sym, ◌∙◌, ap}
use mathlib.Core.Logic.{◌≢◌}
use mathlib.Core.Bool.{true, false, cond}
use mathlib.Core.List.{List, ◌∷◌}
use mathlib.Core.Option.{Option, some, none}
use native.Mathlib.Omega.{arith}
use lib.Dec.{eqb}
use lib.ListN.{length, get_or, drop}
use lib.Seq.{drop-set-lt}
use borrow.Author.Tests.{eqb-true, eqb-false}
use Rattle.sets.proofs.Tests.{cases}
use Rattle.plan.specs.declared.plan.Plan.{Plan}
use Rattle.tree.specs.Labels.{Label, occurs}
use Rattle.tree.specs.Places.{cell_count, place}
use Rattle.tree.specs.Cells.{cell_at, store}
use Rattle.tree.proofs.Places.{place-lt}
use Rattle.tree.proofs.Cells.{store_length, store_same, store_other}
use Rattle.plan.specs.Values.{value}
use Rattle.protocol.specs.Nodes.{read, internal}
use Rattle.sets.proofs.Tabulated.{tabulate-same}
use Rattle.protocol.specs.Detection.{vote, resolve}
use Rattle.voting.specs.Worth.{worth}
use Rattle.resolving.specs.Settled.{settled_below, settled}
use Rattle.resolving.proofs.Under.{Under, here, down, under-trans, Labelled, child-labelled, under-labelled, under-length, Apart, apart-under, under-apart, apart-ne, siblings}

-- The children, one board after the other.
module _ (f : Label → List ℕ → List ℕ) (α : Label) (k : ℕ) (cells : List ℕ) where
  pub below-skip : occurs k α ≡ true → settled_below f α (suc k) cells ≡ settled_below f α k cells
  unfolding settled_below
  below-skip e = rw e

  pub below_more : occurs k α ≡ false → settled_below f α (suc k) cells ≡ f (k ∷ α) (settled_below f α k cells)
  unfolding settled_below
  below_more e = rw e

pub below-zero : (f : Label → List ℕ → List ℕ) (α : Label) (cells : List ℕ) → settled_below f α 0 cells ≡ cells
unfolding settled_below
below-zero f α cells = refl

-- What does not change under f at the children does not change.
below-keeps : {A : Type 0} (g : List ℕ → A) (f : Label → List ℕ → List ℕ) (α : Label) (k : ℕ)
    → ((c : ℕ) (cells : List ℕ) → c < k → occurs c α ≡ false → g (f (c ∷ α) cells) ≡ g cells)
    → (cells : List ℕ) → g (settled_below f α k cells) ≡ g cells
below-keeps g f α zero h cells = ap g (below-zero f α cells)
below-keeps g f α (suc k) h cells =
    let ih = below-keeps g f α k (λ c x l o. h c x (omega arith) o) cells in
    cases (occurs k α)
    (λ e. ap g (below-skip f α k cells e) ∙ ih)
    (λ e. ap g (below_more f α k cells e) ∙ h k (settled_below f α k cells) (omega arith) e ∙ ih)

module _ (p : Plan) (i : ℕ) where
  -- A leaf, and an internal node.
  pub settled-leaf : (left : ℕ) (α : Label) (cells : List ℕ) → internal p i α ≡ false
      → settled p i left α cells ≡ store p.n cells α (worth (resolve p i cells left α))
  unfolding settled
  settled-leaf zero α cells e = refl
  settled-leaf (suc left) α cells e = rw e

  pub settled-inner : (left : ℕ) (α : Label) (cells : List ℕ) → internal p i α ≡ true
      → settled p i (suc left) α cells ≡ store p.n (settled_below (settled p i left) α p.n cells) α (worth (resolve p i cells (suc left) α))
  unfolding settled
  settled-inner left α cells e = rw e

  -- What does not change under a write at a node below does not change.
  settled-keeps : {A : Type 0} (g : List ℕ → A) (left : ℕ) (α : Label)
      → ((k : ℕ) (γ : Label) (cells : List ℕ) (v : ℕ) → Under p i left α k γ → g (store p.n cells γ v) ≡ g cells)
      → (cells : List ℕ) → g (settled p i left α cells) ≡ g cells
  unfolding settled
  settled-keeps g zero α h cells = h zero α cells _ here
  settled-keeps g (suc left) α h cells =
      cases (internal p i α)
      (λ e. ap g (settled-inner left α cells e) ∙ h (suc left) α _ _ here
      ∙ below-keeps g (settled p i left) α p.n (λ c x l o. settled-keeps g left (c ∷ α) (λ k γ y v u. h k γ y v (down e l o u)) x) cells)
      (λ e. ap g (settled-leaf (suc left) α cells e) ∙ h (suc left) α _ _ here)

  pub settled-length : (left : ℕ) (α : Label) (cells : List ℕ) → length (settled p i left α cells) ≡ length cells
  settled-length left α cells = settled-keeps length left α (λ k γ x v u. store_length p.n x γ v) cells

  pub below_length : (left : ℕ) (α : Label) (k : ℕ) (cells : List ℕ) → length (settled_below (settled p i left) α k cells) ≡ length cells
  below_length left α k cells = below-keeps length (settled p i left) α k (λ c x l o. settled-length left (c ∷ α) x) cells

  -- What a node resolves to depends on the cells below it alone.
  resolve_same : (left : ℕ) (α : Label) (a b : List ℕ) → ((k : ℕ) (γ : Label) → Under p i left α k γ → cell_at p.n a γ ≡ cell_at p.n b γ)
      → resolve p i a left α ≡ resolve p i b left α
  unfolding resolve read
  resolve_same zero α a b h = ap (λ x. some (value p x)) (h zero α here)
  resolve_same (suc left) α a b h =
      let f : ℕ → Option ℕ = λ c. cond (occurs c α) none (resolve p i a left (c ∷ α)) in
      let g : ℕ → Option ℕ = λ c. cond (occurs c α) none (resolve p i b left (c ∷ α)) in
      cases (internal p i α)
      (λ e. rw e (ap (λ t. vote p α (λ c. get_or t c none))
      (tabulate-same f g 0 p.n
      (λ c _ l. cases (occurs c α)
      (λ o. rw o)
      (λ o. rw o (resolve_same left (c ∷ α) a b (λ k γ u. h k γ (down e (omega arith) o u))))))))
      (λ e. rw e (ap (λ x. some (value p x)) (h (suc left) α here)))

  module _ (ld : p.dealer < p.n) where
    -- Surplus cells stay.
    pub settled-drop : (left : ℕ) (α : Label) (cells : List ℕ) → Labelled p α
        → drop (cell_count p.n) (settled p i left α cells) ≡ drop (cell_count p.n) cells
    unfolding store
    settled-drop left α cells m =
        settled-keeps (drop (cell_count p.n)) left α
        (λ k γ x v u. drop-set-lt (cell_count p.n) x (place p.n γ) v (place-lt p.n p.dealer (length γ) γ ld (under-labelled u m))) cells

    -- Cells of labels apart from the node are kept.
    settled-kept : (left k : ℕ) (α γ : Label) (cells : List ℕ) → Labelled p α → Labelled p γ → Apart k α γ
        → cell_at p.n (settled p i left α cells) γ ≡ cell_at p.n cells γ
    settled-kept left k α γ cells m w a =
        settled-keeps (λ x. cell_at p.n x γ) left α
        (λ j δ x v u. store_other p.n p.dealer (length δ) (length γ) x δ γ v ld (under-labelled u m) w (apart-ne (under-apart u a))) cells

    below-kept : (left k : ℕ) (α γ : Label) (cells : List ℕ) → Labelled p α → Labelled p γ → k ≤ p.n
        → ((e : ℕ) → e < k → Apart (suc (length α)) (e ∷ α) γ)
        → cell_at p.n (settled_below (settled p i left) α k cells) γ ≡ cell_at p.n cells γ
    below-kept left k α γ cells m w h a =
        below-keeps (λ x. cell_at p.n x γ) (settled p i left) α k
        (λ e x le o. settled-kept left (suc (length α)) (e ∷ α) γ x (child-labelled p e α m (omega arith) o) w (a e le)) cells

    -- So earlier siblings do not change what is resolved.
    pub below-resolve : {left c j : ℕ} {α γ : Label} → Under p i left (c ∷ α) j γ → Labelled p α → c < p.n → occurs c α ≡ false → (cells : List ℕ)
        → resolve p i (settled_below (settled p i left) α c cells) j γ ≡ resolve p i cells j γ
    below-resolve {left} {c} {j} {α} {γ} u m l o cells =
        let w : Labelled p γ = under-labelled u (child-labelled p c α m l o) in
        resolve_same j γ (settled_below (settled p i left) α c cells) cells
        (λ a δ v. below-kept left c α δ cells m (under-labelled v w) (omega arith)
        (λ b lb. apart-under (under-trans u v) (siblings b c α (λ q. omega arith))))

    -- A node's own cell.
    settled-own : (left : ℕ) (α : Label) (cells : List ℕ) → cell_count p.n ≤ length cells → Labelled p α
        → cell_at p.n (settled p i left α cells) α ≡ worth (resolve p i cells left α)
    unfolding settled
    settled-own zero α cells r m = store_same p.n p.dealer (length α) cells α _ ld r m
    settled-own (suc left) α cells r m =
        cases (internal p i α)
        (λ e. rw e (store_same p.n p.dealer (length α) (settled_below (settled p i left) α p.n cells) α _ ld (omega (arith, below_length left α p.n cells)) m))
        (λ e. rw e (store_same p.n p.dealer (length α) cells α _ ld r m))

    -- Below the child by board c, once the boards below k are done.
    below-done : (left c j : ℕ) (α γ : Label) → Under p i left (c ∷ α) j γ → Labelled p α → c < p.n → occurs c α ≡ false
        → ((x : List ℕ) → cell_count p.n ≤ length x → cell_at p.n (settled p i left (c ∷ α) x) γ ≡ worth (resolve p i x j γ))
        → (cells : List ℕ) → cell_count p.n ≤ length cells → (k : ℕ) → c < k → k ≤ p.n
        → cell_at p.n (settled_below (settled p i left) α k cells) γ ≡ worth (resolve p i cells j γ)
    below-done left c j α γ u m l o ih cells r zero lk lk' = absurd (omega arith)
    below-done left c j α γ u m l o ih cells r (suc k) lk lk' =
        let w : Labelled p γ = under-labelled u (child-labelled p c α m l o) in
        let before = settled_below (settled p i left) α c cells in
        cases (eqb k c)
        (λ e. let z : k ≡ c = eqb-true k c e in
        ap (λ x. cell_at p.n (settled_below (settled p i left) α (suc x) cells) γ) z
        ∙ ap (λ x. cell_at p.n x γ) (below_more (settled p i left) α c cells o)
        ∙ ih before (omega (arith, below_length left α c cells))
        ∙ ap worth (below-resolve u m l o cells))
        (λ e. let ne : k ≢ c = eqb-false k c e in
        let rest = below-done left c j α γ u m l o ih cells r k (omega arith) (omega arith) in
        cases (occurs k α)
        (λ s. ap (λ x. cell_at p.n x γ) (below-skip (settled p i left) α k cells s) ∙ rest)
        (λ s. ap (λ x. cell_at p.n x γ) (below_more (settled p i left) α k cells s)
        ∙ settled-kept left (suc (length α)) (k ∷ α) γ (settled_below (settled p i left) α k cells) (child-labelled p k α m (omega arith) s) w
        (apart-under u (siblings k c α (λ q. ne (sym q))))
        ∙ rest))

    -- Every node below holds what it resolves to.
    pub settled-done : {left k : ℕ} {α γ : Label} → Under p i left α k γ → Labelled p α → (cells : List ℕ) → cell_count p.n ≤ length cells
        → cell_at p.n (settled p i left α cells) γ ≡ worth (resolve p i cells k γ)
    settled-done {left} {k} {α} {γ} here m cells r = settled-own left α cells r m
    settled-done {k = k} {α = α} {γ = γ} (down {left = left} {c = c} t l o u) m cells r =
        let w : Labelled p (c ∷ α) = child-labelled p c α m l o in
        ap (λ x. cell_at p.n x γ) (settled-inner left α cells t)
        ∙ store_other p.n p.dealer (length α) (length γ) (settled_below (settled p i left) α p.n cells) α γ _ ld m (under-labelled u w)
        (λ e. omega (arith, under-length u, ap length e))
        ∙ below-done left c k α γ u m l o (λ x h. settled-done u w x h) cells r p.n l (omega arith)
