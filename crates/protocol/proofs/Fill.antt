-- What storing a frame does to the cells, label by label.
-- Assumes nothing.
use Prim.Native.Nat.{ℕ, ◌≤◌, ◌<◌}
use mathlib.Core.Path.{◌≡◌, refl, sym, ◌∙◌, ap, subst}
use mathlib.Core.Logic.{◌≢◌, ⊎_elim}
use mathlib.Core.List.Memᴰ
use mathlib.Core.List.{List, [], ◌∷◌, map, Memᴰ}
use lib.Dec.{eqb, ltb}
use lib.ListN.{length}
use borrow.Author.Tests.{eqb-true, eqb-false}
use Rattle.sets.proofs.Tests.{cases}
use Rattle.plan.specs.declared.plan.Plan.{Plan}
use Rattle.tree.specs.Labels.{Label, labels}
use Rattle.tree.specs.Places.{cell_count, place}
use Rattle.tree.specs.Cells.{cell_at, store}
use Rattle.tree.proofs.Places.{place-injective}
use Rattle.tree.proofs.Cells.{store_length, store_same, store_other}
use Rattle.plan.specs.Values.{default, value}
use Rattle.protocol.specs.Rounds.{fill}

-- The default is a value: it counts as itself.
pub value-default : (p : Plan) → value p (default p) ≡ default p
unfolding value default
value-default p = cases (ltb p.default p.span) (λ e. rw e) (λ e. rw e)

module _ (p : Plan) (l : p.dealer < p.n) where
  -- α is a label of level k.
  abbrev pub IsLabel : ℕ → Label → Type 0
  IsLabel k α = Memᴰ α (labels p.n p.dealer k)

  -- Two labels are equal or not.
  pub label-dec {ℓ} : {C : Type ℓ} (a b : ℕ) (α β : Label) → IsLabel a α → IsLabel b β → (α ≡ β → C) → (α ≢ β → C) → C
  label-dec a b α β m w yes-case no-case =
      cases (eqb (place p.n α) (place p.n β))
      (λ e. yes-case (place-injective p.n p.dealer a b α β l m w (eqb-true (place p.n α) (place p.n β) e)))
      (λ e. no-case (λ z. eqb-false (place p.n α) (place p.n β) e (ap (place p.n) z)))

  pub fill-length : (q : ℕ) (αs : List Label) (vs cells : List ℕ) → length (fill p q αs vs cells) ≡ length cells
  unfolding fill
  fill-length q [] vs cells = refl
  fill-length q (α ∷ αs) [] cells = fill-length q αs [] (store p.n cells (q ∷ α) (default p)) ∙ store_length p.n cells (q ∷ α) (default p)
  fill-length q (α ∷ αs) (v ∷ vs) cells = fill-length q αs vs (store p.n cells (q ∷ α) (value p v)) ∙ store_length p.n cells (q ∷ α) (value p v)

  module _ (q a : ℕ) where
    -- The children by q of these nodes are labels of level a.
    abbrev pub Children : List Label → Type 0
    Children αs = (α : Label) → Memᴰ α αs → IsLabel a (q ∷ α)

    -- A cell that is no child by q of these nodes stays.
    pub fill-other : (αs : List Label) (vs cells : List ℕ) (b : ℕ) (γ : Label) → Children αs → IsLabel b γ → ((α : Label) → Memᴰ α αs → γ ≢ q ∷ α)
        → cell_at p.n (fill p q αs vs cells) γ ≡ cell_at p.n cells γ
    unfolding fill
    fill-other [] vs cells b γ ch m ne = refl
    fill-other (α ∷ αs) [] cells b γ ch m ne =
        fill-other αs [] (store p.n cells (q ∷ α) (default p)) b γ (λ β w. ch β (Memᴰ.tail w)) m (λ β w. ne β (Memᴰ.tail w))
        ∙ store_other p.n p.dealer a b cells (q ∷ α) γ (default p) l (ch α (Memᴰ.head refl)) m (ne α (Memᴰ.head refl))
    fill-other (α ∷ αs) (v ∷ vs) cells b γ ch m ne =
        fill-other αs vs (store p.n cells (q ∷ α) (value p v)) b γ (λ β w. ch β (Memᴰ.tail w)) m (λ β w. ne β (Memᴰ.tail w))
        ∙ store_other p.n p.dealer a b cells (q ∷ α) γ (value p v) l (ch α (Memᴰ.head refl)) m (ne α (Memᴰ.head refl))

    -- One store, of what g has for the node.
    put : (g : Label → ℕ) (α : Label) → List ℕ → List ℕ
    put g α cells = store p.n cells (q ∷ α) (value p (g α))

    put_keeps : (g : Label → ℕ) (α β : Label) (cells : List ℕ) → cell_count p.n ≤ length cells → IsLabel a (q ∷ α) → IsLabel a (q ∷ β)
        → cell_at p.n cells (q ∷ β) ≡ value p (g β) → cell_at p.n (put g α cells) (q ∷ β) ≡ value p (g β)
    unfolding put
    put_keeps g α β cells room m w h =
        label-dec a a (q ∷ β) (q ∷ α) w m
        (λ e. let z : β ≡ α = cc in
        ap (cell_at p.n (store p.n cells (q ∷ α) (value p (g α)))) e
        ∙ store_same p.n p.dealer a cells (q ∷ α) (value p (g α)) l room m ∙ ap (λ x. value p (g x)) (sym z))
        (λ ne. store_other p.n p.dealer a a cells (q ∷ α) (q ∷ β) (value p (g α)) l m w ne ∙ h)

    fill-keeps : (g : Label → ℕ) (αs : List Label) (cells : List ℕ) (β : Label) → cell_count p.n ≤ length cells → Children αs → IsLabel a (q ∷ β)
        → cell_at p.n cells (q ∷ β) ≡ value p (g β) → cell_at p.n (fill p q αs (map g αs) cells) (q ∷ β) ≡ value p (g β)
    unfolding fill put
    fill-keeps g [] cells β room ch w h = h
    fill-keeps g (α ∷ αs) cells β room ch w h =
        fill-keeps g αs (put g α cells) β (rw (store_length p.n cells (q ∷ α) (value p (g α))) room) (λ γ x. ch γ (Memᴰ.tail x)) w
        (put_keeps g α β cells room (ch α (Memᴰ.head refl)) w h)

    -- A frame that has g at each node: child q of a node has that value.
    pub fill-map : (g : Label → ℕ) (αs : List Label) (cells : List ℕ) (β : Label) → cell_count p.n ≤ length cells → Children αs → Memᴰ β αs
        → cell_at p.n (fill p q αs (map g αs) cells) (q ∷ β) ≡ value p (g β)
    unfolding fill
    fill-map g [] cells β room ch w = absurd (Memᴰ.not-nil w)
    fill-map g (α ∷ αs) cells β room ch w =
        let cells' = store p.n cells (q ∷ α) (value p (g α)) in
        let room' : cell_count p.n ≤ length cells' = rw (store_length p.n cells (q ∷ α) (value p (g α))) room in
        let ch' : Children αs = λ γ x. ch γ (Memᴰ.tail x) in
        ⊎_elim
        (λ e. subst (λ z. cell_at p.n (fill p q αs (map g αs) cells') (q ∷ z) ≡ value p (g z)) (sym e)
        (fill-keeps g αs cells' α room' ch' (ch α (Memᴰ.head refl))
        (store_same p.n p.dealer a cells (q ∷ α) (value p (g α)) l room (ch α (Memᴰ.head refl)))))
        (λ m. fill-map g αs cells' β room' ch' m)
        (Memᴰ.cases_cons w)

  -- A frame without values has the default throughout.
  pub fill_none : (q : ℕ) (αs : List Label) (cells : List ℕ) → fill p q αs [] cells ≡ fill p q αs (map (λ _. default p) αs) cells
  unfolding fill
  fill_none q [] cells = refl
  fill_none q (α ∷ αs) cells =
      fill_none q αs (store p.n cells (q ∷ α) (default p))
      ∙ ap (λ x. fill p q αs (map (λ _. default p) αs) (store p.n cells (q ∷ α) x)) (sym (value-default p))
