-- The walk on labels reaches the nodes that a frame carries.
-- Assumes nothing.
use Prim.Native.Nat.{ℕ, zero, suc, ◌+◌, ◌-◌, ◌≤◌, ◌<◌}
use mathlib.Core.Path.{◌≡◌, refl, sym, ◌∙◌, ap}
use mathlib.Core.Bool.{Bool, true, false, not, ◌&&◌, ◌||◌}
use mathlib.Core.List.{List, [], ◌∷◌, ◌++◌, append-nil, append_assoc, flat_map, Memᴰ}
use native.Mathlib.Omega.{arith}
use native.Mathlib.Nat.{mul-le-mul_right}
use lib.Dec.{eqb}
use lib.ListN.{length}
use Rattle.sets.proofs.Tests.{cases, clash, is_false, and_l, not_t, true-not, or_r}
use Rattle.plan.specs.declared.plan.Plan.{Plan}
use Rattle.tree.specs.Labels.{Label, occurs, children_from, children, children_of, labels}
use Rattle.tree.specs.Places.{level_size}
use Rattle.tree.proofs.Children.{of_size}
use Rattle.tree.proofs.Labels.{label-below}
use Rattle.tree.proofs.Ranks.{label-width}
use Rattle.tree.proofs.Sizes.{size-most}
use Rattle.protocol.specs.Nodes.{filter, internal, nodes, inner, carried}
use Rattle.protocol.proofs.Few.{filter-append, filter-length}
use Rattle.protocol.proofs.Nodes.{filter-inv, inner-inv, node-label}
use Rattle.internal.specs.Numbers.{code}
use Rattle.walk.specs.Walk.{below}
use Rattle.internal.proofs.Codes.{Coded, label-coded}

flat_append : (f : Label → List Label) (αs βs : List Label) → flat_map f (αs ++ βs) ≡ flat_map f αs ++ flat_map f βs
unfolding flat_map
flat_append f [] βs = refl
flat_append f (α ∷ αs) βs = ap (λ x. f α ++ x) (flat_append f αs βs) ∙ sym (append_assoc (f α) (flat_map f αs) (flat_map f βs))

filter-twice : (f g : Label → Bool) (αs : List Label) → filter f (filter g αs) ≡ filter (λ α. f α && g α) αs
unfolding filter
filter-twice f g [] = refl
filter-twice f g (α ∷ αs) =
    cases (g α)
    (λ e. cases (f α) (λ h. rw (e, h, filter-twice f g αs)) (λ h. rw (e, h, filter-twice f g αs)))
    (λ e. cases (f α) (λ h. rw (e, h, filter-twice f g αs)) (λ h. rw (e, h, filter-twice f g αs)))

-- The walk, one level after the other.
module _ (f : Label → Bool) (n : ℕ) where
  below_last : (αs : List Label) → flat_map (below f n 0) αs ≡ filter f αs
  unfolding flat_map below filter
  below_last [] = refl
  below_last (α ∷ αs) = cases (f α) (λ e. rw (e, below_last αs)) (λ e. rw (e, below_last αs))

  below_next : (k : ℕ) (αs : List Label) → flat_map (below f n (suc k)) αs ≡ flat_map (below f n k) (children_of n (filter f αs))
  unfolding flat_map below filter children_of
  below_next k [] = refl
  below_next k (α ∷ αs) =
      let ih = below_next k αs in
      cases (f α)
      (λ e. rw (e, ih) (sym (flat_append (below f n k) (children n α) (children_of n (filter f αs)))))
      (λ e. rw (e, ih))

-- Only labels that pass u have children that pass f: so the parents may be filtered by u, or not.
module _ (f u : Label → Bool) (h : (q : ℕ) (α : Label) → f (q ∷ α) ≡ true → u α ≡ true) where
  from-none : (α : Label) (i k : ℕ) → u α ≡ false → filter f (children_from α i k) ≡ []
  unfolding filter children_from
  from-none α i zero e = refl
  from-none α i (suc k) e =
      let ih = from-none α (suc i) k e in
      cases (occurs i α) (λ t. rw (t, ih)) (λ t. rw (t, is_false (f (i ∷ α)) (λ x. clash (h i α x) e), ih))

  filter-children : (n : ℕ) (αs : List Label) → filter f (children_of n (filter u αs)) ≡ filter f (children_of n αs)
  unfolding filter children_of children
  filter-children n [] = refl
  filter-children n (α ∷ αs) =
      let ih = filter-children n αs in
      let all = filter-append f (children n α) (children_of n αs) in
      cases (u α)
      (λ e. rw e (filter-append f (children n α) (children_of n (filter u αs)) ∙ ap (λ x. filter f (children n α) ++ x) ih ∙ sym all))
      (λ e. rw e (ih ∙ ap (λ x. x ++ filter f (children_of n αs)) (sym (from-none α 0 n e)) ∙ sym all))

module _ (p : Plan) (q i : ℕ) where
  -- Is the label without q?
  abbrev free : Label → Bool
  free α = not (occurs q α)

  -- Is it internal too? Then a frame of board q carries it.
  abbrev pub carries : Label → Bool
  carries α = free α && internal p i α

  free_up : (c : ℕ) (α : Label) → carries (c ∷ α) ≡ true → free α ≡ true
  unfolding occurs
  free_up c α e =
      true-not (occurs q α) (or_r (eqb q c) (occurs q α) (not_t (eqb q c || occurs q α) (and_l (not (eqb q c || occurs q α)) (internal p i (c ∷ α)) e)))

  carried-nodes : (k : ℕ) → carried p q i k ≡ filter carries (nodes p i k)
  unfolding carried inner
  carried-nodes k = filter-twice free (internal p i) (nodes p i k)

  -- One level more.
  carried-next : (k : ℕ) (αs : List Label) → filter carries αs ≡ carried p q i (suc k)
      → filter carries (children_of p.n (filter carries αs)) ≡ carried p q i (suc (suc k))
  unfolding carried inner nodes
  carried-next k αs e =
      ap (λ x. filter carries (children_of p.n x)) e
      ∙ filter-children carries free free_up p.n (inner p i (suc k))
      ∙ sym (carried-nodes (suc (suc k)))

  below-levels : (m k : ℕ) (αs : List Label) → filter carries αs ≡ carried p q i (suc k)
      → flat_map (below carries p.n m) αs ≡ carried p q i (suc (m + k))
  below-levels zero k αs e = below_last carries p.n αs ∙ e ∙ ap (λ x. carried p q i (suc x)) (let z : k ≡ 0 + k = omega arith in z)
  below-levels (suc m) k αs e =
      below_next carries p.n m αs
      ∙ below-levels m (suc k) (children_of p.n (filter carries αs)) (carried-next k αs e)
      ∙ ap (λ x. carried p q i (suc x)) (let z : m + suc k ≡ suc m + k = omega arith in z)

  -- What is reached from the root.
  pub below-carried : (m : ℕ) → below carries p.n m (p.dealer ∷ []) ≡ carried p q i (suc m)
  unfolding flat_map nodes
  below-carried m =
      sym (append-nil (below carries p.n m (p.dealer ∷ [])))
      ∙ below-levels m 0 ((p.dealer ∷ []) ∷ []) (sym (carried-nodes 1))
      ∙ ap (λ x. carried p q i (suc x)) (let z : m + 0 ≡ m = omega arith in z)

filter-all : (f : Label → Bool) (αs : List Label) → ((α : Label) → Memᴰ α αs → f α ≡ true) → filter f αs ≡ αs
unfolding filter
filter-all f [] h = refl
filter-all f (α ∷ αs) h = rw (h α (Memᴰ.head refl), filter-all f αs (λ β m. h β (Memᴰ.tail m)))

module _ (p : Plan) (i : ℕ) (ld : p.dealer < p.n) where
  pub inner-label : (k : ℕ) (α : Label) → Memᴰ α (inner p i k) → Memᴰ α (labels p.n p.dealer k)
  inner-label k α m = node-label p i k α (inner-inv p i k α m).0

  -- Without a board that there is not, all internal nodes are carried.
  pub carried-all : (q k : ℕ) → p.n ≤ q → carried p q i k ≡ inner p i k
  unfolding carried
  carried-all q k l =
      filter-all (λ α. not (occurs q α)) (inner p i k)
      (λ α m. true-not (occurs q α) (is_false (occurs q α) (λ t. let z = label-below p.n p.dealer k α ld (inner-label k α m) q t in omega arith)))

  -- A node that a frame of board q carries is internal, and without q.
  pub carried-inv : (q k : ℕ) (α : Label) → Memᴰ α (carried p q i k) → Memᴰ α (inner p i k) × (occurs q α ≡ false)
  unfolding carried
  carried-inv q k α m =
      let (w, t) = filter-inv (λ α. not (occurs q α)) (inner p i k) α m in
      (w, not_t (occurs q α) t)

  -- The numbers of the nodes that are listed say what the nodes are.
  pub inner-coded : (k : ℕ) (α : Label) → p.n ≤ 7 → Memᴰ α (inner p i k) → Coded p.n α (code p.n α)
  inner-coded k α l m = label-coded p.n p.dealer k α l ld (inner-label k α m)

  pub carried-coded : (q k : ℕ) (α : Label) → p.n ≤ 7 → Memᴰ α (carried p q i k) → Coded p.n α (code p.n α)
  carried-coded q k α l m = inner-coded k α l (carried-inv q k α m).0

  -- A level has at most 720 internal nodes.
  nodes-next : (k : ℕ) → nodes p i (suc (suc k)) ≡ children_of p.n (inner p i (suc k))
  unfolding nodes inner
  nodes-next k = refl

  nodes-few : (k : ℕ) → length (nodes p i k) ≤ level_size p.n k
  unfolding nodes level_size
  nodes-few zero = omega arith
  nodes-few (suc zero) = omega arith
  nodes-few (suc (suc k)) =
      let w = p.n - suc k in
      let ih = nodes-few (suc k) in
      let less : length (inner p i (suc k)) ≤ length (nodes p i (suc k)) = unfold inner in filter-length (internal p i) (nodes p i (suc k)) in
      let kids = of_size p.n w (inner p i (suc k)) (λ α m. label-width p.n p.dealer (suc k) α ld (inner-label (suc k) α m)) in
      omega (arith, ap length (nodes-next k), kids, mul-le-mul_right w (let z : length (inner p i (suc k)) ≤ level_size p.n (suc k) = omega arith in z))

  pub inner-few : (k : ℕ) → p.n ≤ 7 → length (inner p i k) ≤ 720
  unfolding inner
  inner-few k l = omega (arith, filter-length (internal p i) (nodes p i k), nodes-few k, size-most p.n k l)
