-- The children of a label by number, rising by board.
-- Assumes nothing.
use Prim.Native.Nat.{ℕ, zero, suc, ◌+◌, ◌-◌, ◌*◌, ◌≤◌, ◌<◌}
use mathlib.Core.Path.{◌≡◌, refl, ◌∙◌, ap}
use mathlib.Core.Logic.{◌≢◌}
use mathlib.Core.Bool.{Bool, true, false, not}
use mathlib.Core.List.{List, [], ◌∷◌, Memᴰ}
use native.Mathlib.Omega.{arith}
use lib.Dec.{eqb}
use lib.ListN.{length, get_or, length-append, get_or-append}
use lib.Seq.{get_or-append-add}
use borrow.Author.Tests.{eqb-true, eqb-false}
use Rattle.sets.specs.Search.{count}
use Rattle.sets.proofs.Tests.{cases}
use Rattle.sets.proofs.Count.{count-in, count-out, count-up, count-zero}
use Rattle.tree.specs.Labels.{Label, occurs, children_from, children, children_of}
use Rattle.tree.specs.Places.{ordinal}

-- The boards that are not on a label.
abbrev free : Label → ℕ → Bool
free α i = not (occurs i α)

module _ (α : Label) where
  abbrev before : ℕ → ℕ
  before i = count (free α) i

  before_on : (i : ℕ) → occurs i α ≡ true → before (suc i) ≡ before i
  before_on i e = count-out (free α) i (rw e)

  before-off : (i : ℕ) → occurs i α ≡ false → before (suc i) ≡ before i + 1
  before-off i e = count-in (free α) i (rw e)

  from_on : (i k : ℕ) → occurs i α ≡ true → children_from α i (suc k) ≡ children_from α (suc i) k
  unfolding children_from
  from_on i k e = rw e

  from-off : (i k : ℕ) → occurs i α ≡ false → children_from α i (suc k) ≡ (i ∷ α) ∷ children_from α (suc i) k
  unfolding children_from
  from-off i k e = rw e

  from-size : (i k : ℕ) → length (children_from α i k) + before i ≡ before (i + k)
  unfolding children_from
  from-size i zero = let z : i + 0 ≡ i = omega arith in rw z (omega arith)
  from-size i (suc k) =
      let z : i + suc k ≡ suc i + k = omega arith in
      let ih = from-size (suc i) k in
      rw z (cases (occurs i α)
      (λ e. rw (from_on i k e) (omega (arith, before_on i e)))
      (λ e. rw (from-off i k e) (omega (arith, before-off i e))))

  from-get : (i k q r : ℕ) → i ≤ q → q < i + k → occurs q α ≡ false → r + before i ≡ before q → get_or (children_from α i k) r [] ≡ q ∷ α
  from-get i zero q r l h a e = absurd (omega arith)
  from-get i (suc k) q r l h a e =
      let ih = from-get (suc i) k q in
      cases (eqb q i)
      (λ s. let x : q ≡ i = eqb-true q i s in
      let z : r ≡ 0 = omega (arith, ap before x) in
      rw (z, from-off i k (rw x at a), x))
      (λ s. let ne : q ≢ i = eqb-false q i s in
      let up = count-up (free α) (suc i) q (omega arith) in
      cases (occurs i α)
      (λ y. rw (from_on i k y) (ih r (omega arith) (omega arith) a (omega (arith, before_on i y))))
      (λ y. let z : r ≡ suc (r - 1) = omega (arith, before-off i y) in
      rw (from-off i k y, z) (ih (r - 1) (omega arith) (omega arith) a (omega (arith, before-off i y)))))

  from_at : (i k r : ℕ) → r < length (children_from α i k)
      → (q : ℕ) × (get_or (children_from α i k) r [] ≡ q ∷ α) × (q < i + k) × (occurs q α ≡ false) × (r + before i ≡ before q)
  unfolding children_from
  from_at i zero r l = absurd (omega arith)
  from_at i (suc k) r l = cases (occurs i α)
      (λ y. let (q, g, lq, a, e) = from_at (suc i) k r (rw y at l) in (q, rw (from_on i k y) g, omega arith, a, omega (arith, before_on i y)))
      (λ y. first y r (rw y at l) (from_at (suc i) k))
    where
      first : occurs i α ≡ false → (r : ℕ) → r < suc (length (children_from α (suc i) k))
          → ((r : ℕ) → r < length (children_from α (suc i) k)
          → (q : ℕ) × (get_or (children_from α (suc i) k) r [] ≡ q ∷ α) × (q < suc i + k) × (occurs q α ≡ false) × (r + before (suc i) ≡ before q))
          → (q : ℕ) × (get_or (children_from α i (suc k)) r [] ≡ q ∷ α) × (q < i + suc k) × (occurs q α ≡ false) × (r + before i ≡ before q)
      first y zero l ih = (i, rw (from-off i k y), omega arith, y, omega arith)
      first y (suc r) l ih =
          let (q, g, lq, a, e) = ih r (omega arith) in
          (q, rw (from-off i k y) g, omega arith, a, omega (arith, before-off i y))

-- As many children as boards below n that are not on the label.
pub children-size : (n : ℕ) (α : Label) → length (children n α) ≡ count (λ i. not (occurs i α)) n
unfolding children
children-size n α =
    let z : 0 + n ≡ n = omega arith in
    omega (arith, rw z at (from-size α 0 n), count-zero (free α))

-- Child q stands at its ordinal.
pub child-get : (n : ℕ) (α : Label) (q : ℕ) → q < n → occurs q α ≡ false → get_or (children n α) (ordinal q α) [] ≡ q ∷ α
unfolding children ordinal
child-get n α q l a =
    from-get α 0 n q (before α q) (omega arith) (omega arith) a (omega (arith, count-zero (free α)))

-- And number r is the child by a board with that ordinal.
pub child-at : (n : ℕ) (α : Label) (r : ℕ) → r < length (children n α)
    → (q : ℕ) × (get_or (children n α) r [] ≡ q ∷ α) × (q < n) × (occurs q α ≡ false) × (ordinal q α ≡ r)
unfolding children ordinal
child-at n α r l =
    let (q, g, lq, a, e) = from_at α 0 n r l in
    (q, g, omega arith, a, omega (arith, count-zero (free α)))

-- The ordinals of a label's children rise.
pub ordinal-lt : (α : Label) (q r : ℕ) → occurs q α ≡ false → q < r → ordinal q α < ordinal r α
unfolding ordinal
ordinal-lt α q r a l = omega (arith, before-off α q a, count-up (free α) (suc q) r l)

pub ordinal-le : (α : Label) (q r : ℕ) → q ≤ r → ordinal q α ≤ ordinal r α
unfolding ordinal
ordinal-le α q r l = count-up (free α) q r l

pub ordinal-size : (n : ℕ) (α : Label) (q : ℕ) → q < n → occurs q α ≡ false → ordinal q α < length (children n α)
unfolding ordinal
ordinal-size n α q l a = omega (arith, ordinal-lt α q n a l, children-size n α)

-- The children of a list of labels that have w children each.
module _ (n w : ℕ) where
  pub of_size : (αs : List Label) → ((α : Label) → Memᴰ α αs → length (children n α) ≡ w) → length (children_of n αs) ≡ length αs * w
  unfolding children_of
  of_size [] h = omega arith
  of_size (α ∷ αs) h =
      omega (arith, length-append (children n α) (children_of n αs), h α (Memᴰ.head refl), of_size αs (λ β m. h β (Memᴰ.tail m)))

  pub of-get : (αs : List Label) → ((α : Label) → Memᴰ α αs → length (children n α) ≡ w)
      → (i r : ℕ) → i < length αs → r < w → get_or (children_of n αs) (i * w + r) [] ≡ get_or (children n (get_or αs i [])) r []
  unfolding children_of
  of-get [] h i r li lr = absurd (omega arith)
  of-get (α ∷ αs) h zero r li lr =
      let z : 0 * w + r ≡ r = omega arith in
      rw z (get_or-append (children n α) (children_of n αs) [] r (omega (arith, h α (Memᴰ.head refl))))
  of-get (α ∷ αs) h (suc i) r li lr =
      let z : suc i * w + r ≡ length (children n α) + (i * w + r) = omega (arith, h α (Memᴰ.head refl)) in
      rw z (get_or-append-add (children n α) (children_of n αs) (i * w + r) [] ∙ of-get αs (λ β m. h β (Memᴰ.tail m)) i r (omega arith) lr)
