-- Label number i of a level has rank i, and back.
-- Assumes nothing.
use Prim.Native.Nat.{ℕ, zero, suc, ◌+◌, ◌-◌, ◌*◌, ◌/◌, ◌%◌, ◌<◌}
use mathlib.Core.Path.{◌≡◌, refl, sym, ◌∙◌, ap, subst}
use mathlib.Core.Bool.{false}
use mathlib.Core.List.{[], ◌∷◌, Memᴰ}
use native.Mathlib.Nat.{div-add-mod', mod-lt, div-lt_iff_lt-mul, mul-zero}
use native.Mathlib.Omega.{arith}
use lib.Arith.{digits_lt}
use lib.Dec.{ltb}
use lib.ListN.{length, get_or}
use borrow.Author.Tests.{ltb-true, ltb-false}
use Rattle.sets.proofs.Tests.{cases}
use Rattle.sets.proofs.Count.{count-not}
use Rattle.tree.specs.Labels.{Label, occurs, children, labels}
use Rattle.tree.specs.Places.{level_size, ordinal, rank}
use Rattle.tree.proofs.Entries.{get_d-mem}
use Rattle.tree.proofs.Labels.{no_label, root-inv, label-inv, label-length, label-count}
use Rattle.tree.proofs.Children.{children-size, child-get, child-at, ordinal-size, of_size, of-get}
use Rattle.tree.proofs.Sizes.{size-suc}

-- A label of level k has n - k children.
pub label-width : (n d k : ℕ) (α : Label) → d < n → Memᴰ α (labels n d k) → length (children n α) ≡ n - k
label-width n d k α l m =
    omega (arith, children-size n α, count-not (λ i. occurs i α) n, label-count n d k α l m, label-length n d k α m)

pub labels-size : (n d k : ℕ) → d < n → length (labels n d k) ≡ level_size n k
unfolding labels level_size
labels-size n d zero l = refl
labels-size n d (suc zero) l = refl
labels-size n d (suc (suc k)) l =
    of_size n (n - suc k) (labels n d (suc k)) (λ α m. label-width n d (suc k) α l m)
    ∙ ap (λ x. x * (n - suc k)) (labels-size n d (suc k) l)

pub label-mem : (n d k i : ℕ) → d < n → i < level_size n k → Memᴰ (get_or (labels n d k) i []) (labels n d k)
label-mem n d k i l h = get_d-mem (labels n d k) i [] (omega (arith, labels-size n d k l))

-- The number of a child.
pub rank-child : (n k q : ℕ) (α : Label) → length α ≡ suc k → rank n (q ∷ α) ≡ rank n α * (n - suc k) + ordinal q α
unfolding rank
rank-child n k q [] e = absurd (omega arith)
rank-child n k q (r ∷ α) e = ap (λ m. rank n (r ∷ α) * (n - m) + ordinal q (r ∷ α)) e

-- Number a * w + r of a level is child number r of number a of the level before, with w children each.
pub labels-get : (n d k a r : ℕ) → d < n → a < level_size n (suc k) → r < n - suc k
    → get_or (labels n d (suc (suc k))) (a * (n - suc k) + r) [] ≡ get_or (children n (get_or (labels n d (suc k)) a [])) r []
unfolding labels
labels-get n d k a r l ha hr =
    of-get n (n - suc k) (labels n d (suc k)) (λ α m. label-width n d (suc k) α l m) a r (omega (arith, labels-size n d (suc k) l)) hr

-- A label stands at its rank.
abbrev Stands : ℕ → ℕ → ℕ → Label → Type 0
Stands n d k α = (rank n α < level_size n k) × (get_or (labels n d k) (rank n α) [] ≡ α)

child-stands : (n d k q : ℕ) (α : Label) → d < n → Memᴰ α (labels n d (suc k)) → q < n → occurs q α ≡ false → Stands n d (suc k) α → Stands n d (suc (suc k)) (q ∷ α)
child-stands n d k q α l m lq a s =
    let r : ordinal q α < n - suc k = omega (arith, ordinal-size n α q lq a, label-width n d (suc k) α l m) in
    rw (rank-child n k q α (label-length n d (suc k) α m)) (
      rw (size-suc n k) (digits_lt s.0 r),
      labels-get n d k (rank n α) (ordinal q α) l s.0 r ∙ ap (λ β. get_or (children n β) (ordinal q α) []) s.1 ∙ child-get n α q lq a,
    )

stands : (n d k : ℕ) (α : Label) → d < n → Memᴰ α (labels n d k) → Stands n d k α
unfolding labels rank level_size
stands n d zero α l m = absurd (no_label n d α m)
stands n d (suc zero) α l m = rw (root-inv n d α m) (omega arith, refl)
stands n d (suc (suc k)) α l m =
    let (β, w, (q, x, lq, a)) = label-inv n d k α m in
    subst (Stands n d (suc (suc k))) (sym x) (child-stands n d k q β l w lq a (stands n d (suc k) β l w))

pub rank_lt : (n d k : ℕ) (α : Label) → d < n → Memᴰ α (labels n d k) → rank n α < level_size n k
rank_lt n d k α l m = (stands n d k α l m).0

pub rank-get : (n d k : ℕ) (α : Label) → d < n → Memᴰ α (labels n d k) → get_or (labels n d k) (rank n α) [] ≡ α
rank-get n d k α l m = (stands n d k α l m).1

-- Labels of one level with one rank are equal.
pub rank-injective : (n d k : ℕ) (α β : Label) → d < n → Memᴰ α (labels n d k) → Memᴰ β (labels n d k)
    → rank n α ≡ rank n β → α ≡ β
rank-injective n d k α β l m w e =
    sym (rank-get n d k α l m) ∙ ap (λ i. get_or (labels n d k) i []) e ∙ rank-get n d k β l w

-- What number i splits into: the parent's number and the child's.
pub record Split (n k i : ℕ) : Type 0 where
  pub some-child : 0 < n - suc k
  pub parent : i / (n - suc k) < level_size n (suc k)
  pub child : i % (n - suc k) < n - suc k
  pub whole : i / (n - suc k) * (n - suc k) + i % (n - suc k) ≡ i

pub split : (n k i : ℕ) → i < level_size n (suc (suc k)) → Split n k i
split n k i h =
    let h' : i < level_size n (suc k) * (n - suc k) = rw (size-suc n k) at h in
    let p : 0 < n - suc k =
    cases (ltb 0 (n - suc k))
    (λ e. ltb-true 0 (n - suc k) e)
    (λ e. let z : n - suc k ≡ 0 = omega (arith, ltb-false 0 (n - suc k) e) in
    absurd (omega (arith, rw (z, mul-zero) at h'))) in
    record {
      some-child = p;
      parent = (div-lt_iff_lt-mul p).1 h';
      child = mod-lt i p;
      whole = div-add-mod' i (n - suc k);
    }

pub labels_at : (n d k i : ℕ) → d < n → i < level_size n (suc (suc k))
    → get_or (labels n d (suc (suc k))) i [] ≡ get_or (children n (get_or (labels n d (suc k)) (i / (n - suc k)) [])) (i % (n - suc k)) []
labels_at n d k i l h =
    let s = split n k i h in
    ap (λ j. get_or (labels n d (suc (suc k))) j []) (sym s.whole)
    ∙ labels-get n d k (i / (n - suc k)) (i % (n - suc k)) l s.parent s.child

pub get-rank : (n d k i : ℕ) → d < n → i < level_size n k → rank n (get_or (labels n d k) i []) ≡ i
unfolding labels rank level_size
get-rank n d zero i l h = absurd (omega arith)
get-rank n d (suc zero) i l h = let z : i ≡ 0 = omega arith in rw z
get-rank n d (suc (suc k)) i l h = child-rank (get-rank n d (suc k) (i / (n - suc k)) l (split n k i h).parent)
  where
    child-rank : rank n (get_or (labels n d (suc k)) (i / (n - suc k)) []) ≡ i / (n - suc k) → rank n (get_or (labels n d (suc (suc k))) i []) ≡ i
    child-rank e =
        let s = split n k i h in
        let α : Label = get_or (labels n d (suc k)) (i / (n - suc k)) [] in
        let m : Memᴰ α (labels n d (suc k)) = label-mem n d (suc k) (i / (n - suc k)) l s.parent in
        let (q, g, lq, a, o) = child-at n α (i % (n - suc k)) (omega (arith, label-width n d (suc k) α l m, s.child)) in
        ap (rank n) (labels_at n d k i l h ∙ g)
        ∙ rank-child n k q α (label-length n d (suc k) α m)
        ∙ ap (λ x. x * (n - suc k) + ordinal q α) e
        ∙ ap (λ x. i / (n - suc k) * (n - suc k) + x) o
        ∙ s.whole
