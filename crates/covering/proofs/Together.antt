-- Where a board stands in no set, no three sets cover all boards.
-- Assumes nothing.
use Prim.Native.Nat.{ℕ, zero, suc, ◌+◌, ◌<◌}
use mathlib.Core.Path.{◌≡◌, sym, ◌∙◌, ap}
use mathlib.Core.Logic.{⊎_elim}
use mathlib.Core.Bool.{true, false}
use mathlib.Core.List.{List}
use native.Mathlib.Numerals.{add-one}
use native.Mathlib.Omega.{arith}
use lib.Dec.{eqb}
use lib.ListN.{length, get_or}
use lib.Pow.{ones_lt}
use borrow.Author.Tests.{eqb-true, eqb-false, ltb-true}
use Rattle.sets.specs.Sets.{member, union, within, boards}
use Rattle.sets.proofs.Tests.{cases, clash, or-true, or_left, or_right}
use Rattle.sets.proofs.Member.{member-within, member_union}
use Rattle.covering.specs.Pairs.{union_of}
use Rattle.covering.specs.Cover.{first_place, second_place, third_place, covered}
use Rattle.covering.proofs.Cover.{first-triple}

module _ (sets : List ℕ) where
  pub union_more : (k u : ℕ) → u ≡ union_of sets k → union u (get_or sets k 0) ≡ union_of sets (k + 1)
  unfolding union_of
  union_more k u e = rw (add-one k) (ap (λ x. union x (get_or sets k 0)) e)

  in_some : (q i k : ℕ) → i < k → member q (get_or sets i 0) ≡ true → member q (union_of sets k) ≡ true
  unfolding union_of
  in_some q i zero l e = absurd (omega arith)
  in_some q i (suc k) l e =
      member_union q (union_of sets k) (get_or sets k 0)
      ∙ cases (eqb i k)
      (λ x. or_right (member q (union_of sets k)) _ (ap (λ j. member q (get_or sets j 0)) (sym (eqb-true i k x)) ∙ e))
      (λ x. let ne = eqb-false i k x in or_left _ (member q (get_or sets k 0)) (in_some q i k (omega arith) e))

  pub uncovered : (n : ℕ) → within (boards n) (union_of sets (length sets)) ≡ false → covered n sets ≡ false
  unfolding covered boards
  uncovered n e =
      cases (covered n sets)
      (λ x. let t = first-triple n sets (ltb-true (first_place n sets) (length sets) x) in
      let i = first_place n sets in
      let j = second_place n sets i in
      let k = third_place n sets i j in
      let a = get_or sets i 0 in
      let b = get_or sets j 0 in
      let all : within (boards n) (union_of sets (length sets)) ≡ true =
      member-within n (boards n) (union_of sets (length sets)) (ones_lt n)
      (λ q l _.
      ⊎_elim
      (λ y. in_some q i (length sets) (omega (arith, t.ordered.0, t.ordered.1, t.ordered.2)) y)
      (λ y. ⊎_elim
      (λ z. in_some q j (length sets) (omega (arith, t.ordered.1, t.ordered.2)) z)
      (λ z. in_some q k (length sets) (omega (arith, t.ordered.2)) z)
      (or-true (member q b) _ y))
      (or-true (member q a) _ (t.covering q l))) in
      clash all e)
      (λ x. x)
