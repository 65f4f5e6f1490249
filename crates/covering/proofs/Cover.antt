-- The first covering triple: what the three searches find.
-- Assumes nothing.
use Prim.Native.Nat.{ℕ, ◌-◌, ◌≤◌, ◌<◌}
use mathlib.Core.Path.{◌≡◌, sym, ◌∙◌, ap, subst}
use mathlib.Core.Logic.{◌≢◌, ◌⊎◌, inl, inr, ⊎_elim}
use mathlib.Core.Bool.{Bool, true, ◌||◌, or_assoc}
use mathlib.Core.List.{List}
use native.Mathlib.Omega.{arith}
use lib.Dec.{eqb, ltb}
use lib.ListN.{length, get_or}
use lib.Pow.{ones_lt}
use borrow.Author.Tests.{eqb-true, eqb-false, lt-ltb, ltb-true}
use Rattle.sets.specs.Sets.{member, union, boards}
use Rattle.covering.specs.Cover.{covers, third_place, second_place, first_place}
use Rattle.covering.specs.Triples.{Cover, NoLater, FirstTriple}
use Rattle.sets.proofs.Tests.{cases, or-true, or_left, or_right}
use Rattle.sets.proofs.Search.{first-true, first-least, first-ge}
use Rattle.sets.proofs.Member.{within-member, member-within, member_union, member-boards}

module _ (n : ℕ) (sets : List ℕ) where
  -- The sets at three places cover all boards.
  abbrev pub CoverAt : ℕ → ℕ → ℕ → Type 0
  CoverAt i j k = Cover n (get_or sets i 0) (get_or sets j 0) (get_or sets k 0)

  in-union : (q a b c : ℕ) → member q (union (union a b) c) ≡ (member q a || (member q b || member q c))
  in-union q a b c =
      member_union q (union a b) c ∙ ap (λ x. x || member q c) (member_union q a b)
      ∙ or_assoc (member q a) (member q b) (member q c)

  pub covers-cover : (i j k : ℕ) → covers n sets i j k ≡ true → CoverAt i j k
  unfolding covers
  covers-cover i j k e q l =
      let u = union (union (get_or sets i 0) (get_or sets j 0)) (get_or sets k 0) in
      sym (in-union q (get_or sets i 0) (get_or sets j 0) (get_or sets k 0))
      ∙ within-member (boards n) u e q (member-boards q n ∙ lt-ltb q n l)

  pub cover-covers : (i j k : ℕ) → CoverAt i j k → covers n sets i j k ≡ true
  unfolding covers boards
  cover-covers i j k h =
      member-within n (boards n) (union (union (get_or sets i 0) (get_or sets j 0)) (get_or sets k 0)) (ones_lt n)
      (λ q l _. in-union q (get_or sets i 0) (get_or sets j 0) (get_or sets k 0) ∙ h q l)

  -- The three places may stand in any order.
  pub swap-left : (i j k : ℕ) → CoverAt i j k → CoverAt j i k
  swap-left i j k h q l =
      let a = member q (get_or sets i 0) in
      let b = member q (get_or sets j 0) in
      let c = member q (get_or sets k 0) in
      ⊎_elim (λ x. or_right b (a || c) (or_left a c x)) (λ y. ⊎_elim (λ x. or_left b (a || c) x) (λ x. or_right b (a || c) (or_right a c x)) (or-true b c y)) (or-true a (b || c) (h q l))

  pub swap-right : (i j k : ℕ) → CoverAt i j k → CoverAt i k j
  swap-right i j k h q l =
      let a = member q (get_or sets i 0) in
      let b = member q (get_or sets j 0) in
      let c = member q (get_or sets k 0) in
      ⊎_elim (λ x. or_left a (c || b) x) (λ y. or_right a (c || b) (⊎_elim (λ x. or_right c b x) (λ x. or_left c b x) (or-true b c y))) (or-true a (b || c) (h q l))

  -- A covering triple bounds each search.
  pub third-le : (i j k : ℕ) → j ≤ k → CoverAt i j k → third_place n sets i j ≤ k
  unfolding third_place
  third-le i j k l h = first-least (covers n sets i j) (length sets - j) j k l (cover-covers i j k h)

  pub second-le : (i j : ℕ) → i ≤ j → third_place n sets i j < length sets → second_place n sets i ≤ j
  unfolding second_place
  second-le i j l h =
      first-least (λ j. ltb (third_place n sets i j) (length sets)) (length sets - i) i j l
      (lt-ltb (third_place n sets i j) (length sets) h)

  pub first-le : (i : ℕ) → second_place n sets i < length sets → first_place n sets ≤ i
  unfolding first_place
  first-le i h =
      first-least (λ i. ltb (second_place n sets i) (length sets)) (length sets) 0 i (omega arith)
      (lt-ltb (second_place n sets i) (length sets) h)

  -- What a search finds has what the next one needs.
  pub first_found : first_place n sets < length sets → second_place n sets (first_place n sets) < length sets
  unfolding first_place
  first_found h =
      ltb-true (second_place n sets (first_place n sets)) (length sets)
      (first-true (λ i. ltb (second_place n sets i) (length sets)) (length sets) 0 (omega arith))

  pub second-found : (i : ℕ) → i ≤ length sets → second_place n sets i < length sets
      → (i ≤ second_place n sets i) × (third_place n sets i (second_place n sets i) < length sets)
  unfolding second_place
  second-found i l h =
      let f : ℕ → Bool = λ j. ltb (third_place n sets i j) (length sets) in (
        first-ge f (length sets - i) i,
        ltb-true (third_place n sets i (second_place n sets i)) (length sets) (first-true f (length sets - i) i (omega arith)),
      )

  pub third-found : (i j : ℕ) → j ≤ length sets → third_place n sets i j < length sets
      → (j ≤ third_place n sets i j) × CoverAt i j (third_place n sets i j)
  unfolding third_place
  third-found i j l h = (
    first-ge (covers n sets i j) (length sets - j) j,
    covers-cover i j (third_place n sets i j) (first-true (covers n sets i j) (length sets - j) j (omega arith)),
  )

  -- A covering triple in order is found, or an earlier one.
  pub found_of : (i j k : ℕ) → i ≤ j → j ≤ k → k < length sets → CoverAt i j k
      → (third_place n sets i j ≤ k) × (second_place n sets i ≤ j) × (first_place n sets ≤ i)
  found_of i j k a b l h =
      let t = third-le i j k b h in
      let s = second-le i j a (omega arith) in
      (t, s, first-le i (omega arith))

  -- No covering triple stands before the one that is found.
  no-later : (i x y z : ℕ) → i ≤ x → x ≤ y → y ≤ z → z < length sets → CoverAt x y z
      → NoLater i (second_place n sets i) (third_place n sets i (second_place n sets i)) x y z
  no-later i x y z ix xy yz lz w =
      let (t, s, f) = found_of x y z xy yz lz w in
      cases (eqb i x)
      (λ e. let p : i ≡ x = eqb-true i x e in
      inr (
        p,
        subst (λ i. (second_place n sets i < y) ⊎ ((second_place n sets i ≡ y) × (third_place n sets i (second_place n sets i) ≤ z))) (sym p)
            (cases (eqb (second_place n sets x) y)
            (λ g. let r : second_place n sets x ≡ y = eqb-true (second_place n sets x) y g in
            inr (r, subst (λ j. third_place n sets x j ≤ z) (sym r) t))
            (λ g. let ne : second_place n sets x ≢ y = eqb-false (second_place n sets x) y g in inl (omega arith))),
      ))
      (λ e. let ne : i ≢ x = eqb-false i x e in inl (omega arith))

  -- What is found is the first covering triple.
  pub first-triple : first_place n sets < length sets
      → FirstTriple n sets (first_place n sets) (second_place n sets (first_place n sets)) (third_place n sets (first_place n sets) (second_place n sets (first_place n sets)))
  first-triple h =
      let i = first_place n sets in
      let lj : second_place n sets i < length sets = first_found h in
      let (ij, lk) = second-found i (omega arith) lj in
      let (jk, cov) = third-found i (second_place n sets i) (omega arith) lk in
      record {
        ordered = (ij, jk, lk);
        covering = cov;
        earliest = λ x y z xy yz lz w. no-later i x y z (found_of x y z xy yz lz w).2 xy yz lz w;
      }
