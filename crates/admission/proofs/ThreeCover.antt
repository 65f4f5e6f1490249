-- Demand 2, second sentence: a list within the limits is refused exactly if three of its sets, repeats allowed, cover all boards.
-- Assumes nothing.
use Prim.Native.Nat.{ℕ, zero, suc, ◌≤◌, ◌<◌, ◌^◌}
use mathlib.Core.Path.{◌≡◌, sym, ◌∙◌, ap}
use mathlib.Core.Logic.{inl, inr, ⊎_elim}
use mathlib.Core.Bool.{Bool, true, false, not, ◌||◌}
use mathlib.Core.List.{List}
use native.Mathlib.Omega.{arith}
use native.Mathlib.Nat.{pow-suc}
use lib.Dec.{leb, ltb}
use lib.ListN.{length, get_or}
use borrow.Author.Tests.{lt-ltb, le-ltb, ne_eqb, ltb-true, ltb-false, leb-true, leb-false}
use Rattle.sets.specs.Search.{any}
use Rattle.sets.specs.Sets.{member, within, boards}
use Rattle.sets.specs.Structure.{tolerated}
use Rattle.admission.specs.Calls.{strays}
use Rattle.covering.specs.Cover.{covered, places, third_place, second_place, first_place}
use Rattle.refusals.specs.Outcome.{refused_at}
use Rattle.admission.specs.Calls.{admitting}
use Rattle.covering.specs.Cover.{covering}
use Rattle.covering.specs.Triples.{Cover}
use Rattle.admission.specs.Claims.{Within, ListedCover, ToleratedCover, ThreeCover}
use Rattle.sets.proofs.Tests.{cases, clash, is_false, or-true, or_left, or_right, or_l, or_r, not_t, not_f}
use Rattle.sets.proofs.Search.{any-true, any_false}
use Rattle.sets.proofs.Member.{within-member, member-within, member-boards, member-empty, within-refl}
use Rattle.sets.proofs.Tolerated.{listed-tolerated, tolerated-listed}
use Rattle.covering.proofs.Cover.{CoverAt, swap-left, swap-right, found_of, first-triple}

below-pow : (n : ℕ) → n < 2 ^ n
below-pow zero = omega arith
below-pow (suc n) = omega (arith, below-pow n, pow-suc 2 n)

-- Within the limits only number 5 is left.
limits : (n : ℕ) (sets : List ℕ) → Within n sets → admitting n (length sets) sets ≡ covering n sets
unfolding admitting strays
limits n sets w =
    let fit : strays n sets ≡ false = is_false (strays n sets) (λ t. let (i, l, e) = any-true (λ i. not (within (get_or sets i 0) (boards n))) (length sets) t in
    let s = get_or sets i 0 in
    let inside : within s (boards n) ≡ true = member-within s s (boards n) (below-pow s) (λ q _ m. member-boards q n ∙ lt-ltb q n (w.names i l q m)) in
    let out : not (within s (boards n)) ≡ false = rw inside in
    clash e out) in
    rw (
      ne_eqb n 0 (let h = w.some-board in omega arith),
      le-ltb 7 n w.most-boards,
      le-ltb 32 (length sets) w.most-sets,
      fit,
    )

-- Number 5 applies exactly if the search finds a triple.
five-covered : (n : ℕ) (sets : List ℕ) → (covering n sets).number ≡ 5 → covered n sets ≡ true
unfolding covering
five-covered n sets e = cases (covered n sets) (λ t. t) (λ f. absurd (let z : 0 ≡ 5 = rw f at e in omega arith))

covered-five : (n : ℕ) (sets : List ℕ) → covered n sets ≡ true → covering n sets ≡ refused_at (places n sets)
unfolding covering
covered-five n sets t = rw t

-- Three sets in any order, put in the order of their places.
module _ (n : ℕ) (sets : List ℕ) where
  abbrev Found : Type 0
  Found = first_place n sets < length sets

  ordered-found : (i j k : ℕ) → i ≤ j → j ≤ k → k < length sets → CoverAt n sets i j k → Found
  ordered-found i j k a b l h = let (t, s, f) = found_of n sets i j k a b l h in omega arith

  -- the first two in order
  pair_found : (i j k : ℕ) → i ≤ j → j < length sets → k < length sets → CoverAt n sets i j k → Found
  pair_found i j k a lj lk h =
      cases (leb j k)
      (λ e. ordered-found i j k a (leb-true j k e) lk h)
      (λ e. let kj : k < j = leb-false j k e in
      cases (leb i k)
      (λ f. ordered-found i k j (leb-true i k f) (omega arith) lj (swap-right n sets i j k h))
      (λ f. let ki : k < i = leb-false i k f in
      ordered-found k i j (omega arith) a lj (swap-left n sets i k j (swap-right n sets i j k h))))

  listed_found : ListedCover n sets → Found
  listed_found c =
      let (i, j, k, li, lj, lk, h) = c in
      cases (leb i j)
      (λ e. pair_found i j k (leb-true i j e) lj lk h)
      (λ e. let ji : j < i = leb-false i j e in pair_found j i k (omega arith) li lk (swap-left n sets i j k h))

  found-listed : Found → ListedCover n sets
  found-listed f =
      let t = first-triple n sets f in
      let (a, b, c) = t.ordered in
      (first_place n sets, second_place n sets (first_place n sets), third_place n sets (first_place n sets) (second_place n sets (first_place n sets)), f, omega arith, c, t.covering)

  -- Every tolerated set has its boards in a listed one.
  held : 0 < length sets → (a : ℕ) → tolerated sets a ≡ true
      → (i : ℕ) × (i < length sets) × ((q : ℕ) → member q a ≡ true → member q (get_or sets i 0) ≡ true)
  held some-set a t =
      ⊎_elim
      (λ z. (0, some-set, λ q m. clash (rw z at m) (member-empty q)))
      (λ w. let (i, l, e) = w in (i, l, λ q m. within-member a (get_or sets i 0) e q m))
      (tolerated-listed sets a t)

  tolerated-covers : 0 < length sets → ToleratedCover n sets → ListedCover n sets
  tolerated-covers some-set u =
      let (a, b, c, ta, tb, tc, h) = u in
      let (i, li, ha) = held some-set a ta in
      let (j, lj, hb) = held some-set b tb in
      let (k, lk, hc) = held some-set c tc in (
        i,
        j,
        k,
        li,
        lj,
        lk,
        λ q l.
            let x = member q (get_or sets i 0) in
            let y = member q (get_or sets j 0) in
            let z = member q (get_or sets k 0) in
            ⊎_elim
            (λ m. or_left x (y || z) (ha q m))
            (λ m. or_right x (y || z) (⊎_elim (λ p. or_left y z (hb q p)) (λ p. or_right y z (hc q p)) (or-true (member q b) (member q c) m)))
            (or-true (member q a) (member q b || member q c) (h q l)),
      )

  listed-covers : ListedCover n sets → ToleratedCover n sets
  listed-covers c =
      let (i, j, k, li, lj, lk, h) = c in
      let tol : (i : ℕ) → i < length sets → tolerated sets (get_or sets i 0) ≡ true = λ i l. listed-tolerated sets (get_or sets i 0) i l (within-refl (get_or sets i 0)) in
      (get_or sets i 0, get_or sets j 0, get_or sets k 0, tol i li, tol j lj, tol k lk, h)

-- 003, Q3: where no three listed sets cover, some board is outside any three tolerated sets.
pub q3 : (n : ℕ) (sets : List ℕ) → 0 < n → covered n sets ≡ false → (a b c : ℕ) → tolerated sets a ≡ true → tolerated sets b ≡ true → tolerated sets c ≡ true
    → (q : ℕ) × (q < n) × (member q a ≡ false) × (member q b ≡ false) × (member q c ≡ false)
unfolding covered
q3 n sets z gap a b c ta tb tc =
    cases (any free n)
    (λ e. let (q, l, t) = any-true free n e in
    let (x, rest) = split (member q a) (member q b || member q c) (not_t (member q a || (member q b || member q c)) t) in
    let (y, w) = split (member q b) (member q c) rest in
    (q, l, x, y, w))
    (λ e. let all : Cover n a b c = λ q l. not_f (member q a || (member q b || member q c)) (any_false free n e q l) in
    cases (ltb 0 (length sets))
    (λ s. clash (lt-ltb (first_place n sets) (length sets)
    (listed_found n sets (tolerated-covers n sets (ltb-true 0 (length sets) s) (a, b, c, ta, tb, tc, all)))) gap)
    (λ s. (0, z, none s a ta, none s b tb, none s c tc)))
  where
    free : ℕ → Bool
    free q = not (member q a || (member q b || member q c))

    split : (x y : Bool) → (x || y) ≡ false → (x ≡ false) × (y ≡ false)
    split x y e = (or_l x y e, or_r x y e)

    -- an empty list tolerates the empty set only
    none : ltb 0 (length sets) ≡ false → (s : ℕ) → tolerated sets s ≡ true → member 0 s ≡ false
    none e s t =
        ⊎_elim (λ x. rw x (member-empty 0)) (λ w. let (i, l, _) = w in absurd (omega (arith, ltb-false 0 (length sets) e))) (tolerated-listed sets s t)

-- The theorem.
pub three-cover : ThreeCover
unfolding covered places covering
three-cover n sets w =
    let e : admitting n (length sets) sets ≡ covering n sets = limits n sets w in
    let to : (admitting n (length sets) sets).number ≡ 5 → first_place n sets < length sets =
    λ five. ltb-true (first_place n sets) (length sets) (five-covered n sets (ap (λ o. o.number) (sym e) ∙ five)) in
    let five : first_place n sets < length sets → (admitting n (length sets) sets).number ≡ 5 =
    λ f. ap (λ o. o.number) (e ∙ covered-five n sets (lt-ltb (first_place n sets) (length sets) f)) in
    record {
      answer = cases (covered n sets)
          (λ t. inr (five (ltb-true (first_place n sets) (length sets) t)))
          (λ f. inl (ap (λ o. o.number) e ∙ rw f));
      listed = (λ h. found-listed n sets (to h), λ c. five (listed_found n sets c));
      tolerated = (
        λ h. listed-covers n sets (found-listed n sets (to h)),
        λ u.
            let (a, b, c, ta, tb, tc, h) = u in
            cases (covered n sets)
            (λ t. five (ltb-true (first_place n sets) (length sets) t))
            (λ gap. let (q, l, x, y, z) = q3 n sets w.some-board gap a b c ta tb tc in
            let left : (member q a || (member q b || member q c)) ≡ false = rw (x, y, z) in
            clash (h q l) left),
      );
      triple = λ h.
          let f = to h in (
            first_place n sets,
            second_place n sets (first_place n sets),
            third_place n sets (first_place n sets) (second_place n sets (first_place n sets)),
            ap (λ o. o.values) (e ∙ covered-five n sets (lt-ltb (first_place n sets) (length sets) f)),
            first-triple n sets f,
          );
    }
