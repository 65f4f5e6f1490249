-- Number 5 by pairs: the first pair whose others are held, and their holder, is the first covering triple.
-- Assumes nothing.
use Prim.Native.Nat.{ℕ, ◌-◌, ◌≤◌, ◌<◌, ◌^◌}
use mathlib.Core.Path.{◌≡◌, sym, ◌∙◌, ap, subst}
use mathlib.Core.Logic.{⊎_elim}
use mathlib.Core.Bool.{Bool, true, not, ◌&&◌, ◌||◌, or_assoc}
use mathlib.Core.List.{List, [], ◌∷◌}
use native.Mathlib.Omega.{arith}
use lib.Bits.{bit_and, and_le_l}
use lib.Dec.{ltb}
use lib.ListN.{length, get_or}
use lib.Pow.{ones_lt, pow_mono}
use borrow.Author.Tests.{ltb-true, ltb-false, lt-ltb}
use Rattle.sets.specs.Sets.{member, union, within, boards}
use Rattle.sets.specs.Structure.{tolerated}
use Rattle.holders.specs.Holders.{holder_in, holds, Asked}
use Rattle.sets.proofs.Tests.{cases, clash, same_test, and_r, and-true, not_t, or-true, or_left, or_right}
use Rattle.sets.proofs.Search.{first-ge, first-true, first-least}
use Rattle.sets.proofs.Member.{member_union, member-both, member-not, member-boards, member-set_of, set_of-below, within-member, member-within, same-members}
use Rattle.sets.proofs.Tolerated.{held-some, listed-tolerated, tolerated-holder, holder-first}
use Rattle.holders.proofs.Held.{table-length, table-holder, table-tolerated}
use Rattle.tolerance.specs.Places.{found_at}
use Rattle.tolerance.specs.Bytes.{place_byte}
use Rattle.tolerance.proofs.Places.{found-byte}
use Rattle.covering.specs.Cover.{covers, third_place, second_place, first_place, covered, places, covering}
use Rattle.refusals.specs.Outcome.{taken, refused_at}
use Rattle.covering.specs.Pairs.{outside, others, third_held, second_held, first_held, WithTable}
use Rattle.covering.proofs.Cover.{CoverAt, covers-cover, cover-covers, swap-left, swap-right, found_of, third-found, first-triple}

-- The boards outside a set, in a byte.
pub outside-byte : (n s : ℕ) → n ≤ 8 → s < 256 → bit_and (boards n) (255 - s) ≡ outside n s
unfolding outside boards
outside-byte n s l h =
    same-members n (bit_and (boards n) (255 - s)) (outside n s) (omega (arith, and_le_l (boards n) (255 - s), ones_lt n)) (set_of-below _ n)
    (λ q lq. member-both q (boards n) (255 - s) ∙ ap (λ b. b && member q (255 - s)) (member-boards q n)
    ∙ ap (λ b. ltb q n && b) (member-not 8 q s h (omega arith)) ∙ sym (member-set_of (λ q. not (member q s)) n q))

pub outside_below : (n s : ℕ) → n ≤ 7 → outside n s < 128
unfolding outside
outside_below n s l = let p : 2 ^ n ≤ 2 ^ 7 = pow_mono l in omega (arith, set_of-below (λ q. not (member q s)) n)

module _ (n : ℕ) (sets : List ℕ) where
  -- A set holds the others exactly if it covers with the pair.
  others-covers : (i j k : ℕ) → within (others n sets i j) (get_or sets k 0) ≡ covers n sets i j k
  unfolding others outside
  others-covers i j k =
      same_test (within (others n sets i j) (get_or sets k 0)) (covers n sets i j k)
      (λ w. cover-covers n sets i j k (λ q l. sym (or_assoc (m q i) (m q j) (m q k)) ∙ cases (m q i || m q j)
      (λ e. or_left (m q i || m q j) (m q k) e)
      (λ e. or_right (m q i || m q j) (m q k) (within-member (others n sets i j) (get_or sets k 0) w q (left q ∙ and-true (ltb q n) (not (m q i || m q j)) (lt-ltb q n l) (ap not e))))))
      (λ t. member-within n (others n sets i j) (get_or sets k 0) (set_of-below _ n)
      (λ q l o. ⊎_elim
      (λ e. clash e (not_t (m q i || m q j) (and_r (ltb q n) (not (m q i || m q j)) (sym (left q) ∙ o))))
      (λ e. e)
      (or-true (m q i || m q j) (m q k) (or_assoc (m q i) (m q j) (m q k) ∙ covers-cover n sets i j k t q l))))
    where
      m : ℕ → ℕ → Bool
      m q x = member q (get_or sets x 0)

      left : (q : ℕ) → member q (others n sets i j) ≡ (ltb q n && not (m q i || m q j))
      left q = member-set_of (λ q. not (member q (union (get_or sets i 0) (get_or sets j 0)))) n q ∙ ap (λ b. ltb q n && not b) (member_union q (get_or sets i 0) (get_or sets j 0))

  -- The holder of the others is the first set that covers with the pair.
  third-held : (i j : ℕ) → i < length sets → tolerated sets (others n sets i j) ≡ true
      → (third_held n sets i j < length sets) × CoverAt n sets i j (third_held n sets i j) × ((z : ℕ) → CoverAt n sets i j z → third_held n sets i j ≤ z)
  unfolding third_held
  third-held i j l t =
      let (k, e) = tolerated-holder sets (others n sets i j) t in
      let (lk, w, least) = holder-first sets (others n sets i j) k (omega arith) e in
      rw (held-some sets (others n sets i j) k e) (
        lk,
        covers-cover n sets i j k (sym (others-covers i j k) ∙ w),
        λ z h. cases (ltb z k)
            (λ b. clash (others-covers i j z ∙ cover-covers n sets i j z h) (least z (ltb-true z k b)))
            (λ b. ltb-false z k b),
      )

  -- A covering triple in order bounds both searches.
  pair-le : (x y z : ℕ) → x ≤ y → z < length sets → CoverAt n sets x y z → second_held n sets x ≤ y
  unfolding second_held
  pair-le x y z a l h =
      first-least (λ j. tolerated sets (others n sets x j)) (length sets - x) x y a
      (listed-tolerated sets (others n sets x y) z l (others-covers x y z ∙ cover-covers n sets x y z h))

  first-held-le : (x y z : ℕ) → x ≤ y → y < length sets → z < length sets → CoverAt n sets x y z → first_held n sets ≤ x
  unfolding first_held
  first-held-le x y z a ly lz h =
      first-least (λ i. ltb (second_held n sets i) (length sets)) (length sets) 0 x (omega arith)
      (lt-ltb (second_held n sets x) (length sets) (let s = pair-le x y z a lz h in omega arith))

  -- What the pair search finds.
  pair_found : first_held n sets < length sets → second_held n sets (first_held n sets) < length sets
  unfolding first_held
  pair_found h =
      ltb-true (second_held n sets (first_held n sets)) (length sets)
      (first-true (λ i. ltb (second_held n sets i) (length sets)) (length sets) 0 (omega arith))

  second-held : (i : ℕ) → i < length sets → second_held n sets i < length sets
      → (i ≤ second_held n sets i) × (tolerated sets (others n sets i (second_held n sets i)) ≡ true)
  unfolding second_held
  second-held i l h =
      let f : ℕ → Bool = λ j. tolerated sets (others n sets i j) in
      (first-ge f (length sets - i) i, first-true f (length sets - i) i (omega arith))

  -- Its third place does not stand before the second: with it an earlier pair would have been found.
  in_order : (i j k : ℕ) → i ≡ first_held n sets → j ≡ second_held n sets i → i ≤ j → j < length sets → CoverAt n sets i j k → j ≤ k
  in_order i j k ei ej ij lj h =
      cases (ltb k j)
      (λ b. let kj : k < j = ltb-true k j b in
      cases (ltb k i)
      (λ c. let ki : k < i = ltb-true k i c in
      absurd (omega (arith, first-held-le k i j (omega arith) (omega arith) lj (swap-left n sets i k j (swap-right n sets i j k h)))))
      (λ c. let ik : i ≤ k = ltb-false k i c in
      absurd (omega (arith, pair-le i k j ik lj (swap-right n sets i j k h)))))
      (λ b. ltb-false k j b)

  -- The places that the pair search finds are those of the first triple.
  pub record PairTriple (i j k : ℕ) : Type 0 where
    pub second-listed : j < length sets
    pub third-listed : k < length sets
    pub at_i : i ≡ first_place n sets
    pub at_j : j ≡ second_place n sets i
    pub at-k : k ≡ third_place n sets i j

  pub pair-triple : (i j k : ℕ) → i ≡ first_held n sets → i < length sets → j ≡ second_held n sets i → k ≡ third_held n sets i j → PairTriple i j k
  pair-triple i j k ei li ej ek =
      let found : second_held n sets i < length sets =
      subst (λ x. second_held n sets x < length sets) (sym ei) (pair_found (let z : first_held n sets < length sets = omega arith in z)) in
      let (ij', t') = second-held i li found in
      let t : tolerated sets (others n sets i j) ≡ true = subst (λ x. tolerated sets (others n sets i x) ≡ true) (sym ej) t' in
      let (lk, cov, least) = third-held i j li t in
      let ij : i ≤ j = omega arith in
      let lj : j < length sets = omega arith in
      let jk : j ≤ third_held n sets i j = in_order i j (third_held n sets i j) ei ej ij lj cov in
      let (c, b, a) = found_of n sets i j (third_held n sets i j) ij jk lk cov in
      let first = first-triple n sets (let z : first_place n sets < length sets = omega arith in z) in
      let (o₁, o₂, o₃) = first.ordered in
      let back = first-held-le (first_place n sets) _ _ o₁ (omega arith) o₃ first.covering in
      let same : i ≡ first_place n sets = omega arith in
      let back₂ = subst (λ x. second_held n sets x ≤ second_place n sets x) (sym same) (pair-le (first_place n sets) _ _ o₁ o₃ first.covering) in
      let same₂ : j ≡ second_place n sets i = omega arith in
      let (_, cov₃) = third-found n sets i j (omega arith) (let z : third_place n sets i j < length sets = omega arith in z) in
      record {
        second-listed = lj;
        third-listed = omega arith;
        at_i = same;
        at_j = same₂;
        at-k = omega (arith, least (third_place n sets i j) cov₃);
      }

  pub pairs-hit : (i j k : ℕ) → i < length sets → PairTriple i j k → covering n sets ≡ refused_at (i ∷ j ∷ k ∷ [])
  unfolding covering covered places
  pairs-hit i j k l t = rw (← t.at_i, lt-ltb i (length sets) l, ← t.at_j, ← t.at-k)

  pub pairs-miss : length sets ≤ first_held n sets → covering n sets ≡ taken []
  unfolding covering covered
  pairs-miss l =
      cases (ltb (first_place n sets) (length sets))
      (λ b. let first = first-triple n sets (ltb-true (first_place n sets) (length sets) b) in
      let (o₁, o₂, o₃) = first.ordered in
      absurd (omega (arith, first-held-le (first_place n sets) _ _ o₁ (omega arith) o₃ first.covering)))
      (λ b. rw b)

  -- The others of a pair are asked of the table.
  module _ (holders : List ℕ) (t : WithTable n sets holders) (i j : ℕ) where
    small : others n sets i j < 128
    unfolding others
    small = outside_below n (union (get_or sets i 0) (get_or sets j 0)) t.most-boards

    pub others-asked : Asked holders (others n sets i j)
    others-asked = record { whole = ap length t.table ∙ table-length sets; small = small }

    pub others-held : holds holders (others n sets i j) ≡ tolerated sets (others n sets i j)
    others-held = table-tolerated sets holders (others n sets i j) t.table (omega (arith, t.most-sets)) small

    pub others-third : place_byte (found_at (holder_in holders (others n sets i j))) ≡ third_held n sets i j
    unfolding third_held
    others-third =
        let short : length sets ≤ 255 = omega (arith, t.most-sets) in
        ap (λ o. place_byte (found_at o)) (table-holder sets holders (others n sets i j) t.table short small) ∙ found-byte sets (others n sets i j) short
