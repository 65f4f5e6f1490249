-- Filling the table of holders: what a fold does, and where seven of them end.
-- Assumes nothing.
use Prim.Native.Nat.{ℕ, zero, suc, ◌+◌, ◌-◌, ◌*◌, ◌/◌, ◌%◌, ◌≤◌, ◌<◌, min}
use mathlib.Core.Path.{◌≡◌, refl, sym, ap, ◌∙◌, subst}
use mathlib.Core.Logic.{◌≢◌, ⊎_elim}
use mathlib.Core.Bool.{Bool, true, false, ◌&&◌, ◌||◌, cond}
use mathlib.Core.List.{List}
use native.Mathlib.Omega.{arith}
use lib.Dec.{eqb, ltb}
use lib.ListN.{length, get_or, set, length-set}
use lib.Seq.{get_or-set_same, get_or-set_other}
use borrow.Author.Tests.{eqb-true, eqb-false, eq-eqb, ne_eqb, ltb-true, ltb-false, lt-ltb, le-ltb}
use Rattle.sets.specs.Search.{first}
use Rattle.sets.specs.Sets.{member, within}
use Rattle.sets.specs.Structure.{held_at}
use Rattle.holders.specs.Holders.{holder_table}
use Rattle.holders.specs.Filling.{place_from, near, stage, folded_at, folding}
use Rattle.sets.proofs.Tests.{cases, clash, is_false, same_test, and_l, and_r, and-true, or-true, or_left, or_right}
use Rattle.sets.proofs.Search.{first-le, first-same, first_either, seek-start, opened}
use Rattle.sets.proofs.Member.{same-members, member-half, member-even, even-member, member-low, member-high, insert-above, member-insert, within-member, member-within}
use Rattle.sets.proofs.Tolerated.{holds, holder-empty, holder-at, holder-none, held-some, held_none}
use Rattle.sets.proofs.Tabulated.{tabulate-length, tabulate-at}
use Rattle.holders.proofs.Held.{tabulate-by}

-- The earlier of two places is that of the first set that passes one of the two tests.
place-either : (f g : ℕ → Bool) (k : ℕ) → k ≤ 255 → min (place_from f k 0) (place_from g k 0) ≡ place_from (λ p. f p || g p) k 0
unfolding place_from
place-either f g k short =
    rw (first_either f g (k - 0) 0) (byte (first f (k - 0) 0) (first g (k - 0) 0) (first-le f (k - 0) 0) (first-le g (k - 0) 0))
  where
    byte : (a b : ℕ) → a ≤ 0 + (k - 0) → b ≤ 0 + (k - 0) → min (cond (ltb a k) a 255) (cond (ltb b k) b 255) ≡ cond (ltb (min a b) k) (min a b) 255
    byte a b la lb =
        cases (ltb a k)
        (λ e. let l : a < k = ltb-true a k e in
        cases (ltb b k)
        (λ d. let m : b < k = ltb-true b k d in rw (e, d, lt-ltb (min a b) k (omega arith)))
        (λ d. let m : k ≤ b = ltb-false b k d in rw (e, d, lt-ltb (min a b) k (omega arith)) (omega arith)))
        (λ e. let l : k ≤ a = ltb-false a k e in
        cases (ltb b k)
        (λ d. let m : b < k = ltb-true b k d in rw (e, d, lt-ltb (min a b) k (omega arith)) (omega arith))
        (λ d. let m : k ≤ b = ltb-false b k d in rw (e, d, le-ltb (min a b) k (omega arith))))

place_same : (f g : ℕ → Bool) (k i : ℕ) → ((p : ℕ) → f p ≡ g p) → place_from f k i ≡ place_from g k i
unfolding place_from
place_same f g k i h = rw (first-same f g (k - i) i h)

-- Numbers and sets, bit by bit: after i folds the lowest i bits of c say what the set has at least, the others what it has.
AtLeast : ℕ → ℕ → ℕ → Type 0
AtLeast i c s = (q : ℕ) → q < i → member q c ≡ true → member (7 - i + q) s ≡ true

Alike : ℕ → ℕ → ℕ → Type 0
Alike i c s = (q : ℕ) → i ≤ q → q < 7 → member q c ≡ member (q - i) s

-- What c / 2 and 64 + c / 2 have.
module _ (c : ℕ) (small : c < 128) where
  half-low : (q : ℕ) → member q (c / 2) ≡ member (suc q) c
  half-low q = member-half q c

  half-top : member 6 (c / 2) ≡ false
  half-top = member-high 6 6 (c / 2) (omega arith) (omega arith)

  with-low : (q : ℕ) → q < 6 → member q (64 + c / 2) ≡ member (suc q) c
  with-low q l =
      ap (member q) (insert-above 6 (c / 2) (omega arith)) ∙ member-insert q 6 (c / 2)
      ∙ rw (ne_eqb q 6 (omega arith)) (half-low q)

  with-top : member 6 (64 + c / 2) ≡ true
  with-top = ap (member 6) (insert-above 6 (c / 2) (omega arith)) ∙ member-insert 6 6 (c / 2)

-- One fold, bit by bit: d is c / 2 or 64 + c / 2.
module _ (i c d s : ℕ) (l : suc i ≤ 7) (low : (q : ℕ) → q < 6 → member q d ≡ member (suc q) c) where
  up_least : AtLeast i d s → (member 0 c ≡ true → member (6 - i) s ≡ true) → AtLeast (suc i) c s
  unfolding AtLeast
  up_least h z zero lq t = subst (λ x. member x s ≡ true) (let e : 6 - i ≡ 7 - suc i + 0 = omega arith in e) (z t)
  up_least h z (suc q) lq t =
      subst (λ x. member x s ≡ true) (let e : 7 - i + q ≡ 7 - suc i + suc q = omega arith in e)
      (h q (omega arith) (low q (omega arith) ∙ t))

  up-alike : Alike i d s → Alike (suc i) c s
  unfolding Alike
  up-alike h zero a b = absurd (omega arith)
  up-alike h (suc q) a b =
      sym (low q (omega arith)) ∙ h q (omega arith) (omega arith)
      ∙ ap (λ x. member x s) (let e : q - i ≡ suc q - suc i = omega arith in e)

  down-least : AtLeast (suc i) c s → AtLeast i d s
  unfolding AtLeast
  down-least h q lq t =
      subst (λ x. member x s ≡ true) (let e : 7 - suc i + suc q ≡ 7 - i + q = omega arith in e)
      (h (suc q) (omega arith) (sym (low q (omega arith)) ∙ t))

  down-alike : Alike (suc i) c s → member 6 d ≡ member (6 - i) s → Alike i d s
  unfolding Alike
  down-alike h top q a b =
      cases (eqb q 6)
      (λ e. let z : q ≡ 6 = eqb-true q 6 e in rw z top)
      (λ e. let n : q ≢ 6 = eqb-false q 6 e in
      low q (omega arith) ∙ h (suc q) (omega arith) (omega arith)
      ∙ ap (λ x. member x s) (let e : suc q - suc i ≡ q - i = omega arith in e))

-- What `near` says, bit by bit.
near-bits : (i c s : ℕ) → i ≤ 7 → c < 128 → near i c s ≡ true → AtLeast i c s × Alike i c s
unfolding near AtLeast Alike
near-bits zero c s l small h = (
  λ q lq t. absurd (omega arith),
  λ q a b. ap (member q) (eqb-true c (s % 128) h) ∙ member-low 7 q s b ∙ ap (λ x. member x s) (let e : q ≡ q - 0 = omega arith in e),
)
near-bits (suc i) c s l small h =
    let even = eqb (c % 2) 0 && near i (c / 2) s in
    ⊎_elim
    (λ e. let (least, alike) = near-bits i (c / 2) s (omega arith) (omega arith) (and_r (eqb (c % 2) 0) (near i (c / 2) s) e) in
    let z : c % 2 ≡ 0 = eqb-true (c % 2) 0 (and_l (eqb (c % 2) 0) (near i (c / 2) s) e) in
    (up_least i c (c / 2) s l (λ q _. half-low c small q) least (λ t. clash t (member-even c z)), up-alike i c (c / 2) s l (λ q _. half-low c small q) alike))
    (λ e. let (least, alike) = near-bits i (64 + c / 2) s (omega arith) (omega arith) e in
    (up_least i c (64 + c / 2) s l (with-low c small) least (λ _. sym (alike 6 (omega arith) (omega arith)) ∙ with-top c small), up-alike i c (64 + c / 2) s l (with-low c small) alike))
    (or-true even (near i (64 + c / 2) s) h)

bits-near : (i c s : ℕ) → i ≤ 7 → c < 128 → AtLeast i c s → Alike i c s → near i c s ≡ true
unfolding near AtLeast Alike
bits-near zero c s l small least alike =
    eq-eqb c (s % 128)
    (same-members 7 c (s % 128) small (omega arith)
    (λ q lq. alike q (omega arith) lq ∙ ap (λ x. member x s) (let e : q - 0 ≡ q = omega arith in e) ∙ sym (member-low 7 q s lq)))
bits-near (suc i) c s l small least alike =
    let even = eqb (c % 2) 0 && near i (c / 2) s in
    cases (member (6 - i) s)
    (λ e. or_right even (near i (64 + c / 2) s)
    (bits-near i (64 + c / 2) s (omega arith) (omega arith) (down-least i c (64 + c / 2) s l (with-low c small) least)
    (down-alike i c (64 + c / 2) s l (with-low c small) alike (with-top c small ∙ sym e))))
    (λ e. let none : member 0 c ≡ false =
    is_false (member 0 c) (λ t. clash (least 0 (omega arith) t) (ap (λ x. member x s) (let z : 7 - suc i + 0 ≡ 6 - i = omega arith in z) ∙ e)) in
    or_left even (near i (64 + c / 2) s) (and-true (eqb (c % 2) 0) (near i (c / 2) s) (eq-eqb (c % 2) 0 (even-member c none))
    (bits-near i (c / 2) s (omega arith) (omega arith) (down-least i c (c / 2) s l (λ q _. half-low c small q) least)
    (down-alike i c (c / 2) s l (λ q _. half-low c small q) alike (half-top c small ∙ sym e)))))

-- After seven folds a number stands for the sets that hold it.
near_within : (a s : ℕ) → a < 128 → near 7 a s ≡ within a s
unfolding AtLeast Alike
near_within a s small =
    same_test (near 7 a s) (within a s)
    (λ t. let (least, alike) = near-bits 7 a s (omega arith) small t in
    member-within 7 a s small (λ q l m. subst (λ x. member x s ≡ true) (let e : 7 - 7 + q ≡ q = omega arith in e) (least q l m)))
    (λ t. bits-near 7 a s (omega arith) small
    (λ q l m. subst (λ x. member x s ≡ true) (let e : q ≡ 7 - 7 + q = omega arith in e) (within-member a s t q m))
    (λ q x y. absurd (omega arith)))

-- The place that stands at c after i folds.
abbrev place_at : List ℕ → ℕ → ℕ → ℕ
place_at sets i c = place_from (λ p. near i c (get_or sets p 0)) (length sets) 0

module _ (sets : List ℕ) where
  pub stage-length : (i : ℕ) → length (stage sets i) ≡ 128
  unfolding stage
  stage-length i = tabulate-length _ 0 128

  stage_at : (i c : ℕ) → c < 128 → get_or (stage sets i) c 0 ≡ place_at sets i c
  unfolding stage
  stage_at i c l = tabulate-at (λ c. place_at sets i c) 128 c 0 l

  pub stage-by : (i : ℕ) (l : List ℕ) → length l ≡ 128 → ((c : ℕ) → c < 128 → get_or l c 0 ≡ place_at sets i c) → l ≡ stage sets i
  unfolding stage
  stage-by i l e h = tabulate-by (λ c. place_at sets i c) 128 l e h

  -- A set that is not empty stands at its holder's place.
  held_place : (a : ℕ) → a ≢ 0 → a < 128 → place_at sets 7 a ≡ held_at sets a
  unfolding place_from
  held_place a ne small =
      let same = first-same (λ p. near 7 a (get_or sets p 0)) (holds sets a) (length sets - 0) 0 (λ p. near_within a (get_or sets p 0) small) ∙ seek-start (holds sets a) (length sets) in
      let f = first (holds sets a) (length sets) 0 in
      rw same (cases (ltb f (length sets))
      (λ b. rw b (sym (held-some sets a f (holder-at sets a f ne refl (ltb-true f (length sets) b)))))
      (λ b. rw b (sym (held_none sets a (holder-none sets a f ne refl (ltb-false f (length sets) b))))))

  -- After seven folds, with the empty set at place 0: the table of holders.
  pub filled : set (stage sets 7) 0 0 ≡ holder_table sets
  unfolding holder_table
  filled =
      tabulate-by (held_at sets) 128 (set (stage sets 7) 0 0) (length-set (stage sets 7) 0 0 ∙ stage-length 7)
      (λ c l. cases (eqb c 0)
      (λ e. let z : c ≡ 0 = eqb-true c 0 e in
      rw z (get_or-set_same (stage sets 7) 0 0 0 (omega (arith, stage-length 7)) ∙ sym (held-some sets 0 0 (holder-empty sets))))
      (λ e. get_or-set_other (stage sets 7) 0 c 0 0 (eqb-false c 0 e) ∙ stage_at 7 c l ∙ held_place c (eqb-false c 0 e) l))

  module _ (short : length sets ≤ 255) where
    fold_at : (i c : ℕ) → c < 128 → folded_at (stage sets i) c ≡ place_at sets (suc i) c
    unfolding folded_at near
    fold_at i c l =
        let with = stage_at i (64 + c / 2) (omega arith) in
        let without = stage_at i (c / 2) (omega arith) in
        cases (eqb (c % 2) 0)
        (λ e. rw (e, with, without) (place-either (λ p. near i (c / 2) (get_or sets p 0)) (λ p. near i (64 + c / 2) (get_or sets p 0)) (length sets) short))
        (λ e. rw (e, with))

    pub fold-stage : (i : ℕ) → folding (stage sets i) ≡ stage sets (suc i)
    unfolding folding
    fold-stage i =
        stage-by (suc i) (folding (stage sets i)) (tabulate-length (folded_at (stage sets i)) 0 128)
        (λ c l. tabulate-at (folded_at (stage sets i)) 128 c 0 l ∙ fold_at i c l)

-- The loops, a turn each. One more fold of a pair.
pub fold_more : (from to : List ℕ) (t both : ℕ) → both ≡ min (get_or from t 0) (get_or from (64 + t) 0) → t < 64 → length to ≡ 128 → ((c : ℕ) → c < 2 * t → get_or to c 0 ≡ folded_at from c)
    → (c : ℕ) → c < 2 * (t + 1)
    → get_or (set (set to (2 * t) both) (2 * t + 1) (get_or from (64 + t) 0)) c 0 ≡ folded_at from c
unfolding folded_at
fold_more from to t both eb l whole h c lc =
    let with = get_or from (64 + t) 0 in
    let once = set to (2 * t) both in
    let half : c / 2 ≡ t → get_or from (64 + c / 2) 0 ≡ with = λ e. ap (λ x. get_or from (64 + x) 0) e in
    cases (eqb c (2 * t + 1))
    (λ e. let z : c ≡ 2 * t + 1 = eqb-true c (2 * t + 1) e in
    let d : c / 2 ≡ t = omega arith in
    ap (λ x. get_or (set once (2 * t + 1) with) x 0) z ∙ get_or-set_same once (2 * t + 1) with 0 (omega (arith, length-set to (2 * t) both))
    ∙ sym (rw (ne_eqb (c % 2) 0 (omega arith)) (half d)))
    (λ e. let n : c ≢ 2 * t + 1 = eqb-false c (2 * t + 1) e in
    get_or-set_other once (2 * t + 1) c with 0 n ∙ cases (eqb c (2 * t))
    (λ f. let z : c ≡ 2 * t = eqb-true c (2 * t) f in
    let d : c / 2 ≡ t = omega arith in
    ap (λ x. get_or once x 0) z ∙ get_or-set_same to (2 * t) both 0 (omega arith)
    ∙ eb ∙ sym (rw (eq-eqb (c % 2) 0 (omega arith), half d, d)))
    (λ f. let m : c ≢ 2 * t = eqb-false c (2 * t) f in
    get_or-set_other to (2 * t) c both 0 m ∙ h c (omega arith)))

pub fold-by : (from to : List ℕ) → length to ≡ 128 → ((c : ℕ) → c < 128 → get_or to c 0 ≡ folded_at from c) → to ≡ folding from
unfolding folding
fold-by from to e h = tabulate-by (folded_at from) 128 to e h

-- One more listed set, from the last to the first.
pub list-more : (sets table : List ℕ) (i : ℕ) → 0 < i → i ≤ length sets → length table ≡ 128
    → ((c : ℕ) → c < 128 → get_or table c 0 ≡ place_from (λ p. near 0 c (get_or sets p 0)) (length sets) i)
    → (c : ℕ) → c < 128
    → get_or (set table (get_or sets (i - 1) 0 % 128) (i - 1)) c 0 ≡ place_from (λ p. near 0 c (get_or sets p 0)) (length sets) (i - 1)
unfolding place_from near
list-more sets table i pos l whole h c lc =
    let s = get_or sets (i - 1) 0 % 128 in
    let f : ℕ → Bool = λ p. eqb c (get_or sets p 0 % 128) in
    let n = length sets in
    let z : i - 1 + 1 ≡ i = omega arith in
    let step : first f (n - (i - 1)) (i - 1) ≡ cond (f (i - 1)) (i - 1) (first f (n - i) i) =
    opened f n (i - 1) (omega arith) ∙ ap (λ x. cond (f (i - 1)) (i - 1) (first f (n - x) x)) z in
    cases (eqb c s)
    (λ e. ap (λ x. get_or (set table s (i - 1)) x 0) (eqb-true c s e) ∙ get_or-set_same table s (i - 1) 0 (omega arith)
    ∙ sym (rw (step, e, lt-ltb (i - 1) n (omega arith))))
    (λ e. get_or-set_other table s c (i - 1) 0 (eqb-false c s e) ∙ h c lc ∙ sym (rw (step, e)))

-- Past the last no place is left.
pub list-none : (f : ℕ → Bool) (k : ℕ) → place_from f k k ≡ 255
unfolding place_from first
list-none f k = let z : k - k ≡ 0 = omega arith in rw (z, le-ltb k k (omega arith))
