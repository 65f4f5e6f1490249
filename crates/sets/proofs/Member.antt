-- Membership: what the operations on sets of boards say of each board.
-- Assumes nothing.
use Prim.Native.Nat.{ℕ, zero, suc, ◌+◌, ◌-◌, ◌/◌, ◌%◌, ◌^◌, ◌≤◌, ◌<◌, min, max}
use mathlib.Core.Path.{◌≡◌, sym, ◌∙◌, ap, subst}
use mathlib.Core.Logic.{◌≢◌}
use mathlib.Core.Bool.{Bool, true, false, not, ◌&&◌, ◌||◌, or_comm, and-false}
use native.Mathlib.Nat.{mod-eq_of_lt, mul-add-mod_self_right, div-div-eq-div-mul, pow-succ', pow-suc, div-one, div-eq_of_lt, one-mul}
use native.Mathlib.Omega.{arith}
use lib.Dec.{eqb, ltb}
use lib.Bits.{bit_and, bit_or, and_step, or_step, and_shr, or_shr, and_le_l, and_le_r, and_self, and_mask, mask_lt, or_lt, or_shifted_r}
use lib.Pow.{pow_mono, pow-lt, pow_pos, pow-add, shl-shr, high, ones_lt, ones_split}
use borrow.Author.Tests.{eqb-true, eqb-false, eq-eqb, ltb-true, ltb-false, lt-ltb, le-ltb}
use Rattle.sets.specs.Search.{count}
use Rattle.sets.specs.Sets.{member, union, insert, within, boards, set_of, size}
use Rattle.sets.proofs.Count.{count_cut}
use Rattle.sets.proofs.Tests.{cases, clash, is_false, is_true, same_test}

-- Bit i of s, as a number.
bit : ℕ → ℕ → ℕ
bit i s = s / 2 ^ i % 2

bit-and : (i a b : ℕ) → bit i (bit_and a b) ≡ min (bit i a) (bit i b)
unfolding bit
bit-and i a b = ap (λ x. x % 2) (and_shr a b i) ∙ low (a / 2 ^ i) (b / 2 ^ i)
  where
    low : (x y : ℕ) → bit_and x y % 2 ≡ min (x % 2) (y % 2)
    low x y =
        ap (λ z. z % 2) (and_step x y) ∙ mul-add-mod_self_right (bit_and (x / 2) (y / 2)) 2 (min (x % 2) (y % 2))
        ∙ mod-eq_of_lt (omega arith)

bit-or : (i a b : ℕ) → bit i (bit_or a b) ≡ max (bit i a) (bit i b)
unfolding bit
bit-or i a b = ap (λ x. x % 2) (or_shr a b i) ∙ low (a / 2 ^ i) (b / 2 ^ i)
  where
    low : (x y : ℕ) → bit_or x y % 2 ≡ max (x % 2) (y % 2)
    low x y =
        ap (λ z. z % 2) (or_step x y) ∙ mul-add-mod_self_right (bit_or (x / 2) (y / 2)) 2 (max (x % 2) (y % 2))
        ∙ mod-eq_of_lt (omega arith)

bit-half : (i a : ℕ) → bit i (a / 2) ≡ bit (suc i) a
unfolding bit
bit-half i a = ap (λ x. x % 2) (div-div-eq-div-mul a 2 (2 ^ i) ∙ ap (λ m. a / m) (sym (pow-succ' 2 i)))

bit-two : (i a : ℕ) → bit i a < 2
unfolding bit
bit-two i a = omega arith

-- Numbers with the same bits are equal.
bits-equal : (k a b : ℕ) → a < 2 ^ k → b < 2 ^ k → ((i : ℕ) → i < k → bit i a ≡ bit i b) → a ≡ b
unfolding bit
bits-equal zero a b ha hb h = omega arith
bits-equal (suc k) a b ha hb h =
    let half : a / 2 ≡ b / 2 =
    bits-equal k (a / 2) (b / 2) (omega (arith, pow-suc 2 k)) (omega (arith, pow-suc 2 k)) (λ i l. bit-half i a ∙ h (suc i) (omega arith) ∙ sym (bit-half i b)) in
    let last : a % 2 ≡ b % 2 = sym (ap (λ x. x % 2) (div-one a)) ∙ h 0 (omega arith) ∙ ap (λ x. x % 2) (div-one b) in
    omega arith

member-bit : (i s : ℕ) → member i s ≡ true → bit i s ≡ 1
unfolding member bit
member-bit i s e = eqb-true (s / 2 ^ i % 2) 1 e

bit-member : (i s : ℕ) → bit i s ≡ 1 → member i s ≡ true
unfolding member bit
bit-member i s e = eq-eqb (s / 2 ^ i % 2) 1 e

not-member-bit : (i s : ℕ) → member i s ≡ false → bit i s ≡ 0
not-member-bit i s e = let n : bit i s ≢ 1 = λ z. clash (bit-member i s z) e in omega (arith, bit-two i s)

-- Sets with the same members are equal.
pub same-members : (k a b : ℕ) → a < 2 ^ k → b < 2 ^ k → ((i : ℕ) → i < k → member i a ≡ member i b) → a ≡ b
same-members k a b ha hb h =
    bits-equal k a b ha hb (λ i l. cases (member i b)
    (λ e. member-bit i a (h i l ∙ e) ∙ sym (member-bit i b e))
    (λ e. not-member-bit i a (h i l ∙ e) ∙ sym (not-member-bit i b e)))

pub member-half : (i a : ℕ) → member i (a / 2) ≡ member (suc i) a
unfolding member bit
member-half i a = ap (λ x. eqb x 1) (bit-half i a)

pub member-even : (a : ℕ) → a % 2 ≡ 0 → member 0 a ≡ false
unfolding bit
member-even a e = is_false (member 0 a) (λ t. absurd (omega (arith, member-bit 0 a t, ap (λ x. x % 2) (div-one a))))

pub even-member : (a : ℕ) → member 0 a ≡ false → a % 2 ≡ 0
unfolding bit
even-member a e = sym (ap (λ x. x % 2) (div-one a)) ∙ not-member-bit 0 a e

-- Board i is in a union if it is in one of the two.
pub member_union : (i a b : ℕ) → member i (union a b) ≡ (member i a || member i b)
unfolding union
member_union i a b =
    let q = bit-or i a b in
    cases (member i a)
    (λ e. rw e (bit-member i (bit_or a b) (omega (arith, q, member-bit i a e, bit-two i b))))
    (λ e. rw e (cases (member i b)
    (λ f. bit-member i (bit_or a b) (omega (arith, q, not-member-bit i a e, member-bit i b f)) ∙ sym f)
    (λ f. is_false (member i (bit_or a b)) (λ t. absurd (omega (arith, q, member-bit i (bit_or a b) t, not-member-bit i a e, not-member-bit i b f))) ∙ sym f)))

-- And in what both have if it is in both.
pub member-both : (i a b : ℕ) → member i (bit_and a b) ≡ (member i a && member i b)
member-both i a b =
    let q = bit-and i a b in
    cases (member i a)
    (λ e. rw e (cases (member i b)
    (λ f. bit-member i (bit_and a b) (omega (arith, q, member-bit i a e, member-bit i b f)) ∙ sym f)
    (λ f. is_false (member i (bit_and a b)) (λ t. absurd (omega (arith, q, member-bit i (bit_and a b) t, not-member-bit i b f))) ∙ sym f)))
    (λ e. rw e (is_false (member i (bit_and a b)) (λ t. absurd (omega (arith, q, member-bit i (bit_and a b) t, not-member-bit i a e)))))

-- The boards below k that are not in s.
pub member-not : (k i s : ℕ) → s < 2 ^ k → i < k → member i (2 ^ k - 1 - s) ≡ not (member i s)
unfolding bit
member-not zero i s h l = absurd (omega arith)
member-not (suc k) zero s h l =
    let odd : (2 ^ suc k - 1 - s) % 2 + s % 2 ≡ 1 = omega (arith, pow-suc 2 k) in
    cases (member 0 s)
    (λ e. rw e (member-even (2 ^ suc k - 1 - s) (omega (arith, member-bit 0 s e, ap (λ x. x % 2) (div-one s)))))
    (λ e. rw e (bit-member 0 (2 ^ suc k - 1 - s) (ap (λ x. x % 2) (div-one (2 ^ suc k - 1 - s)) ∙ omega (arith, even-member s e))))
member-not (suc k) (suc i) s h l =
    let half : (2 ^ suc k - 1 - s) / 2 ≡ 2 ^ k - 1 - s / 2 = omega (arith, pow-suc 2 k) in
    sym (member-half i (2 ^ suc k - 1 - s)) ∙ ap (member i) half ∙ member-not k i (s / 2) (omega (arith, pow-suc 2 k)) (omega arith)
    ∙ ap not (member-half i s)

-- A number below 2 ^ k has no board from k on.
pub member-high : (k i s : ℕ) → s < 2 ^ k → k ≤ i → member i s ≡ false
unfolding member
member-high k i s h l =
    let z : s / 2 ^ i ≡ 0 = div-eq_of_lt (let p : 2 ^ k ≤ 2 ^ i = pow_mono l in omega arith) in
    rw z

-- The set of board j alone.
pub member-single : (i j : ℕ) → member i (2 ^ j) ≡ eqb i j
unfolding bit
member-single i j =
    same_test (member i (2 ^ j)) (eqb i j)
    (λ t. is_true (eqb i j) (λ e. let ne : i ≢ j = eqb-false i j e in absurd (apart ne (member-bit i (2 ^ j) t))))
    (λ t. rw (eqb-true i j t) (bit-member j (2 ^ j) (here j)))
  where
    here : (j : ℕ) → 2 ^ j / 2 ^ j % 2 ≡ 1
    here j = let z : 2 ^ j / 2 ^ j ≡ 1 = ap (λ x. x / 2 ^ j) (sym (one-mul (2 ^ j))) ∙ shl-shr 1 j in rw z

    even : (k i : ℕ) → 2 ^ (suc k + i) / 2 ^ i % 2 ≡ 0
    even k i =
        let z : 2 ^ (suc k + i) / 2 ^ i ≡ 2 ^ suc k = ap (λ x. x / 2 ^ i) (pow-add 2 (suc k) i) ∙ shl-shr (2 ^ suc k) i in
        ap (λ x. x % 2) z ∙ omega (arith, pow-suc 2 k)

    apart : i ≢ j → 2 ^ j / 2 ^ i % 2 ≡ 1 → ⊥
    apart ne e =
        cases (ltb i j)
        (λ l. let lt : i < j = ltb-true i j l in
        let z : suc (j - i - 1) + i ≡ j = omega arith in
        let q : 2 ^ j / 2 ^ i % 2 ≡ 0 = subst (λ x. 2 ^ x / 2 ^ i % 2 ≡ 0) z (even (j - i - 1) i) in
        omega arith)
        (λ l. let ge : j ≤ i = ltb-false i j l in
        let p : 2 ^ j < 2 ^ i = pow-lt (omega arith) in
        let z : 2 ^ j / 2 ^ i ≡ 0 = div-eq_of_lt p in
        omega (arith, ap (λ x. x % 2) z))

pub member-insert : (i j s : ℕ) → member i (insert j s) ≡ (eqb i j || member i s)
unfolding insert union
member-insert i j s = member_union i s (2 ^ j) ∙ rw (member-single i j) (or_comm (member i s) (eqb i j))

pub member-empty : (i : ℕ) → member i 0 ≡ false
member-empty i = member-high 0 i 0 (omega arith) (omega arith)

-- Board i is one of all boards if it is below n.
pub member-boards : (i n : ℕ) → member i (boards n) ≡ ltb i n
unfolding boards bit
member-boards i n =
    cases (ltb i n)
    (λ l. let lt : i < n = ltb-true i n l in
    let z : suc (n - i - 1) + i ≡ n = omega arith in
    rw l (bit-member i (2 ^ n - 1) (subst (λ x. (2 ^ x - 1) / 2 ^ i % 2 ≡ 1) z (odd (n - i - 1)))))
    (λ l. let ge : n ≤ i = ltb-false i n l in
    rw l (member-high n i (2 ^ n - 1) (ones_lt n) ge))
  where
    odd : (k : ℕ) → (2 ^ (suc k + i) - 1) / 2 ^ i % 2 ≡ 1
    odd k =
        let z : (2 ^ (suc k + i) - 1) / 2 ^ i ≡ 2 ^ suc k - 1 =
        ap (λ x. x / 2 ^ i) (ones_split (suc k) i) ∙ high (2 ^ suc k - 1) i (ones_lt i) in
        ap (λ x. x % 2) z ∙ omega (arith, pow-suc 2 k, pow_pos k)

-- The lowest k boards of a set.
pub member-low : (k i s : ℕ) → i < k → member i (s % 2 ^ k) ≡ member i s
unfolding boards
member-low k i s l =
    let full : bit i (2 ^ k - 1) ≡ 1 = member-bit i (boards k) (member-boards i k ∙ lt-ltb i k l) in
    let e : bit i (s % 2 ^ k) ≡ bit i s = ap (bit i) (sym (and_mask s k)) ∙ bit-and i s (2 ^ k - 1) ∙ omega (arith, full, bit-two i s) in
    cases (member i s)
    (λ t. bit-member i (s % 2 ^ k) (e ∙ member-bit i s t) ∙ sym t)
    (λ t. is_false (member i (s % 2 ^ k)) (λ u. absurd (omega (arith, member-bit i (s % 2 ^ k) u, e, not-member-bit i s t))) ∙ sym t)

-- A board above those of a set, added as a number.
pub insert-above : (k a : ℕ) → a < 2 ^ k → 2 ^ k + a ≡ insert k a
unfolding insert
insert-above k a h = sym (ap (λ x. bit_or a x) (sym (one-mul (2 ^ k))) ∙ or_shifted_r 1 k a h ∙ ap (λ x. x + a) (one-mul (2 ^ k)))

pub within-member : (a s : ℕ) → within a s ≡ true → (i : ℕ) → member i a ≡ true → member i s ≡ true
unfolding within
within-member a s e i t =
    let q : bit_and a s ≡ a = eqb-true (bit_and a s) a e in
    bit-member i s (omega (arith, bit-and i a s, ap (bit i) q, member-bit i a t, bit-two i s))

pub member-within : (k a s : ℕ) → a < 2 ^ k → ((i : ℕ) → i < k → member i a ≡ true → member i s ≡ true) → within a s ≡ true
unfolding within
member-within k a s h f =
    eq-eqb (bit_and a s) a
    (bits-equal k (bit_and a s) a (omega (arith, and_le_l a s)) h
    (λ i l. bit-and i a s ∙ cases (member i a)
    (λ e. omega (arith, member-bit i a e, member-bit i s (f i l e)))
    (λ e. omega (arith, not-member-bit i a e))))

-- A set with no members is empty.
pub no_member : (k a : ℕ) → a < 2 ^ k → ((i : ℕ) → i < k → member i a ≡ false) → a ≡ 0
no_member k a h f =
    bits-equal k a 0 h (pow_pos k) (λ i l. not-member-bit i a (f i l) ∙ sym (not-member-bit i 0 (member-empty i)))

pub within-le : (a s : ℕ) → within a s ≡ true → a ≤ s
unfolding within
within-le a s e = let q : bit_and a s ≡ a = eqb-true (bit_and a s) a e in omega (arith, and_le_r a s)

pub within-refl : (a : ℕ) → within a a ≡ true
unfolding within
within-refl a = eq-eqb (bit_and a a) a (and_self a)

pub within-empty : (s : ℕ) → within 0 s ≡ true
within-empty s = member-within 0 0 s (omega arith) (λ i l t. absurd (omega arith))

-- A set lies within the boards below n exactly if it is below 2 ^ n.
pub within-boards : (n a : ℕ) → within a (boards n) ≡ true → a < 2 ^ n
unfolding within boards
within-boards n a e = let q : bit_and a (2 ^ n - 1) ≡ a = eqb-true (bit_and a (2 ^ n - 1)) a e in omega (arith, mask_lt a n)

pub boards-within : (n a : ℕ) → a < 2 ^ n → within a (boards n) ≡ true
boards-within n a h = member-within n a (boards n) h (λ i l t. member-boards i n ∙ lt-ltb i n l)

-- Only the empty set lies within the empty set.
pub nothing-within : (a : ℕ) → within a 0 ≡ true → a ≡ 0
unfolding boards
nothing-within a e = omega (arith, within-boards 0 a e)

-- The size of a set of boards below n, for n up to 8, counts to n.
pub size-count : (n s : ℕ) → s < 2 ^ n → n ≤ 8 → size s ≡ count (λ i. member i s) n
unfolding size
size-count n s h l = count_cut (λ i. member i s) n 8 l (λ i p _. member-high n i s h p)

-- The set of the boards below n that pass the test.
pub member-set_of : (f : ℕ → Bool) (n i : ℕ) → member i (set_of f n) ≡ (ltb i n && f i)
unfolding set_of
member-set_of f zero i = member-empty i ∙ sym (ap (λ b. b && f i) (le-ltb i 0 (omega arith)))
member-set_of f (suc k) i =
    let ih = member-set_of f k i in
    cases (f k)
    (λ t. rw t (member-insert i k (set_of f k) ∙ ap (λ b. eqb i k || b) ih ∙ cases (eqb i k)
    (λ e. let z = eqb-true i k e in rw (e, z, lt-ltb k (suc k) (omega arith), t))
    (λ e. let ne : i ≢ k = eqb-false i k e in rw e (ap (λ b. b && f i) (bound ne)))))
    (λ t. rw t (ih ∙ cases (eqb i k)
    (λ e. let z = eqb-true i k e in rw (z, t) (and-false (ltb k k) ∙ sym (and-false (ltb k (suc k)))))
    (λ e. let ne : i ≢ k = eqb-false i k e in ap (λ b. b && f i) (bound ne))))
  where
    bound : i ≢ k → ltb i k ≡ ltb i (suc k)
    bound ne =
        cases (ltb i k)
        (λ e. e ∙ sym (lt-ltb i (suc k) (let l = ltb-true i k e in omega arith)))
        (λ e. e ∙ sym (le-ltb i (suc k) (let l = ltb-false i k e in omega arith)))

pub set_of-below : (f : ℕ → Bool) (n : ℕ) → set_of f n < 2 ^ n
unfolding set_of insert
set_of-below f zero = omega arith
set_of-below f (suc k) =
    let ih = set_of-below f k in
    let up : set_of f k < 2 ^ suc k = omega (arith, pow-suc 2 k) in
    cases (f k) (λ e. rw e (or_lt (suc k) (set_of f k) (2 ^ k) up (pow-lt (omega arith)))) (λ e. rw e up)
