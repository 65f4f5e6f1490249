-- What std's words for a search say in the words of sets/Search: `any`, `position`, `find` over a range and `filter().count()`.
-- Assumes nothing.
use Rattle.std.proofs.Common.{ℕ, zero, suc, ◌+◌, ◌≡◌, refl, sym, ap, ◌∙◌, Bool, true, false, not, ◌||◌, cond, ltb, List, [], ◌∷◌, length, get_or, arith, add-one, ◌<◌, ◌≤◌, Some, None, Option, ◌-◌}
use borrow.Author.Tests.{lt-ltb, le-ltb, ltb-true, ltb-false}
use Rattle.sets.proofs.Tests.{cases}
use Rattle.std.proofs.lemmas.List.Recursion.{is_count_by}
use Rattle.std.specs.List.{list_any, position_or_len, count_by, range_with_len, find}
use Rattle.std.specs.Option.{unwrap_or, option_map}
use Rattle.std.proofs.lemmas.List.Sums.{prefix_len-le-length}
use Rattle.std.proofs.lemmas.List.FromFn.{length-range_with_len, get_or-range_with_len}
use Rattle.sets.proofs.Search.{any_same, first-le, first-ge}
use Rattle.sets.specs.Search.{first, any, count}

push : (b : Bool) (x y : ℕ) → cond b (suc x) (suc y) ≡ suc (cond b x y)
push true x y = refl
push false x y = refl

flip : {A : Type 0} (b : Bool) (x y : A) → cond (not b) x y ≡ cond b y x
flip true x y = refl
flip false x y = refl

pub first-shift : (f : ℕ → Bool) (left i : ℕ) → first f left (suc i) ≡ suc (first (λ k. f (suc k)) left i)
unfolding first
first-shift f zero i = refl
first-shift f (suc left) i = ap (cond (f (suc i)) (suc i)) (first-shift f left (suc i)) ∙ push (f (suc i)) i _

pub place-first : (test : ℕ → Bool) (d : ℕ) (xs : List ℕ) → position_or_len test xs ≡ first (λ i. test (get_or xs i d)) (length xs) 0
unfolding first
place-first test d [] = refl
place-first test d (x ∷ xs) =
    let f : ℕ → Bool = λ i. test (get_or (x ∷ xs) i d) in
    let later : 1 + position_or_len test xs ≡ first f (length xs) 1 = omega (arith, place-first test d xs, first-shift f (length xs) 0) in
    flip (test x) (1 + position_or_len test xs) 0 ∙ ap (cond (test x) 0) later

ltb-suc : (p n : ℕ) → ltb (suc p) (suc n) ≡ ltb p n
ltb-suc p n = cases (ltb p n) (λ t. lt-ltb (suc p) (suc n) (let h : p < n = ltb-true p n t in omega arith) ∙ sym t) (λ t. le-ltb (suc p) (suc n) (let h : n ≤ p = ltb-false p n t in omega arith) ∙ sym t)

step : (b r : Bool) (p n : ℕ) → r ≡ ltb p n → (b || r) ≡ ltb (cond b 0 (suc p)) (suc n)
step true r p n e = sym (lt-ltb 0 (suc n) (omega arith))
step false r p n e = e ∙ sym (ltb-suc p n)

pub list_any-is : (test : ℕ → Bool) (d : ℕ) (xs : List ℕ) → list_any test xs ≡ any (λ i. test (get_or xs i d)) (length xs)
unfolding any first
list_any-is test d [] = refl
list_any-is test d (x ∷ xs) =
    let f : ℕ → Bool = λ i. test (get_or (x ∷ xs) i d) in
    step (test x) (list_any test xs) (first (λ i. test (get_or xs i d)) (length xs) 0) (length xs) (list_any-is test d xs)
    ∙ ap (λ p. ltb (cond (test x) 0 p) (suc (length xs))) (sym (first-shift f (length xs) 0))

pub count-shift : (f : ℕ → Bool) (k : ℕ) → count f (suc k) ≡ cond (f 0) 1 0 + count (λ i. f (suc i)) k
unfolding count
count-shift f zero = omega arith
count-shift f (suc k) = omega (arith, count-shift f k)

spread : (b : Bool) (n : ℕ) → cond b 1 0 + n ≡ cond b (1 + n) n
spread true n = refl
spread false n = omega arith

pub count_by-is : (test : ℕ → Bool) (d : ℕ) (xs : List ℕ) → count_by test xs ≡ count (λ i. test (get_or xs i d)) (length xs)
unfolding count
count_by-is test d xs =
    sym (is_count_by (λ ys. count (λ i. test (get_or ys i d)) (length ys)) test refl
    (λ y ys. count-shift (λ i. test (get_or (y ∷ ys) i d)) (length ys) ∙ spread (test y) _) xs)

-- A place, or the end where there is none.
pub place-or-end : (test : ℕ → Bool) (xs : List ℕ) → unwrap_or (cond (ltb (position_or_len test xs) (length xs)) (Some (position_or_len test xs)) None) (length xs) ≡ first (λ i. test (get_or xs i 0)) (length xs) 0
place-or-end test xs =
    let k = position_or_len test xs in
    let n = length xs in
    let l : k ≤ n = prefix_len-le-length (λ x. not (test x)) xs in
    cases (ltb k n)
    (λ t. rw t (place-first test 0 xs))
    (λ t. let e : n ≡ k = (let h : n ≤ k = ltb-false k n t in omega arith) in rw t (e ∙ place-first test 0 xs))

-- The same over the numbers below n.
pub any-range : (test : ℕ → Bool) (n : ℕ) → list_any test (range_with_len 0 n) ≡ any test n
any-range test n =
    list_any-is test 0 (range_with_len 0 n)
    ∙ ap (any (λ i. test (get_or (range_with_len 0 n) i 0))) (length-range_with_len 0 n)
    ∙ any_same _ test n (λ i h. ap test (get_or-range_with_len 0 n i 0 h ∙ (let z : 0 + i ≡ i = omega arith in z)))

pick : (b : Bool) (i : ℕ) (o : Option ℕ) (e r : ℕ) → unwrap_or o e ≡ r → unwrap_or (cond b (Some i) o) e ≡ cond b i r
pick true i o e r h = refl
pick false i o e r h = h

-- The first number that passes, from i on; the end where there is none.
pub find-range : (test : ℕ → Bool) (i k : ℕ) → unwrap_or (find test (range_with_len i k)) (i + k) ≡ first test k i
unfolding first
find-range test i zero = omega arith
find-range test i (suc k) =
    let rest : unwrap_or (find test (range_with_len (i + 1) k)) (i + suc k) ≡ first test k (suc i) = (let e : i + suc k ≡ (i + 1) + k = omega arith in rw e (rw (sym (add-one i)) (find-range test (i + 1) k))) in
    pick (test i) i (find test (range_with_len (i + 1) k)) (i + suc k) (first test k (suc i)) rest

same_option : (o : Option ℕ) → o ≡ option_map (λ x. x) o
same_option None = refl
same_option (Some x) = refl

pub found-or-end : (test : ℕ → Bool) (i n : ℕ) (o : Option ℕ) → i ≤ n → option_map (λ x. x) o ≡ find test (range_with_len i (n - i)) → unwrap_or o n ≡ first test (n - i) i
found-or-end test i n o l e =
    let at-end : n ≡ i + (n - i) = omega arith in
    ap (λ x. unwrap_or x n) (same_option o ∙ e) ∙ ap (unwrap_or (find test (range_with_len i (n - i)))) at-end ∙ find-range test i (n - i)

find-place : (test : ℕ → Bool) (i k : ℕ) → find test (range_with_len i k) ≡ cond (ltb (first test k i) (i + k)) (Some (first test k i)) None
unfolding first
find-place test i zero = rw (le-ltb i (i + 0) (omega arith))
find-place test i (suc k) =
    cases (test i)
    (λ t. rw (t, lt-ltb i (i + suc k) (omega arith)))
    (λ t. rw t (let e : i + suc k ≡ (i + 1) + k = omega arith in rw e (rw (sym (add-one i)) (find-place test (i + 1) k))))

past : (p i n : ℕ) → p ≤ i + (n - i) → i ≤ p → ltb p (i + (n - i)) ≡ ltb p n
past p i n l m =
    cases (ltb p n)
    (λ t. lt-ltb p (i + (n - i)) (let h : p < n = ltb-true p n t in omega arith) ∙ sym t)
    (λ t. le-ltb p (i + (n - i)) (let h : n ≤ p = ltb-false p n t in omega arith) ∙ sym t)

-- The same as the place itself, or none; i may be past the end.
pub found-place : (test : ℕ → Bool) (i n : ℕ) (o : Option ℕ) → option_map (λ x. x) o ≡ find test (range_with_len i (n - i))
    → o ≡ cond (ltb (first test (n - i) i) n) (Some (first test (n - i) i)) None
found-place test i n o e =
    let p = first test (n - i) i in
    same_option o ∙ e ∙ find-place test i (n - i) ∙ ap (λ b. cond b (Some p) None) (past p i n (first-le test (n - i) i) (first-ge test (n - i) i))
