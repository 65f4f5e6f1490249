-- Parts of one larger buffer: a part is replaced, and what that leaves of the others.
-- Assumes nothing.
use Prim.Native.Nat.{ℕ, zero, suc, ◌+◌, ◌-◌, ◌*◌, ◌≤◌, ◌<◌}
use mathlib.Core.Path.{◌≡◌, refl, sym, ap, ap₂, ◌∙◌}
use mathlib.Core.Logic.{◌≢◌, ◌⊎◌, inl, ⊎_elim}
use mathlib.Core.Bool.{Bool, true, false, cond}
use mathlib.Core.List.{List, ◌++◌}
use native.Mathlib.Nat.{mul-le-mul_right, suc-mul}
use native.Mathlib.Omega.{arith}
use lib.Dec.{eqb, ltb}
use lib.ListN.{length, get_or, take, drop, length-append, length-take, length-drop, take-append-drop}
use lib.Seq.{length-take-le, take_at, drop_at, drop-drop, get_or-take, get_or-drop, ext_get_or}
use borrow.Author.Tests.{eqb-true, eqb-false, eq-eqb, ne_eqb, ltb-true, ltb-false}
use Rattle.sets.proofs.Tests.{cases}

-- The c cells from place a on are replaced.
unfoldable pub replace : ℕ → ℕ → List ℕ → List ℕ → List ℕ
replace a c new l = take a l ++ (new ++ drop (a + c) l)

module _ (a c : ℕ) (new l : List ℕ) (size : length new ≡ c) (fits : a + c ≤ length l) where
  head-size : length (take a l) ≡ a
  head-size = length-take-le a l (omega arith)

  pub replace-length : length (replace a c new l) ≡ length l
  unfolding replace
  replace-length = simp (length-append, length-drop, head-size, size) (omega arith)

  pub replace-take : take a (replace a c new l) ≡ take a l
  unfolding replace
  replace-take = take_at (take a l) (new ++ drop (a + c) l) a head-size

  pub replace-drop : drop (a + c) (replace a c new l) ≡ drop (a + c) l
  unfolding replace
  replace-drop =
      sym (drop-drop c a (take a l ++ (new ++ drop (a + c) l)))
      ∙ ap (drop c) (drop_at (take a l) (new ++ drop (a + c) l) a head-size)
      ∙ drop_at new (drop (a + c) l) c size

  -- The part itself.
  pub replace-look : take c (drop a (replace a c new l)) ≡ new
  unfolding replace
  replace-look =
      ap (take c) (drop_at (take a l) (new ++ drop (a + c) l) a head-size) ∙ take_at new (drop (a + c) l) c size

  pub replace-before : (x : ℕ) → x < a → get_or (replace a c new l) x 0 ≡ get_or l x 0
  replace-before x h = sym (get_or-take a (replace a c new l) x 0 h) ∙ ap (λ y. get_or y x 0) replace-take ∙ get_or-take a l x 0 h

  pub replace-after : (x : ℕ) → a + c ≤ x → get_or (replace a c new l) x 0 ≡ get_or l x 0
  replace-after x h =
      let e : a + c + (x - (a + c)) ≡ x = omega arith in
      ap (λ y. get_or (replace a c new l) y 0) (sym e)
      ∙ sym (get_or-drop (a + c) (replace a c new l) (x - (a + c)) 0)
      ∙ ap (λ y. get_or y (x - (a + c)) 0) replace-drop
      ∙ get_or-drop (a + c) l (x - (a + c)) 0
      ∙ ap (λ y. get_or l y 0) e

  pub replace-inside : (x : ℕ) → a ≤ x → x < a + c → get_or (replace a c new l) x 0 ≡ get_or new (x - a) 0
  replace-inside x h k =
      let e : a + (x - a) ≡ x = omega arith in
      ap (λ y. get_or (replace a c new l) y 0) (sym e)
      ∙ sym (get_or-drop a (replace a c new l) (x - a) 0)
      ∙ sym (get_or-take c (drop a (replace a c new l)) (x - a) 0 (omega arith))
      ∙ ap (λ y. get_or y (x - a) 0) replace-look

  -- Another part.
  pub replace-other : (b : ℕ) → b + c ≤ length l → (b + c ≤ a) ⊎ (a + c ≤ b) → take c (drop b (replace a c new l)) ≡ take c (drop b l)
  replace-other b room apart =
      ext_get_or 0 (take c (drop b (replace a c new l))) (take c (drop b l))
      (simp (length-take, length-drop, replace-length) refl)
      (λ i h. let k : i < c = omega (arith, h, length-take c (drop b (replace a c new l))) in
      get_or-take c (drop b (replace a c new l)) i 0 k ∙ get_or-drop b (replace a c new l) i 0
      ∙ ⊎_elim (λ y. replace-before (b + i) (omega arith)) (λ y. replace-after (b + i) (omega arith)) apart
      ∙ sym (get_or-drop b l i 0) ∙ sym (get_or-take c (drop b l) i 0 k))

-- A part that is replaced twice.
pub replace-twice : (a c : ℕ) (old new l : List ℕ) → length old ≡ c → a + c ≤ length l → replace a c new (replace a c old l) ≡ replace a c new l
unfolding replace
replace-twice a c old new l s f = ap₂ (λ x y. x ++ (new ++ y)) (replace-take a c old l s f) (replace-drop a c old l s f)

-- A part replaced by itself.
pub replace-own : (a c : ℕ) (l : List ℕ) → replace a c (take c (drop a l)) l ≡ l
unfolding replace
replace-own a c l =
    ap (λ x. take a l ++ (take c (drop a l) ++ x)) (sym (drop-drop c a l)) ∙ ap (λ x. take a l ++ x) (take-append-drop c (drop a l)) ∙ take-append-drop a l

-- Two parts that lie apart.
pub replace-swap : (a b c : ℕ) (x y l : List ℕ) → length x ≡ c → length y ≡ c → a + c ≤ b → b + c ≤ length l
    → replace a c x (replace b c y l) ≡ replace b c y (replace a c x l)
replace-swap a b c x y l sx sy apart room =
    let la = replace-length a c x l sx (omega arith) in
    let lb = replace-length b c y l sy room in
    let lab = replace-length a c x (replace b c y l) sx (omega arith) in
    let lba = replace-length b c y (replace a c x l) sy (omega arith) in
    ext_get_or 0 (replace a c x (replace b c y l)) (replace b c y (replace a c x l)) (omega arith)
    (λ i h.
    cases (ltb i a)
    (λ e. let k = ltb-true i a e in
    replace-before a c x (replace b c y l) sx (omega arith) i k ∙ replace-before b c y l sy room i (omega arith)
    ∙ sym (replace-before b c y (replace a c x l) sy (omega arith) i (omega arith) ∙ replace-before a c x l sx (omega arith) i k))
    (λ e. let k = ltb-false i a e in
    cases (ltb i (a + c))
    (λ f. let m = ltb-true i (a + c) f in
    replace-inside a c x (replace b c y l) sx (omega arith) i k m
    ∙ sym (replace-before b c y (replace a c x l) sy (omega arith) i (omega arith) ∙ replace-inside a c x l sx (omega arith) i k m))
    (λ f. let m = ltb-false i (a + c) f in
    replace-after a c x (replace b c y l) sx (omega arith) i m
    ∙ cases (ltb i b)
    (λ g. replace-before b c y l sy room i (ltb-true i b g)
    ∙ sym (replace-before b c y (replace a c x l) sy (omega arith) i (ltb-true i b g) ∙ replace-after a c x l sx (omega arith) i m))
    (λ g. cases (ltb i (b + c))
    (λ d. replace-inside b c y l sy room i (ltb-false i b g) (ltb-true i (b + c) d)
    ∙ sym (replace-inside b c y (replace a c x l) sy (omega arith) i (ltb-false i b g) (ltb-true i (b + c) d)))
    (λ d. replace-after b c y l sy room i (ltb-false i (b + c) d)
    ∙ sym (replace-after b c y (replace a c x l) sy (omega arith) i (ltb-false i (b + c) d) ∙ replace-after a c x l sx (omega arith) i m))))))

-- Part k lies within k + 1 parts, and parts lie apart.
pub parts_within : (i k c : ℕ) → i < k → i * c + c ≤ k * c
parts_within i k c h = omega (arith, mul-le-mul_right c h, suc-mul i c)

-- The parts below k that are kept hold what w says, all else is as in l.
unfoldable pub laid : (ℕ → Bool) → ℕ → (ℕ → List ℕ) → ℕ → List ℕ → List ℕ
laid keep c w zero l = l
laid keep c w (suc k) l = let rest = laid keep c w k l in cond (keep k) (replace (k * c) c (w k) rest) rest

module _ (keep : ℕ → Bool) (c : ℕ) where
  laid_kept : (w : ℕ → List ℕ) (k : ℕ) (l : List ℕ) → keep k ≡ true → laid keep c w (suc k) l ≡ replace (k * c) c (w k) (laid keep c w k l)
  unfolding laid
  laid_kept w k l e = rw e refl

  laid-left : (w : ℕ → List ℕ) (k : ℕ) (l : List ℕ) → keep k ≡ false → laid keep c w (suc k) l ≡ laid keep c w k l
  unfolding laid
  laid-left w k l e = rw e refl

  pub laid_same : (w w' : ℕ → List ℕ) (k : ℕ) (l : List ℕ) → ((i : ℕ) → i < k → keep i ≡ true → w i ≡ w' i) → laid keep c w k l ≡ laid keep c w' k l
  laid_same w w' zero l h = unfold laid in refl
  laid_same w w' (suc k) l h =
      let rest = laid_same w w' k l (λ i x y. h i (omega arith) y) in
      cases (keep k)
      (λ e. laid_kept w k l e ∙ ap₂ (replace (k * c) c) (h k (omega arith) e) rest ∙ sym (laid_kept w' k l e))
      (λ e. laid-left w k l e ∙ rest ∙ sym (laid-left w' k l e))

  -- Parts that hold what they held.
  pub laid-own : (k : ℕ) (l : List ℕ) → laid keep c (λ i. take c (drop (i * c) l)) k l ≡ l
  laid-own zero l = unfold laid in refl
  laid-own (suc k) l =
      let w : ℕ → List ℕ = λ i. take c (drop (i * c) l) in
      cases (keep k)
      (λ e. laid_kept w k l e ∙ ap (replace (k * c) c (w k)) (laid-own k l) ∙ replace-own (k * c) c l)
      (λ e. laid-left w k l e ∙ laid-own k l)

  module _ (w : ℕ → List ℕ) (sizes : (i : ℕ) → keep i ≡ true → length (w i) ≡ c) where
    pub laid-length : (k : ℕ) (l : List ℕ) → k * c ≤ length l → length (laid keep c w k l) ≡ length l
    laid-length zero l h = unfold laid in refl
    laid-length (suc k) l h =
        let rest = laid-length k l (omega (arith, suc-mul k c)) in
        cases (keep k)
        (λ e. ap length (laid_kept w k l e) ∙ replace-length (k * c) c (w k) (laid keep c w k l) (sizes k e) (omega (arith, suc-mul k c)) ∙ rest)
        (λ e. ap length (laid-left w k l e) ∙ rest)

    -- A part that is kept.
    pub laid-part : (i k : ℕ) (l : List ℕ) → i < k → keep i ≡ true → k * c ≤ length l → take c (drop (i * c) (laid keep c w k l)) ≡ w i
    laid-part i zero l h e room = absurd (omega arith)
    laid-part i (suc k) l h e room =
        let below : k * c ≤ length l = omega (arith, suc-mul k c) in
        let size = laid-length k l below in
        let fits : k * c + c ≤ length (laid keep c w k l) = omega (arith, suc-mul k c) in
        cases (eqb i k)
        (λ x. let same = eqb-true i k x in
        let kept = ap keep (sym same) ∙ e in
        ap (λ m. take c (drop (m * c) (laid keep c w (suc k) l))) same ∙ ap (λ y. take c (drop (k * c) y)) (laid_kept w k l kept)
        ∙ replace-look (k * c) c (w k) (laid keep c w k l) (sizes k kept) fits ∙ ap w (sym same))
        (λ x. let less : i < k = let ne = eqb-false i k x in omega arith in
        let within = parts_within i k c less in
        let rest = laid-part i k l less e below in
        cases (keep k)
        (λ y. ap (λ z. take c (drop (i * c) z)) (laid_kept w k l y)
        ∙ replace-other (k * c) c (w k) (laid keep c w k l) (sizes k y) fits (i * c) (omega arith) (inl within) ∙ rest)
        (λ y. ap (λ z. take c (drop (i * c) z)) (laid-left w k l y) ∙ rest))

    -- A part that is replaced.
    pub laid-replace : (i k : ℕ) (new l : List ℕ) → i < k → keep i ≡ true → length new ≡ c → k * c ≤ length l
        → replace (i * c) c new (laid keep c w k l) ≡ laid keep c (λ x. cond (eqb x i) new (w x)) k l
    laid-replace i zero new l h e s room = absurd (omega arith)
    laid-replace i (suc k) new l h e s room =
        let below : k * c ≤ length l = omega (arith, suc-mul k c) in
        let size = laid-length k l below in
        let fits : k * c + c ≤ length (laid keep c w k l) = omega (arith, suc-mul k c) in
        let w' : ℕ → List ℕ = λ x. cond (eqb x i) new (w x) in
        cases (eqb i k)
        (λ x. let same = eqb-true i k x in
        let kept = ap keep (sym same) ∙ e in
        let here : w' k ≡ new = rw (eq-eqb k i (sym same)) refl in
        ap (λ m. replace (m * c) c new (laid keep c w (suc k) l)) same ∙ ap (replace (k * c) c new) (laid_kept w k l kept)
        ∙ replace-twice (k * c) c (w k) new (laid keep c w k l) (sizes k kept) fits
        ∙ ap₂ (replace (k * c) c) (sym here) (laid_same w w' k l (λ j y z. let ne : j ≢ i = λ q. absurd (omega arith) in rw (ne_eqb j i ne) refl))
        ∙ sym (laid_kept w' k l kept))
        (λ x. let less : i < k = let ne = eqb-false i k x in omega arith in
        let within = parts_within i k c less in
        let rest = laid-replace i k new l less e s below in
        let there : w k ≡ w' k = let ne : k ≢ i = λ q. absurd (omega arith) in rw (ne_eqb k i ne) refl in
        cases (keep k)
        (λ y. ap (replace (i * c) c new) (laid_kept w k l y)
        ∙ replace-swap (i * c) (k * c) c new (w k) (laid keep c w k l) s (sizes k y) within fits
        ∙ ap₂ (replace (k * c) c) there rest ∙ sym (laid_kept w' k l y))
        (λ y. ap (replace (i * c) c new) (laid-left w k l y) ∙ rest ∙ sym (laid-left w' k l y)))
