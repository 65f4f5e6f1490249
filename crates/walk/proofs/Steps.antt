-- The walk on numbers, one step after the other.
-- Assumes nothing.
use Prim.Native.Nat.{ℕ, zero, suc, ◌+◌, ◌-◌, ◌*◌, ◌%◌, ◌^◌, ◌≤◌, ◌<◌}
use mathlib.Core.Path.{◌≡◌, refl, sym, ◌∙◌, ap}
use mathlib.Core.Logic.{◌≢◌}
use mathlib.Core.Bool.{Bool, true, false}
use mathlib.Core.List.{List, [], ◌∷◌, ◌++◌}
use native.Mathlib.Nat.{mul-le-mul_left, pow-suc}
use native.Mathlib.Numerals.{add-one}
use native.Mathlib.Omega.{arith}
use lib.Bits.{bit_or, or_lt}
use lib.ListN.{length, set, length-append}
use lib.Pow.{pow-lt}
use lib.Seq.{sets}
use Rattle.sets.specs.Sets.{member, insert}
use Rattle.tree.proofs.Below.{most}
use Rattle.sets.proofs.Collect.{insert-byte}
use Rattle.internal.specs.Numbers.{pack}
use Rattle.walk.specs.Walk.{kids, walked}
use Rattle.walk.specs.Listing.{Written}

sets-append : (xs ys l : List ℕ) (i : ℕ) → sets l i (xs ++ ys) ≡ sets (sets l i xs) (i + length xs) ys
sets-append [] ys l i = ap (λ k. sets l k ys) (let z : i ≡ i + 0 = omega arith in z)
sets-append (x ∷ xs) ys l i = sets-append xs ys (set l i x) (suc i) ∙ ap (λ k. sets (sets (set l i x) (suc i) xs) k ys) (let z : suc i + length xs ≡ i + suc (length xs) = omega arith in z)

module _ (test : ℕ → Bool) (n spare left index last s : ℕ) where
  abbrev list : List ℕ
  list = walked test n spare left index last s

  pub walked-shut : test s ≡ false → list ≡ []
  walked-shut e = shut left
    where
      shut : (left : ℕ) → walked test n spare left index last s ≡ []
      shut zero = unfold walked in rw e
      shut (suc k) = unfold walked in rw e

  pub walked-last : left ≡ 0 → test s ≡ true → list ≡ pack index last s ∷ []
  unfolding walked
  walked-last z e = rw (z, e)

-- The children by the boards from c on.
module _ (f : ℕ → ℕ → ℕ → List ℕ) (s n : ℕ) where
  abbrev pub rest : ℕ → ℕ → List ℕ
  rest i c = kids f s i (n - c) c

  pub rest-skip : (i c : ℕ) → c < n → member c s ≡ true → rest i c ≡ rest i (c + 1)
  unfolding kids
  rest-skip i c l e = let z : n - c ≡ suc (n - suc c) = omega arith in rw (z, e, add-one c)

  pub rest-here : (i c : ℕ) → c < n → member c s ≡ false → rest i c ≡ f i c (insert c s) ++ rest (i + 1) (c + 1)
  unfolding kids
  rest-here i c l e = let z : n - c ≡ suc (n - suc c) = omega arith in rw (z, e, add-one c, add-one i)

  pub rest_end : (i c : ℕ) → n ≤ c → rest i c ≡ []
  unfolding kids
  rest_end i c l = let z : n - c ≡ 0 = omega arith in rw z

-- A walk that goes on: the children, from the first on.
pub walked-inner : (test : ℕ → Bool) (n spare left index last s : ℕ) → left ≢ 0 → test s ≡ true
    → walked test n spare left index last s ≡ rest (walked test n spare (left - 1)) s n (index * (spare + left)) 0
unfolding walked
walked-inner test n spare left index last s ne e = inside left ne
  where
    inside : (k : ℕ) → k ≢ 0 → walked test n spare k index last s ≡ rest (walked test n spare (k - 1)) s n (index * (spare + k)) 0
    inside zero h = absurd (h refl)
    inside (suc k) h =
        let z : suc k - 1 ≡ k = omega arith in
        let all : n - 0 ≡ n = omega arith in
        rw (z, all, e)

-- The number of a node leaves room for those of its children.
pub number_fits : (left index : ℕ) → left ≢ 0 → left ≤ 7 → index < 8 ^ (7 - left) → index < 262144
number_fits left index ne l h =
    let p = most (λ k. 8 ^ k) 262144 7 refl (7 - left) (omega arith) in
    omega arith

pub child-number : (left index width c next : ℕ) → left ≢ 0 → left ≤ 7 → width ≤ 7 → c < 7 → index < 8 ^ (7 - left) → next ≤ index * width + c
    → next < 8 ^ (7 - (left - 1))
child-number left index width c next ne l w lc h e =
    let z : 7 - (left - 1) ≡ suc (7 - left) = omega arith in
    rw (z) (omega (arith, pow-suc 8 (7 - left), mul-le-mul_left index w))

-- The boards of a child.
pub child-small : (s q : ℕ) → s < 128 → q < 7 → bit_or s (1 * 2 ^ q % 256) < 128
child-small s q l h = rw (insert-byte s q (omega arith)) (unfold insert in or_lt 7 s (2 ^ q) l (pow-lt {j = 7} h))

-- What is known where the walk goes on with the children from c on.
pub record Walking (n base c next at used : ℕ) (left whole now before : List ℕ) : Type 0 where
  pub number : next ≤ base + c
  pub count : at + length left ≡ used + length whole
  pub content : sets now at left ≡ sets before used whole

module _ (f : ℕ → ℕ → ℕ → List ℕ) (s n base used : ℕ) (whole before : List ℕ) where
  -- The rest of the list, where the children from c on are left, the first with number i.
  abbrev At : ℕ → ℕ → ℕ → List ℕ → Type 0
  At c i at now = Walking n base c i at used (rest f s n i c) whole now before

  pub walking_start : (i : ℕ) → i ≡ base → whole ≡ rest f s n base 0 → At 0 i used before
  walking_start i z e =
      rw z (record {
        number = omega arith;
        count = ap (λ l. used + length l) (sym e);
        content = ap (sets before used) (sym e);
      })

  -- A board of the node has no child.
  pub walking_skip : (c i at i' at' : ℕ) (now now' : List ℕ) → At c i at now → c < n → member c s ≡ true → i' ≡ i → at' ≡ at → now' ≡ now
      → At (c + 1) i' at' now'
  walking_skip c i at i' at' now now' w l e ei ea en =
      let z = rest-skip f s n i c l e in
      rw (ei, ea, en) (record {
        number = omega arith;
        count = ap (λ l. at + length l) (sym z) ∙ w.count;
        content = ap (sets now at) (sym z) ∙ w.content;
      })

  -- What is below the child by another board is written.
  pub walking_here : (c i at i' end : ℕ) (now after : List ℕ) → At c i at now → c < n → member c s ≡ false → i' ≡ i + 1
      → Written at end (f i c (insert c s)) now after → At (c + 1) i' end after
  walking_here c i at i' end now after w l e ei k =
      let z = rest-here f s n i c l e in
      let part = f i c (insert c s) in
      let more = rest f s n (i + 1) (c + 1) in
      rw ei (record {
        number = omega arith;
        count = omega (arith, k.counted, w.count, ap length z, length-append part more);
        content =
            ap (λ l. sets l end more) k.content
            ∙ ap (λ j. sets (sets now at part) j more) k.counted
            ∙ sym (sets-append part more now at)
            ∙ ap (sets now at) (sym z)
            ∙ w.content;
      })

  -- The room for what is below the child.
  pub walking-room : (c i at : ℕ) (now : List ℕ) → At c i at now → c < n → member c s ≡ false → length now ≡ length before → used + length whole ≤ length before
      → at + length (f i c (insert c s)) ≤ length now
  walking-room c i at now w l e size room =
      let part = f i c (insert c s) in
      omega (arith, size, w.count, ap length (rest-here f s n i c l e), length-append part (rest f s n (i + 1) (c + 1)))

  pub walking-end : (c i at : ℕ) (now : List ℕ) → At c i at now → n ≤ c → Written used at whole before now
  walking-end c i at now w l =
      let z = rest_end f s n i c l in
      record {
        counted = omega (arith, w.count, ap length z);
        content = ap (sets now at) (sym z) ∙ w.content;
      }
