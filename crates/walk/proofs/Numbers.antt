-- The walk on numbers lists the numbers of the nodes that the walk on labels reaches.
-- Assumes nothing.
use Prim.Native.Nat.{ℕ, zero, suc, ◌+◌, ◌-◌, ◌*◌, ◌^◌, ◌/◌, ◌%◌, ◌≤◌, ◌<◌}
use mathlib.Core.Path.{◌≡◌, refl, sym, ◌∙◌, ap, ap₂}
use mathlib.Core.Logic.{◌≢◌}
use mathlib.Core.Bool.{Bool, true, false, not, ◌&&◌}
use mathlib.Core.List.{List, [], ◌∷◌, ◌++◌, map, map-append, flat_map}
use native.Mathlib.Omega.{arith}
use native.Mathlib.Nat.{one-mul}
use lib.Bits.{bit_and, bit_or, and_high, and_zero_r, or_lt}
use lib.Dec.{eqb, ltb}
use lib.ListN.{length}
use lib.Pow.{pow-lt, pow_pos, pow-add}
use borrow.Author.Tests.{eq-eqb, ne_eqb, eqb-true, eqb-false, lt-ltb, ltb-false}
use Rattle.sets.specs.Sets.{member, insert}
use Rattle.sets.specs.Structure.{tolerated}
use Rattle.holders.specs.Holders.{holder_table}
use Rattle.sets.proofs.Tests.{cases}
use Rattle.sets.proofs.Count.{count-in, count-out, count-zero}
use Rattle.sets.proofs.Member.{member-high}
use Rattle.holders.proofs.Held.{table-tolerated}
use Rattle.plan.specs.declared.plan.Plan.{Plan}
use Rattle.plan.specs.Listed.{listed}
use Rattle.schedule.specs.Schedule.{rounds}
use Rattle.tree.specs.Labels.{Label, occurs, mask, last, children_from, children}
use Rattle.tree.specs.Places.{rank, ordinal}
use Rattle.tree.proofs.Masks.{mask-member}
use Rattle.tree.proofs.Ranks.{rank-child}
use Rattle.protocol.specs.Nodes.{carried}
use Rattle.internal.specs.Numbers.{code}
use Rattle.walk.specs.Walk.{below, single, kids, walked}
use Rattle.internal.specs.Tests.{is_open, barred, is_internal}
use Rattle.internal.proofs.InternalNodes.{internal-is, without-both}
use Rattle.walk.proofs.Carried.{carries, below-carried}

map-flat : (g : Label → ℕ) (f : Label → List Label) (αs : List Label) → map g (flat_map f αs) ≡ flat_map (λ α. map g (f α)) αs
unfolding flat_map
map-flat g f [] = refl
map-flat g f (α ∷ αs) = map-append g (f α) (flat_map f αs) ∙ ap (λ x. map g (f α) ++ x) (map-flat g f αs)

ordinal-zero : (α : Label) → ordinal 0 α ≡ 0
unfolding ordinal
ordinal-zero α = count-zero (λ i. not (occurs i α))

ordinal-off : (c : ℕ) (α : Label) → occurs c α ≡ false → ordinal (suc c) α ≡ ordinal c α + 1
unfolding ordinal
ordinal-off c α e = count-in (λ i. not (occurs i α)) c (rw e)

ordinal-on : (c : ℕ) (α : Label) → occurs c α ≡ true → ordinal (suc c) α ≡ ordinal c α
unfolding ordinal
ordinal-on c α e = count-out (λ i. not (occurs i α)) c (rw e)

-- The children of a label, by their numbers.
kids-labels : (f : ℕ → ℕ → ℕ → List ℕ) (e : Label → List ℕ) (n base : ℕ) (α : Label)
    → ((c : ℕ) → c < n → f (base + ordinal c α) c (insert c (mask α)) ≡ e (c ∷ α))
    → (k c : ℕ) → c + k ≡ n → kids f (mask α) (base + ordinal c α) k c ≡ flat_map e (children_from α c k)
unfolding kids flat_map children_from
kids-labels f e n base α h zero c z = refl
kids-labels f e n base α h (suc k) c z =
    let ih = kids-labels f e n base α h k (suc c) (omega arith) in
    cases (occurs c α)
    (λ t. rw (t, mask-member c α ∙ t) (ap (λ x. kids f (mask α) (base + x) k (suc c)) (sym (ordinal-on c α t)) ∙ ih))
    (λ t. let next : suc (base + ordinal c α) ≡ base + ordinal (suc c) α = omega (arith, ordinal-off c α t) in
    rw (t, mask-member c α ∙ t) (ap₂ (λ x y. x ++ y) (h c (omega arith)) (ap (λ x. kids f (mask α) x k (suc c)) next ∙ ih)))

child-mask : (α : Label) (c : ℕ) → c < 7 → mask α < 128 → mask (c ∷ α) < 128
unfolding mask insert
child-mask α c l h = or_lt 7 (mask α) (2 ^ c) h (pow-lt {j = 7} l)

pub root-mask : (d : ℕ) → d < 7 → mask (d ∷ []) < 128
unfolding mask
root-mask d l = child-mask [] d l (omega arith)

-- To level `deep`, where a test of the boards and one of the label agree so far down.
module _ (test : ℕ → Bool) (f : Label → Bool) (n spare deep : ℕ) (small : n ≤ 7) (width : spare + deep ≡ n)
    (agree : (α : Label) → mask α < 128 → length α ≤ deep → test (mask α) ≡ f α) where
  child-rank : (α : Label) (left c : ℕ) → 0 < length α → length α + suc left ≡ deep
      → rank n α * (spare + suc left) + ordinal c α ≡ rank n (c ∷ α)
  child-rank α left c some z =
      let pred : length α ≡ suc (length α - 1) = omega arith in
      let w : spare + suc left ≡ n - suc (length α - 1) = omega arith in
      ap (λ x. rank n α * x + ordinal c α) w ∙ sym (rank-child n (length α - 1) c α pred)

  pub walked-below : (left : ℕ) (α : Label) → 0 < length α → length α + left ≡ deep → mask α < 128
      → walked test n spare left (rank n α) (last α) (mask α) ≡ map (code n) (below f n left α)
  unfolding walked below code last mask children
  walked-below zero α some z h = rw (agree α h (omega arith)) (cases (f α) (λ e. rw e) (λ e. rw e))
  walked-below (suc left) α some z h =
      rw (agree α h (omega arith)) (cases (f α) (λ e. rw e (inside (λ c l. walked-below left (c ∷ α) (omega arith) (omega arith) (child-mask α c (omega arith) h)))) (λ e. rw e))
    where
      inside : ((c : ℕ) → c < n → walked test n spare left (rank n (c ∷ α)) (last (c ∷ α)) (mask (c ∷ α)) ≡ map (code n) (below f n left (c ∷ α)))
          → kids (walked test n spare left) (mask α) (rank n α * (spare + suc left)) n 0 ≡ map (code n) (flat_map (below f n left) (children n α))
      inside ih =
          let start : rank n α * (spare + suc left) ≡ rank n α * (spare + suc left) + ordinal 0 α = omega (arith, ordinal-zero α) in
          ap (λ x. kids (walked test n spare left) (mask α) x n 0) start
          ∙ kids-labels (walked test n spare left) (λ β. map (code n) (below f n left β)) n (rank n α * (spare + suc left)) α (child ih) n 0 (omega arith)
          ∙ sym (map-flat (code n) (below f n left) (children n α))
        where
          child : ((c : ℕ) → c < n → walked test n spare left (rank n (c ∷ α)) (last (c ∷ α)) (mask (c ∷ α)) ≡ map (code n) (below f n left (c ∷ α)))
              → (c : ℕ) → c < n → walked test n spare left (rank n α * (spare + suc left) + ordinal c α) c (insert c (mask α)) ≡ map (code n) (below f n left (c ∷ α))
          child ih c l = ap (λ x. walked test n spare left x c (insert c (mask α))) (child-rank α left c some z) ∙ ih c l

-- A set has no board of the set of q exactly if it has not q.
single-apart : (q s : ℕ) → s < 128 → eqb (bit_and s (single q)) 0 ≡ not (member q s)
unfolding single member
single-apart q s h =
    cases (ltb q 8)
    (λ e. let pow : 2 ^ (1 + q) - 2 ^ q ≡ 2 ^ q = omega (arith, pow-add 2 1 q) in
    let bits : bit_and s (2 ^ q) ≡ (s / 2 ^ q % 2) * 2 ^ q = ap (bit_and s) (sym pow) ∙ and_high s 1 q in
    rw e (cases (eqb (s / 2 ^ q % 2) 1)
    (λ x. let one : bit_and s (2 ^ q) ≡ 2 ^ q = bits ∙ ap (λ b. b * 2 ^ q) (eqb-true (s / 2 ^ q % 2) 1 x) ∙ one-mul (2 ^ q) in
    rw (x, ne_eqb (bit_and s (2 ^ q)) 0 (let l = pow_pos q in omega arith)))
    (λ x. let none : s / 2 ^ q % 2 ≡ 0 = let ne : s / 2 ^ q % 2 ≢ 1 = eqb-false (s / 2 ^ q % 2) 1 x in omega arith in
    let zeros = bits ∙ ap (λ b. b * 2 ^ q) none in
    rw (x, eq-eqb (bit_and s (2 ^ q)) 0 (omega (arith, zeros))))))
    (λ e. let l : 8 ≤ q = ltb-false q 8 e in
    let out : eqb (s / 2 ^ q % 2) 1 ≡ false = unfold member in member-high 7 q s h (omega arith) in
    rw (e, out, and_zero_r s))

module _ (p : Plan) (q i : ℕ) (holders : List ℕ) (table : holders ≡ holder_table (listed p)) (few : length (listed p) ≤ 255) where
  -- Above level R the test of the boards is that of the label.
  is_open_lem : (α : Label) → mask α < 128 → length α < (rounds p).0 → is_open holders (bit_or (single q) (barred p i)) (mask α) ≡ carries p q i α
  unfolding is_open is_internal
  is_open_lem α h l =
      let held = table-tolerated (listed p) holders (mask α) table few h in
      let out = single-apart q (mask α) h ∙ ap not (mask-member q α) in
      let apart : eqb (bit_and (mask α) (bit_or (single q) (barred p i))) 0 ≡ (not (occurs q α) && eqb (bit_and (mask α) (barred p i)) 0) =
      without-both p i (single q) (mask α) ∙ ap (λ b. b && eqb (bit_and (mask α) (barred p i)) 0) out in
      rw (apart, held, internal-is p i α, lt-ltb (length α) (rounds p).0 l)
      (regroup (not (occurs q α)) (eqb (bit_and (mask α) (barred p i)) 0) (tolerated (listed p) (mask α)))
    where
      regroup : (a b c : Bool) → ((a && b) && c) ≡ (a && ((b && c) && true))
      regroup true true true = refl
      regroup true true false = refl
      regroup true false c = refl
      regroup false b c = refl

  -- The walk from the root lists the nodes that a frame of board q carries.
  pub walked-carried : (level : ℕ) → p.n ≤ 7 → p.dealer < p.n → 1 ≤ level → level ≤ p.n → level < (rounds p).0
      → walked (is_open holders (bit_or (single q) (barred p i))) p.n (p.n - level) (level - 1) 0 p.dealer (mask (p.dealer ∷ [])) ≡ map (code p.n) (carried p q i level)
  unfolding rank last
  walked-carried level most ld low high below_top =
      walked-below (is_open holders (bit_or (single q) (barred p i))) (carries p q i) p.n (p.n - level) level most (omega arith)
      (λ α h l. is_open_lem α h (omega arith))
      (level - 1) (p.dealer ∷ []) (omega arith) (omega arith) (root-mask p.dealer (omega arith))
      ∙ ap (map (code p.n)) (below-carried p q i (level - 1) ∙ ap (carried p q i) (let z : suc (level - 1) ≡ level = omega arith in z))
