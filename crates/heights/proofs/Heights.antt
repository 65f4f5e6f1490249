-- H is 1 plus the size of the largest tolerated set that holds the dealer, or 1; and at most n for an admitted list.
-- Assumes nothing.
use Prim.Native.Nat.{ℕ, zero, suc, ◌+◌, ◌-◌, ◌≤◌, ◌<◌}
use mathlib.Core.Path.{◌≡◌, refl}
use mathlib.Core.Logic.{◌⊎◌, inl, inr, ⊎_elim}
use mathlib.Core.Bool.{true, false, not, ◌||◌}
use mathlib.Core.List.{List, [], ◌∷◌}
use native.Mathlib.Omega.{arith}
use lib.Dec.{leb}
use lib.ListN.{length, get_or}
use borrow.Author.Tests.{lt-ltb, leb-true, leb-false}
use Rattle.plan.specs.declared.plan.Plan.{Plan}
use Rattle.sets.specs.Search.{any, count}
use Rattle.sets.specs.Sets.{member, within, boards, size}
use Rattle.sets.specs.Structure.{tolerated}
use Rattle.admission.specs.Calls.{strays}
use Rattle.covering.specs.Cover.{covered, first_place}
use Rattle.plan.specs.Listed.{listed}
use Rattle.heights.specs.Levels.{largest, height}
use Rattle.plan.specs.Calls.{judged, settings_of}
use Rattle.sets.proofs.Tests.{cases, clash, is_false, not_t, not_f, or_left}
use Rattle.sets.proofs.Search.{any-true, any_false}
use Rattle.sets.proofs.Count.{count-mono, count-more, count-all}
use Rattle.sets.proofs.Member.{within-member, within-boards, within-refl, member-empty, size-count}
use Rattle.sets.proofs.Tolerated.{listed-tolerated, tolerated-listed}
use Rattle.covering.proofs.Cover.{found_of}
use Rattle.admission.proofs.Admitted.{Admitted}
use Rattle.plan.proofs.Accepted.{accepted}

-- Every listed set that holds d bounds `largest` from below.
pub largest-ge : (sets : List ℕ) (d i : ℕ) → i < length sets → member d (get_or sets i 0) ≡ true → size (get_or sets i 0) ≤ largest sets d
unfolding largest
largest-ge [] d i l m = absurd (omega arith)
largest-ge (s ∷ sets) d zero l m = rw m (omega arith)
largest-ge (s ∷ sets) d (suc i) l m = omega (arith, largest-ge sets d i (omega arith) m)

-- A bound on every listed set bounds it from above.
pub largest-le : (sets : List ℕ) (d b : ℕ) → ((i : ℕ) → i < length sets → size (get_or sets i 0) ≤ b) → largest sets d ≤ b
unfolding largest
largest-le [] d b h = omega arith
largest-le (s ∷ sets) d b h =
    let rest = largest-le sets d b (λ i l. h (suc i) (omega arith)) in
    let here : size s ≤ b = h 0 (omega arith) in
    cases (member d s) (λ e. rw e (omega arith)) (λ e. rw e (omega arith))

-- No listed set holds d.
abbrev pub Unheld : List ℕ → ℕ → Type 0
Unheld sets d = (i : ℕ) → i < length sets → member d (get_or sets i 0) ≡ false

-- A listed set holds d and has the largest size.
abbrev pub Reached : List ℕ → ℕ → Type 0
Reached sets d = (i : ℕ) × (i < length sets) × (member d (get_or sets i 0) ≡ true) × (size (get_or sets i 0) ≡ largest sets d)

unheld-cons : (s : ℕ) (sets : List ℕ) (d : ℕ) → member d s ≡ false → Unheld sets d → Unheld (s ∷ sets) d
unheld-cons s sets d e h zero l = e
unheld-cons s sets d e h (suc i) l = h i (omega arith)

pub largest-reached : (sets : List ℕ) (d : ℕ) → (Unheld sets d × (largest sets d ≡ 0)) ⊎ Reached sets d
unfolding largest
largest-reached [] d = inl (λ i l. absurd (omega arith), refl)
largest-reached (s ∷ sets) d =
    let rest = largest-reached sets d in
    cases (member d s)
    (λ e. inr (⊎_elim
    (λ u. (0, omega arith, e, rw e (omega (arith, u.1))))
    (λ r. let (i, l, m, q) = r in
    cases (leb (size s) (largest sets d))
    (λ b. (suc i, omega arith, m, rw e (omega (arith, leb-true (size s) (largest sets d) b))))
    (λ b. (0, omega arith, e, rw e (omega (arith, leb-false (size s) (largest sets d) b)))))
    rest))
    (λ e. ⊎_elim
    (λ u. inl (unheld-cons s sets d e u.0, rw e (omega (arith, u.1))))
    (λ r. let (i, l, m, q) = r in inr (suc i, omega arith, m, rw e (omega arith)))
    rest)

-- The members of a tolerated set that is not empty lie in a listed set.
held : (sets : List ℕ) (d a : ℕ) → tolerated sets a ≡ true → member d a ≡ true
    → (i : ℕ) × (i < length sets) × (within a (get_or sets i 0) ≡ true)
held sets d a t m = ⊎_elim (λ z. clash (rw z at m) (member-empty d)) (λ w. w) (tolerated-listed sets a t)

-- No tolerated set that holds the dealer is larger than H - 1.
pub height-most : (p : Plan) (a : ℕ) → tolerated (listed p) a ≡ true → member p.dealer a ≡ true → size a + 1 ≤ height p
unfolding height size
height-most p a t m =
    let (i, l, w) = held (listed p) p.dealer a t m in
    let s = get_or (listed p) i 0 in
    let le = count-mono (λ q. member q a) (λ q. member q s) 8 (λ q _ x. within-member a s w q x) in
    omega (arith, largest-ge (listed p) p.dealer i l (within-member a s w p.dealer m))

-- One has that size, or none holds the dealer and H is 1.
pub height-reached : (p : Plan)
    → ((height p ≡ 1) × ((a : ℕ) → tolerated (listed p) a ≡ true → member p.dealer a ≡ false))
    ⊎ ((a : ℕ) × (tolerated (listed p) a ≡ true) × (member p.dealer a ≡ true) × (height p ≡ size a + 1))
unfolding height
height-reached p =
    let sets = listed p in
    let d = p.dealer in
    ⊎_elim
    (λ u. inl (omega (arith, u.1), λ a t. is_false (member d a) (λ m. let (i, l, w) = held sets d a t m in clash (within-member a (get_or sets i 0) w d m) (u.0 i l))))
    (λ r. let (i, l, m, q) = r in
    inr (get_or sets i 0, listed-tolerated sets (get_or sets i 0) i l (within-refl (get_or sets i 0)), m, omega (arith, q)))
    (largest-reached sets d)

-- A set of an admitted list lacks a board.
pub set-small : (n count : ℕ) (sets : List ℕ) → Admitted n count sets → (i : ℕ) → i < length sets → size (get_or sets i 0) < n
unfolding strays covered
set-small n count sets a i l =
    let s = get_or sets i 0 in
    let inside : within s (boards n) ≡ true = not_f (within s (boards n)) (any_false (λ i. not (within (get_or sets i 0) (boards n))) (length sets) a.names i l) in
    let sized = size-count n s (within-boards n s inside) (let h = a.most-boards in omega arith) in
    cases (any (λ q. not (member q s)) n)
    (λ e. let (q, lq, out) = any-true (λ q. not (member q s)) n e in
    let less = count-more (λ q. member q s) (λ q. true) n (λ _ _ _. refl) q lq (not_t (member q s) out) refl in
    omega (arith, count-all (λ q. true) n (λ _ _. refl)))
    (λ e. let (t, u, f) = found_of n sets i i i (omega arith) (omega arith) l
    (λ q lq. or_left (member q s) (member q s || member q s) (not_f (member q s) (any_false (λ q. not (member q s)) n e q lq))) in
    clash (lt-ltb (first_place n sets) (length sets) (omega arith)) a.gap)

-- H is at most n for an accepted plan.
pub height-le : (p : Plan) → (judged p).number ≡ 0 → height p ≤ p.n
unfolding judged height
height-le p e =
    let a = (accepted p.n p.count (listed p) (settings_of p) e).admission in
    let small : largest (listed p) p.dealer ≤ p.n - 1 =
    largest-le (listed p) p.dealer (p.n - 1) (λ i l. let h = set-small p.n p.count (listed p) a i l in omega arith) in
    omega (arith, a.some-board)
