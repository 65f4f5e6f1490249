-- Tolerated sets, given by tests of boards: smaller sets are tolerated too, no three cover all boards, and the boards of a label.
-- Assumes nothing.
use Prim.Native.Nat.{suc, ◌<◌, zero, ℕ}
use mathlib.Core.Path.{◌≡◌, refl, sym, ◌∙◌}
use mathlib.Core.Bool.{Bool, true, false}
use native.Mathlib.Omega.{arith}
use lib.Dec.{ltb}
use borrow.Author.Tests.{lt-ltb}
use Rattle.sets.specs.Sets.{member, set_of}
use Rattle.sets.specs.Structure.{tolerated}
use Rattle.sets.proofs.Tests.{clash, is_false, and_r, and-true, same_test}
use Rattle.sets.proofs.Member.{member-set_of, set_of-below}
use Rattle.sets.proofs.Tolerated.{tolerated-mono}
use Rattle.admission.proofs.ThreeCover.{q3}
use Rattle.plan.specs.declared.plan.Plan.{Plan}
use Rattle.plan.specs.Calls.{judged}
use Rattle.plan.specs.Listed.{listed}
use Rattle.tree.specs.Labels.{Label, mask, occurs}
use Rattle.tree.proofs.Masks.{mask-member, mask_lt}
use Rattle.protocol.proofs.Judgement.{plan-facts}

-- Is the set of boards below n that pass the test tolerated?
unfoldable pub tol : Plan → (ℕ → Bool) → Bool
tol p s = tolerated (listed p) (set_of s p.n)

pub tol-mono : (p : Plan) (s t : ℕ → Bool) → ((i : ℕ) → i < p.n → s i ≡ true → t i ≡ true) → tol p t ≡ true → tol p s ≡ true
unfolding tol
tol-mono p s t h e =
    tolerated-mono (listed p) p.n (set_of s p.n) (set_of t p.n) (set_of-below s p.n)
    (λ i l m. let z : s i ≡ true = and_r (ltb i p.n) (s i) (sym (member-set_of s p.n i) ∙ m) in
    member-set_of t p.n i ∙ and-true (ltb i p.n) (t i) (lt-ltb i p.n l) (h i l z))
    e

-- Sets of boards that pass the same tests are equal.
pub set_of-same : (f g : ℕ → Bool) (n : ℕ) → ((i : ℕ) → i < n → f i ≡ g i) → set_of f n ≡ set_of g n
unfolding set_of
set_of-same f g zero h = refl
set_of-same f g (suc k) h = rw (h k (omega arith), set_of-same f g k (λ i l. h i (omega arith)))

-- Q3, for tests.
pub tol-q3 : (p : Plan) → (judged p).number ≡ 0 → (a b c : ℕ → Bool) → tol p a ≡ true → tol p b ≡ true → tol p c ≡ true
    → (i : ℕ) × (i < p.n) × (a i ≡ false) × (b i ≡ false) × (c i ≡ false)
unfolding tol
tol-q3 p e a b c ta tb tc =
    let f = (plan-facts p e).admission in
    let (q, l, x, y, z) = q3 p.n (listed p) f.some-board f.gap (set_of a p.n) (set_of b p.n) (set_of c p.n) ta tb tc in
    (q, l, out a q l x, out b q l y, out c q l z)
  where
    out : (s : ℕ → Bool) (q : ℕ) → q < p.n → member q (set_of s p.n) ≡ false → s q ≡ false
    out s q l m = is_false (s q) (λ t. clash (member-set_of s p.n q ∙ and-true (ltb q p.n) (s q) (lt-ltb q p.n l) t) m)

-- The boards of a label, as a set and as a test.
pub tol-path : (p : Plan) (α : Label) → ((i : ℕ) → occurs i α ≡ true → i < p.n) → tol p (λ i. occurs i α) ≡ tolerated (listed p) (mask α)
unfolding tol
tol-path p α h =
    let s = set_of (λ i. occurs i α) p.n in
    same_test (tolerated (listed p) s) (tolerated (listed p) (mask α))
    (λ t. tolerated-mono (listed p) p.n (mask α) s (mask_lt p.n α h)
    (λ i l m. member-set_of (λ i. occurs i α) p.n i ∙ and-true (ltb i p.n) (occurs i α) (lt-ltb i p.n l) (sym (mask-member i α) ∙ m)) t)
    (λ t. tolerated-mono (listed p) p.n s (mask α) (set_of-below (λ i. occurs i α) p.n)
    (λ i l m. mask-member i α ∙ and_r (ltb i p.n) (occurs i α) (sym (member-set_of (λ i. occurs i α) p.n i) ∙ m)) t)
