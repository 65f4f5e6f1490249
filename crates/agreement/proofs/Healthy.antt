-- Boards outside F: which of them keep cells, and that their lists, which lie within F, have a place, since F is tolerated.
-- Assumes nothing.
use Prim.Native.Nat.{ℕ, ◌<◌, ◌^◌}
use mathlib.Core.Path.{◌≡◌}
use mathlib.Core.Logic.{◌≢◌, ⊎_elim}
use mathlib.Core.Bool.{true, false, not, ◌&&◌}
use mathlib.Core.Option.{some}
use native.Mathlib.Omega.{arith}
use lib.Dec.{eqb, ltb}
use lib.ListN.{length, get_or}
use lib.Pow.{pow_pos}
use borrow.Author.Tests.{lt-ltb, ne_eqb}
use Rattle.sets.specs.Sets.{member, within, boards}
use Rattle.sets.specs.Structure.{holder, tolerated}
use Rattle.sets.proofs.Tests.{and-true, not_f, true-not}
use Rattle.sets.proofs.Search.{any_false}
use Rattle.sets.proofs.Member.{within-boards, within-le}
use Rattle.sets.proofs.Tolerated.{tolerated-listed, tolerated-within, tolerated-holder}
use Rattle.admission.specs.Calls.{strays}
use Rattle.plan.specs.declared.plan.Plan.{Plan}
use Rattle.plan.specs.Listed.{listed}
use Rattle.plan.specs.Calls.{judged}
use Rattle.protocol.specs.Session.{Setting, keeper, Sound}
use Rattle.protocol.proofs.Judgement.{plan-facts}

-- A tolerated set of an accepted plan names boards below n only.
pub tolerated-below : (p : Plan) → (judged p).number ≡ 0 → (F : ℕ) → tolerated (listed p) F ≡ true → F < 2 ^ p.n
unfolding strays
tolerated-below p e F t =
    let f = (plan-facts p e).admission in
    ⊎_elim
    (λ z. rw z (pow_pos p.n))
    (λ w. let (i, l, x) = w in
    let S = get_or (listed p) i 0 in
    let inside = within-boards p.n S (not_f (within S (boards p.n)) (any_false (λ i. not (within (get_or (listed p) i 0) (boards p.n))) (length (listed p)) f.names i l)) in
    omega (arith, within-le F S x))
    (tolerated-listed (listed p) F t)

module _ (s : Setting) where
  -- A board outside F that is not the dealer keeps cells.
  pub is-keeper : (i : ℕ) → i < s.plan.n → member i s.faulty ≡ false → i ≢ s.plan.dealer → keeper s i ≡ true
  unfolding keeper
  is-keeper i l out ne =
      let inside = not (member i s.faulty) in
      let other = not (eqb i s.plan.dealer) in
      and-true (ltb i s.plan.n) (inside && other) (lt-ltb i s.plan.n l)
      (and-true inside other (true-not (member i s.faulty) out) (true-not (eqb i s.plan.dealer) (ne_eqb i s.plan.dealer ne)))

  -- A list within F has a place.
  pub list-placed : (list : ℕ) → Sound s → within list s.faulty ≡ true → (k : ℕ) × (holder (listed s.plan) list ≡ some k)
  list-placed list sound w =
      let sets = listed s.plan in
      let below = tolerated-below s.plan sound.accepted s.faulty sound.tolerable in
      tolerated-holder sets list (tolerated-within sets s.plan.n list s.faulty below w sound.tolerable)
