-- What the dealer's frame is where its plan and its value are taken.
-- Assumes nothing.
use Rattle.std.proofs.Common.{ℕ, ◌≡◌, refl, sym, ◌∙◌, ap, cond, [], ◌∷◌, leb, ◌/◌, ◌%◌, arith}
use Rattle.codec.specs.Codec.{current, encode}
use Rattle.sets.proofs.Tests.{cases}
use Rattle.plan.specs.declared.plan.Plan.{Plan}
use Rattle.refusals.specs.Outcome.{Outcome, taken, refused}
use Rattle.plan.specs.Calls.{judged}
use Rattle.refusals.proofs.Outcomes.{taken-first}
use Rattle.protocol.specs.Calls.{dealing}

pub deal-taken : (p : Plan) (v : ℕ) → (judged p).number ≡ 0 → taken [] ≡ cond (leb p.span v) (refused 18) (taken [])
    → taken (v / 256 ∷ v % 256 ∷ []) ≡ dealing current p v
unfolding dealing encode
deal-taken p v g e =
    cases (leb p.span v)
    (λ h. absurd (let w : taken [] ≡ refused 18 = e ∙ rw h refl in let n : 0 ≡ 18 = ap (λ (o : Outcome). o.number) w in omega arith))
    (λ h. sym (taken-first (judged p) _ g ∙ rw h refl))
