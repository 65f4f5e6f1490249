use Rattle.std.proofs.Common.{◌≡◌, ℕ, Bool, ◌<◌}
use Rattle.sets.specs.Sets.{set_of}
use Rattle.sets.proofs.choosing.set_of.Given as goal

abbrev pub invariant-loop-c : goal.invariant-loop-c
invariant-loop-c g l = (p : ℕ → Bool) → ((c : ℕ) (b : Bool) → c < l.n → goal.F-post g l.passes c b → b ≡ p c) → l.set ≡ set_of p l.c
