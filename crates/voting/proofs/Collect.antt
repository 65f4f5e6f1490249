-- What is collected lies below 2 ^ n.
-- Assumes nothing.
use Prim.Native.Nat.{ℕ, ◌^◌, ◌<◌}
use mathlib.Core.Path.{◌≡◌}
use mathlib.Core.List.{List}
use Rattle.sets.proofs.Member.{set_of-below}
use Rattle.voting.specs.Tables.{agreeing, dissenting}

pub agreeing-below : (n s v x : ℕ) (values : List ℕ) → x ≡ agreeing n s values v → x < 2 ^ n
unfolding agreeing
agreeing-below n s v x values e = rw e (set_of-below _ n)

pub dissenting-below : (n s v list x : ℕ) (values : List ℕ) → x ≡ dissenting n s values v list → x < 2 ^ n
unfolding dissenting
dissenting-below n s v list x values e = rw e (set_of-below _ n)
