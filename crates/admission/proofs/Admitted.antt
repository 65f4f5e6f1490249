-- What an admitted list of sets meets.
-- Assumes nothing.
use Prim.Native.Nat.{ℕ, ◌≤◌, ◌<◌}
use mathlib.Core.Path.{◌≡◌}
use mathlib.Core.Logic.{◌≢◌}
use mathlib.Core.Bool.{false, ◌||◌}
use mathlib.Core.List.{List}
use native.Mathlib.Omega.{arith}
use lib.Dec.{eqb, ltb}
use borrow.Author.Tests.{eqb-false, ltb-false}
use Rattle.admission.specs.Calls.{strays}
use Rattle.covering.specs.Cover.{covered, places}
use Rattle.refusals.specs.Outcome.{refused, refused_at}
use Rattle.covering.specs.Cover.{covering}
use Rattle.admission.specs.Calls.{admitting}
use Rattle.sets.proofs.Tests.{or_l, or_r}
use Rattle.refusals.proofs.Outcomes.{passed}

-- What admitted sets meet.
pub record Admitted (n count : ℕ) (sets : List ℕ) : Type 0 where
  pub some-board : 0 < n
  pub most-boards : n ≤ 7
  pub most-sets : count ≤ 32
  pub names : strays n sets ≡ false
  pub gap : covered n sets ≡ false

pub admitted : (n count : ℕ) (sets : List ℕ) → (admitting n count sets).number ≡ 0 → Admitted n count sets
unfolding admitting covering
admitted n count sets e =
    let (p1, e1) = passed (eqb n 0 || ltb 7 n) (refused 1) _ (omega arith) e in
    let (p3, e3) = passed (ltb 32 count) (refused 3) _ (omega arith) e1 in
    let (p4, e4) = passed (strays n sets) (refused 4) _ (omega arith) e3 in
    let (p5, e5) = passed (covered n sets) (refused_at (places n sets)) _ (omega arith) e4 in
    record {
      some-board = let z : n ≢ 0 = eqb-false n 0 (or_l (eqb n 0) (ltb 7 n) p1) in omega arith;
      most-boards = ltb-false 7 n (or_r (eqb n 0) (ltb 7 n) p1);
      most-sets = ltb-false 32 count p3;
      names = p4;
      gap = p5;
    }
