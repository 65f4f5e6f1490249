-- A fair list of calls on a cut tree, in one-byte values: the dealer lies, and the two boards outside F hold one root after run 1; in run 2
-- other boards of F lie, and one of the two closes it.
use Rattle.std.specs.Prelude.{ℕ, cond, List, [], ◌∷◌, eqb, replicate, take}
use Rattle.codec.specs.Codec.{one}
use Rattle.plan.specs.Calls.{plan_on}
use Rattle.protocol.specs.Session.{Setting}
use Rattle.agreement.specs.Lists.{Call, receives, sends, closes}

-- n = 5, the set {0, 1, 2, 3}, dealer 0, values below 16 in one byte, depth 4. F = {0, 1, 2} has the dealer; boards 3 and 4 have records.
unfoldable pub stays_setting : Setting
stays_setting = record {
  width = one;
  plan = plan_on 5 (15 ∷ []) (record { dealer = 0; span = 16; default = 0; depth = 4 });
  faulty = 7;
  word = 0;
  buffer = λ _. replicate 65 0;
}

unfoldable pub stays_calls : List Call
stays_calls =
    -- round 1
    receives 3 0 (5 ∷ [])
    ∷ receives 4 0 (7 ∷ [])
    ∷ closes 3
    ∷ closes 4
    -- round 2
    ∷ sends 3 (replicate 6 0)
    ∷ sends 4 (replicate 6 0)
    ∷ receives 3 1 (5 ∷ [])
    ∷ receives 4 2 (5 ∷ [])
    ∷ receives 3 4 (7 ∷ [])
    ∷ receives 4 3 (5 ∷ [])
    ∷ closes 3
    ∷ closes 4
    -- round 3
    ∷ sends 3 (replicate 6 0)
    ∷ sends 4 (replicate 6 0)
    ∷ receives 3 4 (0 ∷ 5 ∷ 5 ∷ [])
    ∷ receives 4 3 (5 ∷ 0 ∷ [])
    ∷ closes 3
    ∷ closes 4
    -- round 4, the last of run 1
    ∷ sends 3 (replicate 6 0)
    ∷ sends 4 (replicate 6 0)
    ∷ receives 3 4 (0 ∷ 5 ∷ 0 ∷ 0 ∷ 0 ∷ 0 ∷ [])
    ∷ receives 4 3 (0 ∷ 0 ∷ [])
    ∷ closes 3
    ∷ closes 4
    -- run 2, round 2: boards 1 and 2 tell board 4 another root
    ∷ sends 3 (replicate 6 0)
    ∷ sends 4 (replicate 6 0)
    ∷ receives 4 1 (9 ∷ [])
    ∷ receives 4 2 (9 ∷ [])
    ∷ receives 3 4 (7 ∷ [])
    ∷ receives 4 3 (7 ∷ [])
    ∷ closes 3
    ∷ closes 4
    -- round 3
    ∷ sends 3 (replicate 6 0)
    ∷ sends 4 (replicate 6 0)
    ∷ receives 3 4 (9 ∷ 9 ∷ 7 ∷ [])
    ∷ receives 4 3 (0 ∷ 0 ∷ [])
    ∷ closes 3
    ∷ closes 4
    -- round 4, which board 3 does not close
    ∷ sends 3 (replicate 6 0)
    ∷ receives 4 3 (0 ∷ 0 ∷ [])
    ∷ closes 4
    ∷ []

-- The calls before each board's closing of run 1, and before board 4's of run 2.
unfoldable pub stays_before : ℕ → List Call
stays_before i = take (cond (eqb i 3) 22 23) stays_calls

unfoldable pub stays_later : List Call
stays_later = take 40 stays_calls
