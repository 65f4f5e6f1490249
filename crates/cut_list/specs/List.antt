-- A fair list of calls on a cut tree, in one-byte values: after run 1 the roots of the two boards outside F are unequal, so the bound of
-- demand 3 speaks of it.
use Rattle.std.specs.Prelude.{ℕ, cond, List, [], ◌∷◌, eqb, replicate, take}
use Rattle.codec.specs.Codec.{one}
use Rattle.plan.specs.Calls.{plan_on}
use Rattle.protocol.specs.Session.{Setting}
use Rattle.agreement.specs.Lists.{Call, receives, sends, closes, decides}

-- n = 6, the sets {1, 3, 4, 5} and {0}, dealer 1, the values 0 and 1 in one byte, depth 4. F = {1, 3, 4, 5} has the dealer; boards 0 and 2
-- have records. Board 2 lent three cells too many.
unfoldable pub cut_setting : Setting
cut_setting = record {
  width = one;
  plan = plan_on 6 (58 ∷ 1 ∷ []) (record { dealer = 1; span = 2; default = 0; depth = 4 });
  faulty = 58;
  word = 0;
  buffer = λ i. replicate (cond (eqb i 2) 329 326) 7;
}

-- What the boards of F hand in differs from board to board, and some of it is missing. Two frames are handed in that are turned down, as
-- is a writing into no output and the reading of a decision. The last frame comes under the number of board 2, which did not write it; its
-- receiver never closes that round, so the list is fair.
unfoldable pub cut_calls : List Call
cut_calls =
    decides 0
    -- round 1
    ∷ receives 2 1 (1 ∷ [])
    ∷ closes 2
    ∷ closes 0
    -- round 2
    ∷ sends 0 (replicate 200 7)
    ∷ sends 2 (replicate 200 7)
    ∷ receives 0 5 (1 ∷ [])
    ∷ receives 0 4 (1 ∷ [])
    ∷ receives 0 3 (1 ∷ [])
    ∷ receives 0 2 (1 ∷ [])
    ∷ receives 2 4 (1 ∷ [])
    ∷ receives 2 3 (1 ∷ [])
    ∷ receives 2 0 (0 ∷ [])
    ∷ receives 0 0 (9 ∷ [])
    ∷ receives 0 2 (1 ∷ 1 ∷ 1 ∷ [])
    ∷ sends 2 []
    ∷ closes 2
    ∷ closes 0
    -- round 3
    ∷ sends 0 (replicate 200 7)
    ∷ sends 2 (replicate 200 7)
    ∷ receives 0 2 (1 ∷ 1 ∷ 0 ∷ [])
    ∷ receives 2 3 (0 ∷ 1 ∷ [])
    ∷ receives 2 0 (1 ∷ 1 ∷ 1 ∷ [])
    ∷ closes 2
    ∷ closes 0
    -- round 4, the last of run 1
    ∷ sends 0 (replicate 200 7)
    ∷ sends 2 (replicate 200 7)
    ∷ receives 0 4 (0 ∷ 1 ∷ [])
    ∷ receives 0 2 (0 ∷ 0 ∷ 0 ∷ 0 ∷ 1 ∷ 0 ∷ [])
    ∷ receives 2 0 (0 ∷ 0 ∷ 0 ∷ 0 ∷ 0 ∷ 0 ∷ [])
    ∷ closes 2
    ∷ closes 0
    -- run 2
    ∷ receives 0 2 (1 ∷ [])
    ∷ []

-- The calls before each board's closing of run 1.
unfoldable pub cut_before : ℕ → List Call
cut_before i = take (cond (eqb i 2) 30 31) cut_calls
