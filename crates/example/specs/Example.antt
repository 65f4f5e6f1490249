-- One fair list of calls: board 3 lies, calls are turned down, and boards 1 and 2 stand in different rounds on the way.
use Rattle.std.specs.Prelude.{cond, List, [], ◌∷◌, ◌++◌, eqb, replicate}
use Rattle.codec.specs.Codec.{two}
use Rattle.refusals.specs.Outcome.{Outcome, taken, refused}
use Rattle.plan.specs.Calls.{plan_on}
use Rattle.protocol.specs.Session.{Setting}
use Rattle.agreement.specs.Lists.{Call, receives, sends, closes, decides, caller, answers, World, after_one}

-- n = 4, the sets of one board each, span 300, dealer 0 with 261 (0105), F = {3}. Boards 1 and 2 have records; board 2 lent one cell too many.
unfoldable pub example_setting : Setting
example_setting = record {
  width = two;
  plan = plan_on 4 (1 ∷ 2 ∷ 4 ∷ 8 ∷ []) (record { dealer = 0; span = 300; default = 9; depth = 0 });
  faulty = 8;
  word = 261;
  buffer = λ i. replicate (cond (eqb i 2) 17 16) 7;
}

-- Up to here board 1 has closed round 1, and has the liar's frame for round 2, FFFF; board 2 still waits for the dealer's.
unfoldable pub example_ahead : List Call
example_ahead =
    decides 1
    ∷ receives 1 0 (1 ∷ 5 ∷ [])
    ∷ receives 1 0 (1 ∷ 7 ∷ [])
    ∷ closes 1
    ∷ receives 1 3 (255 ∷ 255 ∷ [])
    ∷ sends 1 (7 ∷ 7 ∷ 7 ∷ 7 ∷ [])
    ∷ sends 2 []
    ∷ []

-- From here board 2 catches up; the liar's second frame has an odd length.
unfoldable pub example_rest : List Call
example_rest =
    receives 2 0 (1 ∷ 5 ∷ [])
    ∷ closes 2
    ∷ receives 2 1 (1 ∷ 5 ∷ [])
    ∷ sends 2 (7 ∷ [])
    ∷ sends 2 (7 ∷ 7 ∷ [])
    ∷ receives 1 2 (1 ∷ 5 ∷ [])
    ∷ receives 1 9 []
    ∷ closes 1
    ∷ closes 1
    ∷ receives 2 3 (1 ∷ 5 ∷ 7 ∷ [])
    ∷ closes 2
    ∷ decides 1
    ∷ decides 2
    ∷ []

unfoldable pub example_calls : List Call
example_calls = example_ahead ++ example_rest

-- What the calls of a list answer, when the boards stand at w.
unfoldable pub said : World → List Call → List Outcome
said w [] = []
said w (c ∷ cs) = answers c (w (caller c)) ∷ said (after_one w c) cs

-- What the calls of this one answer: six are turned down.
unfoldable pub example_answers : List Outcome
example_answers =
    refused 19
    ∷ taken []
    ∷ refused 15
    ∷ taken (1 ∷ 2 ∷ [])
    ∷ taken []
    ∷ taken (2 ∷ [])
    ∷ refused 16
    -- from here the rest
    ∷ taken []
    ∷ taken (1 ∷ 2 ∷ [])
    ∷ taken []
    ∷ refused 17
    ∷ taken (2 ∷ [])
    ∷ taken []
    ∷ refused 14
    ∷ taken []
    ∷ refused 13
    ∷ taken []
    ∷ taken []
    ∷ taken (261 ∷ [])
    ∷ taken (261 ∷ [])
    ∷ []
