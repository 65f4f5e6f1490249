-- What writing a frame leaves, on an open board. A middle layer: numbers 16 and 17 of the calls.
use Rattle.std.specs.Prelude.{ℕ, ◌≡◌, cond, List, [], ◌∷◌, ◌++◌, ltb, length, drop}
use Rattle.codec.specs.Codec.{current, encode}
use Rattle.sets.specs.Search.{any}
use Rattle.plan.specs.declared.plan.Plan.{Plan}
use Rattle.schedule.specs.declared.rounds.Round.{Round}
use Rattle.refusals.specs.Outcome.{Outcome, taken, refused}
use Rattle.protocol.specs.Nodes.{due, frame}
use Rattle.protocol.specs.Calls.{is_taken}

-- The bytes of the frame of board i.
abbrev pub wire : Plan → ℕ → Round → List ℕ → List ℕ
wire p i k cells = encode current (frame p i i k cells)

-- The frame of board i: 16 if it is due to nobody, 17 if it does not fit; else it is written.
pub record Writes (p : Plan) (i : ℕ) (k : Round) (cells before : List ℕ) (o : Outcome) (after : List ℕ) : Type 0 where
  pub answer : o
      ≡ cond (any (λ j. due p i j k) p.n)
      (cond (ltb (length before) (length (wire p i k cells))) (refused 17) (taken (length (wire p i k cells) ∷ [])))
      (refused 16)
  pub out : after ≡ cond (is_taken o) (wire p i k cells ++ drop (length (wire p i k cells)) before) before
