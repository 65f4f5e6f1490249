-- What taking a frame leaves, on an open board. A middle layer: numbers 14 and 15 of the calls.
use Rattle.std.specs.Prelude.{ℕ, ◌≡◌, Bool, cond, List, []}
use Rattle.sets.specs.Sets.{member}
use Rattle.plan.specs.declared.plan.Plan.{Plan}
use Rattle.refusals.specs.Outcome.{Outcome, taken, refused}
use Rattle.tree.specs.Labels.{Label}
use Rattle.protocol.specs.declared.records.Slot.{Slot}
use Rattle.protocol.specs.Rounds.{fill, counted}
use Rattle.protocol.specs.Calls.{is_taken}

-- A frame of board q, with the values vs, for the labels αs: 14 if it is not due, 15 if one was taken; else it is stored.
pub record Takes (p : Plan) (q : ℕ) (list : List Slot) (marks : ℕ) (is_due : Bool) (αs : List Label) (vs before : List ℕ) (o : Outcome) (after : List ℕ) : Type 0 where
  pub answer : o ≡ cond is_due (cond (member q marks) (refused 15) (taken [])) (refused 14)
  pub cells : after ≡ cond (is_taken o) (fill p q αs (counted list q αs vs) before) before
