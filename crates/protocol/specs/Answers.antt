-- What each answer says in the terms of 01: its number, 0 for a call that is taken, and the values beside it; and the
-- record that a call leaves where it answers with one.
use Rattle.std.specs.Prelude.{ℕ, List, [], ◌∷◌, Result, Ok, Err}
use Rattle.refusals.specs.Outcome.{Outcome, taken, refusal}
use Rattle.refusals.specs.declared.refusal.Refusal.{Refusal}
use Rattle.protocol.specs.declared.records.Record.{Record}
use Rattle.protocol.specs.declared.answers.Closing.{Closing}
use Rattle.protocol.specs.declared.answers.Closing.TheVariants as C
use Rattle.protocol.specs.declared.answers.Closed.{Closed}
use Rattle.protocol.specs.declared.answers.Refused.{Refused}
use Rattle.protocol.specs.Calls.{void_record}

-- Beginning a board: nothing beside the number; the record that it leaves, the void record where it is refused.
unfoldable pub begun_says : Result Record Refusal → Outcome
begun_says (Ok r) = taken []
begun_says (Err why) = refusal why

unfoldable pub begun_record : Result Record Refusal → Record
begun_record (Ok r) = r
begun_record (Err why) = void_record

-- The dealer's frame: its two bytes. 02 g: "written high byte first".
unfoldable pub dealt_says : Result (List ℕ) Refusal → Outcome
dealt_says (Ok bytes) = taken bytes
dealt_says (Err why) = refusal why

-- Writing a frame: its length in bytes.
unfoldable pub sent_says : Result ℕ Refusal → Outcome
sent_says (Ok k) = taken (k ∷ [])
sent_says (Err why) = refusal why

-- Closing a round: the run and the round that are open now, or nothing if the board has decided.
unfoldable pub open_says : Closing → Outcome
open_says (C.Next t k) = taken (t.0 ∷ k.0 ∷ [])
open_says C.Decided = taken []

unfoldable pub closing_says : Result Closing Refusal → Outcome
closing_says (Ok closing) = open_says closing
closing_says (Err why) = refusal why

-- The same by value, with the record that it leaves: as it came where it is refused.
unfoldable pub closed_says : Result Closed Refusal → Outcome
closed_says (Ok closed) = open_says closed.closing
closed_says (Err why) = refusal why

unfoldable pub closed_record : Record → Result Closed Refusal → Record
closed_record r (Ok closed) = closed.rec
closed_record r (Err why) = r

-- Reading the decision.
unfoldable pub decision_says : Result ℕ Refusal → Outcome
decision_says (Ok v) = taken (v ∷ [])
decision_says (Err why) = refusal why

-- Playing a sheet: the bytes written; for a refusal its line before its values.
unfoldable pub played_says : Result ℕ Refused → Outcome
played_says (Ok k) = taken (k ∷ [])
played_says (Err r) = record { number = (refusal r.why).number; values = r.line ∷ (refusal r.why).values }
