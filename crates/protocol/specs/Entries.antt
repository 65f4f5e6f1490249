-- What a closing writes into the list: claimed of every closing of a good record with seven slots, by proofs/Entries.
use Rattle.std.specs.Prelude.{ℕ, suc, ◌≤◌, ◌<◌, ◌≡◌, List}
use Rattle.schedule.specs.declared.rounds.Run.{Run}
use Rattle.schedule.specs.declared.rounds.Round.{Round}
use Rattle.schedule.specs.Schedule.{rounds}
use Rattle.protocol.specs.declared.records.Rule.{Rule}
use Rattle.protocol.specs.declared.records.Entry.TheVariants as Entry
use Rattle.protocol.specs.declared.records.Slot.{Slot}
use Rattle.protocol.specs.declared.records.Record.{Record}
use Rattle.protocol.specs.Listing.{entry_at, level_of}

-- An entry that names the closing of the round in which the record stands: its run and its round. By rule G the level is the round − 1; by rule C
-- the round is R; the level is 1 to R − 1. That it is the node's is said by `detect_g` and `detect_c` (Detection).
pub record Names (r : Record) (run : Run) (round : Round) (rule : Rule) : Type 0 where
  pub run-closed : run ≡ r.run
  pub round-closed : round ≡ r.round
  pub by-G : (level : ℕ) → rule ≡ Rule.G level → suc level ≡ r.round.0
  pub by-C : (level : ℕ) → rule ≡ Rule.C level → r.round.0 ≡ (rounds r.plan).0
  pub level-low : 1 ≤ level_of rule
  pub level-high : level_of rule < (rounds r.plan).0

-- A closing that leaves the list `after`. 02 d: "An entry is written once and not altered later"; a new one names the closing.
pub record Writes (r : Record) (after : List Slot) : Type 0 where
  pub stays : (q : ℕ) (run : Run) (round : Round) (rule : Rule) → entry_at r.list q ≡ Entry.Listed run round rule
      → entry_at after q ≡ Entry.Listed run round rule
  pub new : (q : ℕ) (run : Run) (round : Round) (rule : Rule) → entry_at r.list q ≡ Entry.Nothing
      → entry_at after q ≡ Entry.Listed run round rule → Names r run round rule
