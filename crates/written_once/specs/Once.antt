-- 02 d: "An entry is written once and not altered later in the session." Claimed of every list of calls on a board that was begun, fair or not.
use Rattle.std.specs.Prelude.{ℕ, ◌≡◌, List}
use Rattle.schedule.specs.declared.rounds.Run.{Run}
use Rattle.schedule.specs.declared.rounds.Round.{Round}
use Rattle.protocol.specs.declared.records.Rule.{Rule}
use Rattle.protocol.specs.declared.records.Entry.TheVariants as Entry
use Rattle.protocol.specs.Listing.{entry_at}
use Rattle.protocol.specs.Calls.{beginning}
use Rattle.protocol.specs.Entries.{Names}
use Rattle.protocol.specs.Session.{Setting}
use Rattle.agreement.specs.Lists.{Call, closes, state, Prefix, Stands, Taken, list, list_after}

-- The closing of board i that wrote the entry of board q: it stands in the list and was taken, board q had none before it and has this one as it
-- left the list, and the entry names the run and the round that it closed.
pub record WrittenBy (s : Setting) (calls : List Call) (i q : ℕ) (run : Run) (round : Round) (rule : Rule) : Type 0 where
  pub before : List Call
  pub stands : Stands (closes i) before calls
  pub taken : Taken s (closes i) before
  pub none : entry_at (list_after s before i) q ≡ Entry.Nothing
  pub wrote : entry_at (list s i before) q ≡ Entry.Listed run round rule
  pub names : Names (state s before i).rec run round rule

-- The list of board i, after the calls.
pub record WrittenOnce (s : Setting) (calls : List Call) (i : ℕ) : Type 0 where
  -- an entry that stands after a prefix stands unaltered after the list
  pub stays : (before : List Call) → Prefix before calls → (q : ℕ) (run : Run) (round : Round) (rule : Rule)
      → entry_at (list_after s before i) q ≡ Entry.Listed run round rule → entry_at (list_after s calls i) q ≡ Entry.Listed run round rule
  -- every entry was written by a closing
  pub written : (q : ℕ) (run : Run) (round : Round) (rule : Rule) → entry_at (list_after s calls i) q ≡ Entry.Listed run round rule
      → WrittenBy s calls i q run round rule

-- For every board i that was begun.
abbrev pub EntriesOnce : Type 0
EntriesOnce = (s : Setting) (calls : List Call) (i : ℕ) → (beginning s.width s.plan i (s.buffer i)).answer.number ≡ 0 → WrittenOnce s calls i
