-- A board's list of the boards that it has detected to be faulty: a slot for each of seven boards. 02 d: "The record keeps for each board either
-- nothing, or run, round and rule, where the rule is G with the node's level or C with the node's level." The rules touch it only by joining, and
-- by reading it as a set.
use Rattle.std.specs.Prelude.{ℕ, Bool, true, false, cond, List, eqb, get_or, replicate}
use Rattle.sets.specs.Sets.{set_of}
use Rattle.sets.specs.Tabulate.{tabulate}
use Rattle.schedule.specs.declared.rounds.Run.{Run}
use Rattle.schedule.specs.declared.rounds.Round.{Round}
use Rattle.protocol.specs.declared.records.Rule.{Rule}
use Rattle.protocol.specs.declared.records.Entry.{Entry}
use Rattle.protocol.specs.declared.records.Slot.{Slot}

-- The slot of a board that is not listed, and the list that names nobody.
abbrev pub unlisted : Slot
unlisted = record { entry = Entry.Nothing }

abbrev pub no_entries : List Slot
no_entries = replicate 7 unlisted

-- What the list keeps of a board.
unfoldable pub entry_at : List Slot → ℕ → Entry
entry_at list r = (get_or list r unlisted).entry

unfoldable pub has_entry : Entry → Bool
has_entry Entry.Nothing = false
has_entry (Entry.Listed run round rule) = true

-- The level of the node at which a rule listed a board.
unfoldable pub level_of : Rule → ℕ
level_of (Rule.G level) = level
level_of (Rule.C level) = level

-- A board joins the list of a board that closes a round of a run, by a rule: it has an entry, and the others keep what they have.
unfoldable pub join : ℕ → Run → Round → Rule → List Slot → List Slot
join board run round rule list =
    let joined : Slot = record { entry = Entry.Listed run round rule } in
    tabulate (λ r. cond (eqb r board) joined (get_or list r unlisted)) 0 7

-- 02 d: "The list as a set is the boards that have an entry."
unfoldable pub as_set : List Slot → ℕ
as_set list = set_of (λ r. has_entry (entry_at list r)) 7
