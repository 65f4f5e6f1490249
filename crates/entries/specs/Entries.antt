-- The entries of a list by the last run and the last round of a plan: a middle layer, tied to `good_entries` of protocol/Calls by proofs/Good.
use Rattle.std.specs.Prelude.{Bool, true, not, ◌&&◌, List, ltb}
use Rattle.sets.specs.Search.{any}
use Rattle.schedule.specs.declared.rounds.Run.{Run}
use Rattle.schedule.specs.declared.rounds.Round.{Round}
use Rattle.positions.specs.Positions.{is_round}
use Rattle.protocol.specs.declared.records.Entry.{Entry}
use Rattle.protocol.specs.declared.records.Slot.{Slot}
use Rattle.protocol.specs.Listing.{entry_at, level_of}

-- May a record have this entry, where the last run and the last round are these?
unfoldable pub is_good_entry : Run → Round → Entry → Bool
is_good_entry last end Entry.Nothing = true
is_good_entry last end (Entry.Listed t k rule) = is_round last end t k && (ltb 0 (level_of rule) && ltb (level_of rule) end.0)

-- May it have this list?
unfoldable pub are_good_entries : Run → Round → List Slot → Bool
are_good_entries last end list = not (any (λ i. not (is_good_entry last end (entry_at list i))) 7)
