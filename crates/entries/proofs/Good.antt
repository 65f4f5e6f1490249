-- All entries of a list, and that `good_entries` asks for these of the plan.
-- Assumes nothing.
use Prim.Native.Nat.{ℕ}
use mathlib.Core.Path.{◌≡◌, refl, ap}
use mathlib.Core.Bool.{Bool, true, not, ◌&&◌}
use mathlib.Core.List.{List}
use native.Mathlib.Omega.{arith}
use lib.Dec.{ltb}
use lib.ListN.{length}
use Rattle.sets.specs.Search.{any}
use Rattle.sets.proofs.Tests.{clash, is_false, true-not, not_t, not_f, same_test}
use Rattle.std.specs.List.{list_all}
use Rattle.std.proofs.lemmas.List.Elements.{All-get_or, All-from_get_or}
use Rattle.std.proofs.lemmas.List.Sums.{AllPass-from_list_all, list_all-from_AllPass}
use Rattle.sets.proofs.Search.{any-true, any_false, any_same}
use Rattle.schedule.specs.declared.rounds.Run.{Run}
use Rattle.schedule.specs.declared.rounds.Round.{Round}
use Rattle.schedule.specs.Schedule.{rounds, runs}
use Rattle.positions.proofs.HasRound.{plan-round}
use Rattle.plan.specs.declared.plan.Plan.{Plan}
use Rattle.protocol.specs.declared.records.Entry.{Entry}
use Rattle.protocol.specs.declared.records.Slot.{Slot}
use Rattle.protocol.specs.declared.records.Record.{Record}
use Rattle.protocol.specs.Listing.{entry_at, unlisted, level_of}
use Rattle.protocol.specs.Calls.{good_entry, good_entries}
use Rattle.entries.specs.Entries.{is_good_entry, are_good_entries}

module _ (last : Run) (end : Round) where
  abbrev pub good : Slot → Bool
  good s = is_good_entry last end s.entry

  pub good-all : (list : List Slot) → length list ≡ 7 → list_all good list ≡ are_good_entries last end list
  unfolding are_good_entries entry_at
  good-all list seven =
      let bad : ℕ → Bool = λ i. not (is_good_entry last end (entry_at list i)) in
      same_test (list_all good list) (not (any bad 7))
      (λ t. true-not (any bad 7) (is_false (any bad 7) (λ e. let (i, l, u) = any-true bad 7 e in
      clash (All-get_or (λ s. good s ≡ true) list i unlisted (omega arith) (AllPass-from_list_all good list t)) (not_t _ u))))
      (λ t. list_all-from_AllPass good list
      (All-from_get_or (λ s. good s ≡ true) list unlisted (λ i l. not_f _ (any_false bad 7 (not_t (any bad 7) t) i (omega arith)))))

plan-entry : (p : Plan) (e : Entry) → is_good_entry (runs p) (rounds p) e ≡ good_entry p e
unfolding is_good_entry good_entry
plan-entry p Entry.Nothing = refl
plan-entry p (Entry.Listed t k rule) = ap (λ b. b && (ltb 0 (level_of rule) && ltb (level_of rule) (rounds p).0)) (plan-round p t k)

pub plan-entries : (r : Record) → are_good_entries (runs r.plan) (rounds r.plan) r.list ≡ good_entries r
unfolding are_good_entries good_entries
plan-entries r = ap not (any_same _ _ 7 (λ i l. ap not (plan-entry r.plan (entry_at r.list i))))
