-- What closing a round asks. A middle layer: a good record is `good_record` of protocol/Calls.
use Rattle.std.specs.Prelude.{ℕ, ◌≤◌, ◌≡◌, true, List, length}
use Rattle.tree.specs.Places.{cell_count}
use Rattle.protocol.specs.declared.records.Record.{Record}
use Rattle.protocol.specs.Calls.{good_record}

-- A good record, with cells enough.
pub record Closable (r : Record) (cells : List ℕ) : Type 0 where
  pub good : good_record r ≡ true
  pub enough : cell_count r.plan.n ≤ length cells
