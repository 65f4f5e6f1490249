-- What a round before the last of its run asks. A middle layer: a good record is `good_record` of protocol/Calls.
use Rattle.std.specs.Prelude.{◌<◌, ◌≡◌, true}
use Rattle.schedule.specs.Schedule.{rounds}
use Rattle.protocol.specs.declared.records.Record.{Record}
use Rattle.protocol.specs.Calls.{good_record}

-- A good record in a round before the last.
pub record GoesOn (r : Record) : Type 0 where
  pub good : good_record r ≡ true
  pub before_last : r.round.0 < (rounds r.plan).0
