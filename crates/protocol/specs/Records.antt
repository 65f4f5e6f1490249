-- The records that the calls make, one definition each.
use Rattle.std.specs.Prelude.{ℕ, ◌+◌, false, cond, List, eqb}
use Rattle.sets.specs.Sets.{insert}
use Rattle.plan.specs.declared.plan.Plan.{Plan}
use Rattle.schedule.specs.declared.rounds.Run.{Run}
use Rattle.schedule.specs.declared.rounds.Round.{Round}
use Rattle.schedule.specs.Schedule.{runs}
use Rattle.protocol.specs.declared.records.Slot.{Slot}
use Rattle.protocol.specs.declared.records.Record.{Record}

-- A board that stands open in a run and a round, with a list, and nothing marked.
abbrev pub standing_at : Plan → ℕ → Run → Round → List Slot → Record
standing_at p i t k list = record {
  plan = p;
  board = i;
  run = t;
  round = k;
  list = list;
  marks = 0;
  decided = false;
  decision = 0;
}

-- A record with other marks.
abbrev pub with_marks : Record → ℕ → Record
with_marks r t = record {
  plan = r.plan;
  board = r.board;
  run = r.run;
  round = r.round;
  list = r.list;
  marks = t;
  decided = r.decided;
  decision = r.decision;
}

-- A frame of board q was taken.
abbrev pub marked : ℕ → Record → Record
marked q r = with_marks r (insert q r.marks)

-- The next round of the same run.
abbrev pub advanced : Record → List Slot → Record
advanced r list = standing_at r.plan r.board r.run (record { 0 = r.round.0 + 1 }) list

-- 01: "L stays. Then comes round 2 of the next run, or the decision, which is the root."
unfoldable pub run_ended : Record → List Slot → ℕ → Record
run_ended r list root =
    let last = eqb r.run.0 (runs r.plan).0 in
    record {
      plan = r.plan;
      board = r.board;
      run = record { 0 = cond last r.run.0 (r.run.0 + 1) };
      round = record { 0 = cond last r.round.0 2 };
      list = list;
      marks = 0;
      decided = last;
      decision = cond last root 0;
    }
