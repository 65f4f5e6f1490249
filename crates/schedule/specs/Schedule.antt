-- Rounds and runs of a plan.
use Rattle.std.specs.Prelude.{ℕ, ◌+◌, ◌-◌, ◌*◌, ◌/◌, ◌%◌, Bool, ◌&&◌, cond, eqb, leb}
use Rattle.plan.specs.declared.plan.Plan.{Plan}
use Rattle.heights.specs.Levels.{depth_of, height, is_cut}
use Rattle.schedule.specs.declared.rounds.Run.{Run}
use Rattle.schedule.specs.declared.rounds.Round.{Round}

-- 01: "R = b; else R = H". The last round of every run.
unfoldable pub rounds : Plan → Round
rounds p = record { 0 = cond (is_cut p) (depth_of p) (height p) }

-- a / b, rounded up.
unfoldable pub ceil_div : ℕ → ℕ → ℕ
ceil_div a b = (a + (b - 1)) / b

-- 01: "A cut tree is played for ⌈(n − 3) / (b − 3)⌉ + 1 runs, any other for 1." The last run.
unfoldable pub runs : Plan → Run
runs p = record { 0 = cond (is_cut p) (ceil_div (p.n - 3) (depth_of p - 3) + 1) 1 }

-- 01: "Run 1 has rounds 1 to R, later runs 2 to R."
unfoldable pub first_round : Run → Round
first_round t = record { 0 = cond (eqb t.0 1) 1 2 }

-- Does the plan have round k of run t?
unfoldable pub has_round : Plan → Run → Round → Bool
has_round p t k =
    (leb 1 t.0 && leb t.0 (runs p).0) && (leb (first_round t).0 k.0 && leb k.0 (rounds p).0)

-- The rounds over all runs.
unfoldable pub steps : Plan → ℕ
steps p = (rounds p).0 + ((runs p).0 - 1) * ((rounds p).0 - 1)

-- The rounds over all runs are numbered from 1, in order: the number of round k of run t, and back.
unfoldable pub step : Plan → Run → Round → ℕ
step p t k = (t.0 - 1) * ((rounds p).0 - 1) + k.0

unfoldable pub step_run : Plan → ℕ → Run
step_run p j = record { 0 = (j - 2) / ((rounds p).0 - 1) + 1 }

unfoldable pub step_round : Plan → ℕ → Round
step_round p j = record { 0 = cond (leb j 1) 1 ((j - 2) % ((rounds p).0 - 1) + 2) }
