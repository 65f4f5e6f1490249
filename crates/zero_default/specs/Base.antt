-- The base: what stood before 02 b, which is 01 with 02 a (an empty list is admitted). Here only what 02 b says otherwise, with 01's
-- numbers written out: 0 for the default, no number 26, a head without a default. Its heads have one byte a value, as 01's. Only `Zero` and
-- its proof use these.
use Rattle.std.specs.Prelude.{ℕ, ◌+◌, ◌-◌, not, ◌&&◌, ◌||◌, cond, List, [], ◌∷◌, eqb, leb, ltb, length, get_or, take, drop}
use Rattle.std.proofs.Math.Option
use Rattle.std.proofs.Math.Option.{none}
use Rattle.sets.specs.Sets.{within, boards}
use Rattle.sets.specs.Structure.{tolerated}
use Rattle.refusals.specs.Outcome.{Outcome, taken, refused, and_then}
use Rattle.admission.specs.Calls.{admitting}
use Rattle.settings.specs.declared.settings.Settings.{Settings}
use Rattle.settings.specs.Planning.{is_depth}
use Rattle.plan.specs.declared.plan.Plan.{Plan}
use Rattle.plan.specs.Calls.{plan_on, void_plan}
use Rattle.schedule.specs.Schedule.{rounds}
use Rattle.protocol.specs.Detection.{resolve}
use Rattle.sheet.specs.declared.head.Head.{Head}
use Rattle.sheet.specs.Sheet.{Line, Reading, read_frames, refused_reading}

-- 01: "A cell of m or more, read as a value, counts as 0."
unfoldable pub base_value : Plan → ℕ → ℕ
base_value p x = cond (ltb x p.span) x 0

-- 01: "if there is none or more than one, to 0 at the root".
unfoldable pub base_root : Plan → ℕ → List ℕ → ℕ
base_root p i cells = Option.get_or (resolve p i cells ((rounds p).0 - 1) (p.dealer ∷ [])) 0

-- 01, 'Planning': 6, 7 and 8.
unfoldable pub base_judge_settings : ℕ → Settings → Outcome
base_judge_settings n s =
    cond (leb n s.dealer) (refused 6)
    (cond (ltb s.span 2) (refused 7)
    (cond (not (is_depth s.depth)) (refused 8) (taken [])))

-- 01, 'Planning': "1 to 5, then 6 .. 7 .. 8".
unfoldable pub base_planning : ℕ → ℕ → List ℕ → Settings → Outcome
base_planning n count sets s = and_then (admitting n count sets) (base_judge_settings n s)

-- 01: "The head is n, m, d, b, the dealer's value, s, then s sets, then F".
abbrev pub base_boards : List ℕ → ℕ
base_boards bytes = get_or bytes 0 0

abbrev pub base_count : List ℕ → ℕ
base_count bytes = get_or bytes 5 0

abbrev pub base_sets : List ℕ → List ℕ
base_sets bytes = take (base_count bytes) (drop 6 bytes)

abbrev pub base_settings : List ℕ → Settings
base_settings bytes = record { dealer = get_or bytes 2 0; span = get_or bytes 1 0; default = 0; depth = get_or bytes 3 0 }

abbrev pub base_word : List ℕ → ℕ
base_word bytes = get_or bytes 4 0

abbrev pub base_faulty : List ℕ → ℕ
base_faulty bytes = get_or bytes (6 + base_count bytes) 0

-- The plan that planning gave.
unfoldable pub base_planned : ℕ → List ℕ → Settings → Plan
base_planned n sets s = cond (eqb (base_planning n (length sets) sets s).number 0) (plan_on n sets s) void_plan

unfoldable pub base_head : List ℕ → Head
base_head bytes = record {
  plan = base_planned (base_boards bytes) (base_sets bytes) (base_settings bytes);
  faulty = base_faulty bytes;
  word = base_word bytes;
}

-- 01, 'Playing a sheet', head: "22: under 7 bytes or not 7 + s .. 1 to 8. 18 .. 23".
unfoldable pub base_judge_head : List ℕ → Outcome
base_judge_head bytes =
    let plan = base_planning (base_boards bytes) (base_count bytes) (base_sets bytes) (base_settings bytes) in
    let word = cond (leb (base_settings bytes).span (base_word bytes)) (refused 18) (taken []) in
    let faulty = cond (within (base_faulty bytes) (boards (base_boards bytes)) && tolerated (base_sets bytes) (base_faulty bytes)) (taken []) (refused 23) in
    cond (ltb (length bytes) 7 || not (eqb (length bytes) (7 + base_count bytes))) (refused 22)
    (and_then plan (and_then word faulty))

-- A sheet from its head on; of the lines after it 02 b says nothing.
unfoldable pub base_read_head : List ℕ → List Line → Reading
base_read_head bytes ls =
    let h = base_head bytes in
    let o = base_judge_head bytes in
    cond (eqb o.number 0) (read_frames h none 2 ls) (refused_reading h 1 o)
