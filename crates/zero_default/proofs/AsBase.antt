-- A plan with the default 0 gives what the base gave.
-- Assumes nothing.
use Prim.Native.Nat.{ℕ, suc, ◌+◌, ◌-◌}
use mathlib.Core.Path.{◌≡◌, refl, sym, ap, ◌∙◌}
use mathlib.Core.Bool.{not, ◌&&◌, ◌||◌, cond}
use mathlib.Core.List.{List, [], ◌∷◌}
use mathlib.Core.Option
use mathlib.Core.Option.{none}
use native.Mathlib.Omega.{arith}
use lib.Dec.{eqb, leb, ltb}
use lib.ListN.{length, get_or, take, drop}
use borrow.Author.Tests.{eqb-true, eqb-false, eq-eqb, ne_eqb, ltb-true, ltb-false, lt-ltb, le-ltb, lt-leb}
use Rattle.codec.specs.Codec.{one, number_at}
use Rattle.sets.specs.Sets.{within, boards}
use Rattle.sets.specs.Structure.{tolerated}
use Rattle.sets.proofs.Tests.{cases}
use Rattle.refusals.specs.Outcome.{taken, refused, and_then}
use Rattle.admission.specs.Calls.{admitting}
use Rattle.settings.specs.declared.settings.Settings.{Settings}
use Rattle.settings.specs.Planning.{judge_settings, planning}
use Rattle.plan.specs.declared.plan.Plan.{Plan}
use Rattle.plan.specs.Listed.{listed}
use Rattle.plan.specs.Calls.{plan_on, void_plan, planned, settings_of, judged}
use Rattle.plan.specs.Values.{default, value}
use Rattle.schedule.specs.Schedule.{rounds}
use Rattle.tree.specs.Labels.{last}
use Rattle.tree.specs.Cells.{store}
use Rattle.protocol.specs.Rounds.{fill}
use Rattle.protocol.specs.Detection.{resolve, mask_board, resolve_root}
use Rattle.sheet.specs.Sheet.{Line, head_of, judge_head, Reading, refused_reading, read_frames, read_head}
use Rattle.sheet.proofs.Sheets.{head-right, head-wrong}
use Rattle.zero_default.specs.Base.{base_value, base_root, base_judge_settings, base_planning, base_settings, base_planned, base_head, base_judge_head, base_read_head}
use Rattle.zero_default.specs.Zero.{ZeroPut, ZeroAsBase}

-- 26 never applies: 0 is below a span that passed 7.
settings-zero : (n : ℕ) (s : Settings) → s.default ≡ 0 → judge_settings n s ≡ base_judge_settings n s
unfolding judge_settings base_judge_settings
settings-zero n s e =
    cases (ltb s.span 2)
    (λ small. rw small)
    (λ large. let two = ltb-false s.span 2 large in rw (large, lt-leb s.span s.default (omega arith)))

planning-zero : (n count : ℕ) (sets : List ℕ) (s : Settings) → s.default ≡ 0 → planning n count sets s ≡ base_planning n count sets s
unfolding planning base_planning
planning-zero n count sets s e = ap (and_then (admitting n count sets)) (settings-zero n s e)

planned-zero : (n : ℕ) (sets : List ℕ) (s : Settings) → s.default ≡ 0 → planned n sets s ≡ base_planned n sets s
unfolding planned base_planned
planned-zero n sets s e = ap (λ o. cond (eqb o.number 0) (plan_on n sets s) void_plan) (planning-zero n (length sets) sets s e)

puts-zero : (p : Plan) → p.default ≡ 0 → ZeroPut p
unfolding default value base_value fill mask_board resolve_root base_root judged
puts-zero p e = record {
  default = e;
  value = λ x. ap (λ d. cond (ltb x p.span) x d) e;
  fill = λ q α αs cells. ap (λ d. fill p q αs [] (store p.n cells (q ∷ α) d)) e;
  mask = λ r γ γs cells. ap (λ d. mask_board p r γs (cond (eqb (last γ) r) (store p.n cells γ d) cells)) e;
  root = λ i cells. ap (λ d. Option.get_or (resolve p i cells ((rounds p).0 - 1) (p.dealer ∷ [])) d) e;
  judged = planning-zero p.n p.count (listed p) (settings_of p) e;
}

-- Tests of two numbers that are one more.
ltb-one : (a b : ℕ) → ltb (suc a) (suc b) ≡ ltb a b
ltb-one a b =
    cases (ltb a b)
    (λ t. lt-ltb (suc a) (suc b) (omega (arith, ltb-true a b t)) ∙ sym t)
    (λ t. le-ltb (suc a) (suc b) (omega (arith, ltb-false a b t)) ∙ sym t)

eqb-one : (a b c : ℕ) → c ≡ suc b → eqb (suc a) c ≡ eqb a b
eqb-one a b c e =
    cases (eqb a b)
    (λ t. eq-eqb (suc a) c (omega (arith, eqb-true a b t)) ∙ sym t)
    (λ t. ne_eqb (suc a) c (λ z. eqb-false a b t (omega arith)) ∙ sym t)

module _ (n m : ℕ) (rest : List ℕ) where
  abbrev long : List ℕ
  long = n ∷ m ∷ 0 ∷ rest

  abbrev short : List ℕ
  short = n ∷ m ∷ rest

  abbrev count : ℕ
  count = get_or rest 3 0

  abbrev sets : List ℕ
  sets = take count (drop 4 rest)

  abbrev settings : Settings
  settings = base_settings short

  -- The byte behind the sets, and the length.
  faulty-zero : get_or long (7 + count) 0 ≡ get_or short (6 + count) 0
  faulty-zero =
      let ahead : 7 + count ≡ suc (suc (suc (4 + count))) = omega arith in
      let back : suc (suc (4 + count)) ≡ 6 + count = omega arith in
      ap (λ k. get_or long k 0) ahead ∙ ap (λ k. get_or short k 0) back

  misfit-zero : (ltb (length long) 8 || not (eqb (length long) (8 + count))) ≡ (ltb (length short) 7 || not (eqb (length short) (7 + count)))
  misfit-zero = λ j. ltb-one (length short) 7 j || not (eqb-one (length short) (7 + count) (8 + count) (omega arith) j)

  judges-zero : judge_head one long ≡ base_judge_head short
  unfolding judge_head base_judge_head number_at
  judges-zero = λ j.
      cond (misfit-zero j) (refused 22)
      (and_then (planning-zero n count sets settings refl j)
      (and_then (cond (leb m (get_or rest 2 0)) (refused 18) (taken []))
      (cond (within (faulty-zero j) (boards n) && tolerated sets (faulty-zero j)) (taken []) (refused 23))))

  names-zero : head_of one long ≡ base_head short
  unfolding head_of base_head number_at
  names-zero = λ j. record { plan = planned-zero n sets settings refl j; faulty = faulty-zero j; word = get_or rest 2 0 }

  reads-zero : (ls : List Line) → read_head one long ls ≡ base_read_head short ls
  unfolding base_read_head
  reads-zero ls =
      let base : Reading = cond (eqb (judge_head one long).number 0) (read_frames (head_of one long) none 2 ls) (refused_reading (head_of one long) 1 (judge_head one long)) in
      let same : read_head one long ls ≡ base =
      cases (eqb (judge_head one long).number 0)
      (λ t. head-right one long ls (eqb-true (judge_head one long).number 0 t) ∙ ap (λ b. cond b (read_frames (head_of one long) none 2 ls) (refused_reading (head_of one long) 1 (judge_head one long))) (sym t))
      (λ t. head-wrong one long ls (eqb-false (judge_head one long).number 0 t) ∙ ap (λ b. cond b (read_frames (head_of one long) none 2 ls) (refused_reading (head_of one long) 1 (judge_head one long))) (sym t)) in
      same ∙ (λ j. cond (eqb (judges-zero j).number 0) (read_frames (names-zero j) none 2 ls) (refused_reading (names-zero j) 1 (judges-zero j)))

pub zero-as-base : ZeroAsBase
zero-as-base = record {
  puts = puts-zero;
  plans = λ n sets s e. record { answer = λ count. planning-zero n count sets s e; plan = planned-zero n sets s e };
  heads = λ n m rest. record { judges = judges-zero n m rest; names = names-zero n m rest; reads = reads-zero n m rest };
}
