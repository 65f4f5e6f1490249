-- The list of specs/List is fair, by computation; roots are unequal after run 1, and so two boards stand on both lists. What is computed of the
-- list of specs/Stays stands here too, as the same definitions unfold.
-- Assumes nothing.
use Prim.Native.Nat.{ℕ, ◌≤◌}
use mathlib.Core.Path.{◌≡◌, refl, sym, subst, ◌∙◌}
use mathlib.Core.Logic.{◌≢◌, ⊎_elim}
use mathlib.Core.Bool.{Bool, true, false, not, ◌&&◌, ◌||◌, cond}
use native.Mathlib.Omega.{arith}
use lib.Dec.{eqb, ltb}
use lib.ListN.{length, replicate, drop}
use borrow.Author.Tests.{eqb-true, ltb-true}
use Rattle.codec.specs.Codec.{encode, decode, number_at}
use Rattle.sets.specs.Search.{first, any, count}
use Rattle.sets.specs.Tabulate.{tabulate}
use Rattle.sets.specs.Sets.{member, union, insert, within, boards, set_of, size}
use Rattle.sets.specs.Only.{only, same, same_list}
use Rattle.sets.specs.Structure.{holder, is_some, tolerated}
use Rattle.sets.proofs.Tests.{cases, clash, and_l, and-true, or-true, true-not}
use Rattle.sets.proofs.Search.{any_of}
use Rattle.admission.specs.Calls.{strays}
use Rattle.covering.specs.Cover.{covers, third_place, second_place, first_place, covered}
use Rattle.plan.specs.Listed.{listed}
use Rattle.heights.specs.Levels.{largest, height, is_cut}
use Rattle.schedule.specs.Schedule.{rounds, runs, first_round, has_round, ceil_div}
use Rattle.covering.specs.Cover.{covering}
use Rattle.admission.specs.Calls.{admitting}
use Rattle.refusals.specs.Outcome.{and_then}
use Rattle.settings.specs.Planning.{is_depth, judge_settings, planning}
use Rattle.plan.specs.Calls.{plan_on, judged}
use Rattle.tree.specs.Labels.{occurs, mask, last, children_from, children, children_of}
use Rattle.tree.specs.Places.{level_size, level_start, cell_count, ordinal, rank, place}
use Rattle.tree.specs.Cells.{cell_at, store}
use Rattle.plan.specs.Values.{default, value}
use Rattle.protocol.specs.Nodes.{read, filter, internal, nodes, inner, carried, sent, due, frame}
use Rattle.protocol.specs.declared.records.Rule.TheVariants as Rule
use Rattle.protocol.specs.declared.records.Entry.TheVariants as Entry
use Rattle.protocol.specs.Listing.{entry_at, has_entry, level_of, join, as_set}
use Rattle.protocol.specs.Detection.{vote, resolve, resolve_root, explained, by_cell, by_resolving, passes, mask_board, detect_g, detect_all_g, detect_c, detect_all_c, detect_levels}
use Rattle.protocol.specs.Records.{run_ended}
use Rattle.protocol.specs.Rounds.{fill, counted, receive, fill_missing, copy_own, gather, root_only, next_round, convert, close}
use Rattle.protocol.specs.Calls.{is_taken, judge_number, judge_other, judge_board, judge_cells, good_plan, good_number, good_other, good_position, good_marks, good_entry, good_entries, good_decision, good_record, judge_record, judge_open, fresh_record, void_record, judge_beginning, beginning, dealing, judge_receiving, taking, receiving, frame_of, wire_of, judge_sending, sending, closed_values, closing, deciding}
use Rattle.protocol.specs.Session.{Setting, begun, keeper, Sound}
use Rattle.agreement.specs.Lists.{answers, after, caller, leaves, state, after_one, Fair, EndsRun, root, list_after, on_every, Agreement}
use Rattle.agreement.proofs.FairCheck.{everywhere, somewhere, alike, writes, hands, truthful, lacks, fair_call, fair_check, carries_call, carries_check, checked-fair}
use Rattle.agreement.proofs.Demand.{demand3}
use Rattle.cut_list.specs.List.{cut_setting, cut_calls, cut_before}
use Rattle.cut_list.specs.Stays.{stays_setting, stays_calls, stays_before, stays_later}

-- What is computed from the definitions.
pub record Computed : Type 0 where
  -- the setting is sound, the tree is cut, and the list is fair; its last frame fails the test for the first sentence of 01
  pub accepted : (judged cut_setting.plan).number ≡ 0
  pub cut : is_cut cut_setting.plan ≡ true
  pub tolerable : tolerated (listed cut_setting.plan) cut_setting.faulty ≡ true
  pub fair : fair_check cut_setting cut_calls ≡ true
  pub carries : carries_check cut_setting cut_calls ≡ false
  -- boards 0 and 2 close run 1
  pub ends0 : EndsRun cut_setting 1 0 (cut_before 0) cut_calls
  pub ends2 : EndsRun cut_setting 1 2 (cut_before 2) cut_calls
  -- with unequal roots
  pub root0 : root cut_setting 0 (cut_before 0) ≡ 1
  pub root2 : root cut_setting 2 (cut_before 2) ≡ 0
  -- board 0 lists 1 and 5, board 2 lists 1, 3 and 5
  pub list0 : as_set (list_after cut_setting cut_calls 0) ≡ 34
  pub list2 : as_set (list_after cut_setting cut_calls 2) ≡ 42
  -- board 0 by rule C as it closes run 1, at levels 1 and 2; board 2 by rule G in rounds 2, 4 and 3, at levels 1, 3 and 2
  pub entry01 : entry_at (list_after cut_setting cut_calls 0) 1 ≡ Entry.Listed (record { 0 = 1 }) (record { 0 = 4 }) (Rule.C 1)
  pub entry05 : entry_at (list_after cut_setting cut_calls 0) 5 ≡ Entry.Listed (record { 0 = 1 }) (record { 0 = 4 }) (Rule.C 2)
  pub entry21 : entry_at (list_after cut_setting cut_calls 2) 1 ≡ Entry.Listed (record { 0 = 1 }) (record { 0 = 2 }) (Rule.G 1)
  pub entry23 : entry_at (list_after cut_setting cut_calls 2) 3 ≡ Entry.Listed (record { 0 = 1 }) (record { 0 = 4 }) (Rule.G 3)
  pub entry25 : entry_at (list_after cut_setting cut_calls 2) 5 ≡ Entry.Listed (record { 0 = 1 }) (record { 0 = 3 }) (Rule.G 2)
  -- no other board keeps cells
  pub keepers : any (λ j. keeper cut_setting j && not (eqb j 0 || eqb j 2)) 6 ≡ false
  -- the list of specs/Stays: sound, and fair
  pub stays-accepted : (judged stays_setting.plan).number ≡ 0
  pub stays-tolerable : tolerated (listed stays_setting.plan) stays_setting.faulty ≡ true
  pub stays-fair : fair_check stays_setting stays_calls ≡ true
  pub stays-keepers : any (λ j. keeper stays_setting j && not (eqb j 3 || eqb j 4)) 5 ≡ false
  -- boards 3 and 4 close run 1 with equal roots
  pub stays-ends3 : EndsRun stays_setting 1 3 (stays_before 3) stays_calls
  pub stays-ends4 : EndsRun stays_setting 1 4 (stays_before 4) stays_calls
  pub stays-root3 : root stays_setting 3 (stays_before 3) ≡ 7
  pub stays-root4 : root stays_setting 4 (stays_before 4) ≡ 7
  -- board 4 closes run 2; board 3 still stands in it
  pub stays-later : EndsRun stays_setting 2 4 stays_later stays_calls
  pub stays-behind : (state stays_setting stays_calls 3).rec.run.0 ≡ 2

pub computed : Computed
unfolding encode decode number_at first any count member union insert within boards set_of size holder is_some tolerated strays covers third_place second_place first_place covered listed largest height is_cut rounds runs first_round has_round ceil_div covering admitting and_then is_depth judge_settings planning plan_on judged occurs mask last children_from children children_of level_size level_start cell_count ordinal rank place cell_at store default value read filter internal nodes inner carried sent due frame only same vote tabulate resolve resolve_root explained by_cell by_resolving entry_at has_entry level_of join as_set passes mask_board detect_g detect_all_g detect_c detect_all_c detect_levels fill counted receive fill_missing copy_own gather root_only next_round convert run_ended close is_taken judge_number judge_other judge_board judge_cells good_plan good_number good_other good_position good_marks good_entry good_entries good_decision good_record judge_record judge_open fresh_record void_record judge_beginning beginning dealing judge_receiving taking receiving frame_of wire_of judge_sending sending closed_values closing deciding begun answers after caller keeper leaves state after_one same_list everywhere somewhere alike writes hands truthful lacks fair_call fair_check carries_call carries_check root list_after cut_setting cut_calls cut_before stays_setting stays_calls stays_before stays_later
computed = record {
  accepted = refl;
  cut = refl;
  tolerable = refl;
  fair = refl;
  carries = refl;
  ends0 = record { stands = (drop 32 cut_calls, refl); taken = refl; run = refl; round = refl };
  ends2 = record { stands = (drop 31 cut_calls, refl); taken = refl; run = refl; round = refl };
  root0 = refl;
  root2 = refl;
  list0 = refl;
  list2 = refl;
  entry01 = refl;
  entry05 = refl;
  entry21 = refl;
  entry23 = refl;
  entry25 = refl;
  keepers = refl;
  stays-accepted = refl;
  stays-tolerable = refl;
  stays-fair = refl;
  stays-keepers = refl;
  stays-ends3 = record { stands = (drop 23 stays_calls, refl); taken = refl; run = refl; round = refl };
  stays-ends4 = record { stands = (drop 24 stays_calls, refl); taken = refl; run = refl; round = refl };
  stays-root3 = refl;
  stays-root4 = refl;
  stays-later = record { stands = (drop 41 stays_calls, refl); taken = refl; run = refl; round = refl };
  stays-behind = refl;
}

-- Lent cells are long enough, whoever lent them.
enough : (b : Bool) → cell_count 6 ≤ length {A = ℕ} (replicate (cond b 329 326) 7)
unfolding cell_count level_size level_start
enough true = omega arith
enough false = omega arith

pub cut-sound : Sound cut_setting
unfolding cut_setting plan_on member
cut-sound = record {
  accepted = computed.accepted;
  tolerable = computed.tolerable;
  word_below = λ e. clash refl e;
  cells-enough = λ i _. enough (eqb i 2);
}

pub cut-fair : Fair cut_setting cut_calls
cut-fair = checked-fair cut_setting cut_calls computed.fair

-- If only boards a and b keep cells, what holds of both holds of all that do.
pub both-keepers : (s : Setting) (a b : ℕ) → any (λ j. keeper s j && not (eqb j a || eqb j b)) s.plan.n ≡ false
    → (P : ℕ → Type 0) → P a → P b → (j : ℕ) → keeper s j ≡ true → P j
unfolding keeper
both-keepers s a b none P here there j kj =
    let l = ltb-true j s.plan.n (and_l (ltb j s.plan.n) _ kj) in
    cases (eqb j a || eqb j b)
    (λ x. ⊎_elim (λ e. subst P (sym (eqb-true j a e)) here) (λ e. subst P (sym (eqb-true j b e)) there) (or-true (eqb j a) (eqb j b) x))
    (λ x. clash (any_of (λ j. keeper s j && not (eqb j a || eqb j b)) s.plan.n j l (and-true _ _ kj (true-not _ x))) none)

-- All boards that keep cells close run 1.
pub ends-run : (j : ℕ) → keeper cut_setting j ≡ true → EndsRun cut_setting 1 j (cut_before j) cut_calls
unfolding cut_setting plan_on
ends-run = both-keepers cut_setting 0 2 computed.keepers (λ j. EndsRun cut_setting 1 j (cut_before j) cut_calls) computed.ends0 computed.ends2

pub cut-agrees : Agreement cut_setting cut_calls
cut-agrees = demand3 cut_setting cut_calls cut-sound cut-fair

-- The premise of the bound is met, so at least 1 × (4 − 3) + 1 boards stand on both lists: they are boards 1 and 5.
pub two-listed : 2 ≤ count (on_every cut_setting (list_after cut_setting cut_calls)) 6
unfolding cut_setting plan_on keeper member
two-listed = cut-agrees.bound-now computed.cut 1 cut_before ends-run 0 2 refl refl (λ z. apart (sym computed.root0 ∙ z ∙ computed.root2))
  where
    apart : ◌≢◌ {A = ℕ} 1 0
    apart e = omega arith
