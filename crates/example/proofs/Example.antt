-- The list of specs/Example is fair, by both wordings: demand 3 speaks of it, and what it does is computed.
-- Assumes nothing.
use Prim.Native.Nat.{ℕ, ◌≤◌}
use mathlib.Core.Path.{◌≡◌, refl}
use mathlib.Core.Bool.{Bool, true, false, cond}
use mathlib.Core.List.{[], ◌∷◌, ◌++◌}
use native.Mathlib.Omega.{arith}
use lib.Dec.{eqb, ltb}
use lib.ListN.{length, replicate}
use borrow.Author.Tests.{ltb-true}
use Rattle.codec.specs.Codec.{encode, pairs, decode, number_at}
use Rattle.sets.specs.Search.{first, any, count}
use Rattle.sets.specs.Tabulate.{tabulate}
use Rattle.sets.specs.Sets.{member, union, insert, within, boards, set_of, size}
use Rattle.sets.specs.Only.{only, same, same_list}
use Rattle.sets.specs.Structure.{holder, is_some, tolerated}
use Rattle.admission.specs.Calls.{strays}
use Rattle.covering.specs.Cover.{covers, third_place, second_place, first_place, covered}
use Rattle.covering.specs.Cover.{covering}
use Rattle.admission.specs.Calls.{admitting}
use Rattle.refusals.specs.Outcome.{and_then}
use Rattle.plan.specs.Listed.{listed}
use Rattle.settings.specs.Planning.{is_depth, judge_settings, planning}
use Rattle.plan.specs.Calls.{plan_on, judged}
use Rattle.plan.specs.Values.{default, value}
use Rattle.heights.specs.Levels.{largest, height, is_cut}
use Rattle.schedule.specs.Schedule.{rounds, runs, first_round, has_round}
use Rattle.tree.specs.Labels.{occurs, mask, last}
use Rattle.tree.specs.Places.{level_size, level_start, cell_count, ordinal, rank, place}
use Rattle.tree.specs.Cells.{cell_at, store}
use Rattle.protocol.specs.Nodes.{read, filter, internal, nodes, inner, carried, sent, due, frame}
use Rattle.protocol.specs.Listing.{no_entries, entry_at, has_entry, level_of, join, as_set}
use Rattle.protocol.specs.Detection.{vote, resolve, resolve_root, explained, by_cell, by_resolving, passes, mask_board, detect_g, detect_all_g, detect_c, detect_all_c, detect_levels}
use Rattle.protocol.specs.Records.{run_ended}
use Rattle.protocol.specs.Rounds.{fill, counted, receive, fill_missing, copy_own, gather, root_only, next_round, convert, close}
use Rattle.protocol.specs.Calls.{is_taken, judge_number, judge_other, judge_board, judge_cells, good_plan, good_number, good_other, good_position, good_marks, good_entry, good_entries, good_decision, good_record, judge_record, judge_open, fresh_record, void_record, judge_beginning, beginning, dealing, judge_receiving, taking, receiving, frame_of, wire_of, judge_sending, sending, closed_values, closing, deciding}
use Rattle.protocol.specs.Session.{begun, keeper, Sound}
use Rattle.agreement.specs.Lists.{Agreement, answers, after, caller, leaves, state, after_one, Fair, StrictlyFair}
use Rattle.example.specs.Example.{example_setting, example_ahead, example_rest, example_calls, said, example_answers}
use Rattle.agreement.proofs.FairCheck.{everywhere, somewhere, alike, writes, hands, truthful, lacks, fair_call, fair_check, carries_call, carries_check, checked-strictly}
use Rattle.agreement.proofs.Strict.{strictly-fair}
use Rattle.agreement.proofs.Demand.{demand3}

-- What is computed from the definitions.
pub record Computed : Type 0 where
  -- the setting is sound, and the list is fair
  pub accepted : (judged example_setting.plan).number ≡ 0
  pub tolerable : tolerated (listed example_setting.plan) example_setting.faulty ≡ true
  pub word_below : ltb example_setting.word example_setting.plan.span ≡ true
  pub fair : fair_check example_setting example_calls ≡ true
  pub carries : carries_check example_setting example_calls ≡ true
  -- what each call answers
  pub answered : said (begun example_setting) example_calls ≡ example_answers
  -- board 1 is a round ahead of board 2, and has the liar's frame
  pub ahead : (state example_setting example_ahead 1).rec.round.0 ≡ 2
  pub behind : (state example_setting example_ahead 2).rec.round.0 ≡ 1
  pub lied : (state example_setting example_ahead 1).rec.marks ≡ 8
  -- both boards decide on the dealer's word, with nobody on their lists
  pub decided1 : (state example_setting example_calls 1).rec.decided ≡ true
  pub decided2 : (state example_setting example_calls 2).rec.decided ≡ true
  pub decision1 : (state example_setting example_calls 1).rec.decision ≡ 261
  pub decision2 : (state example_setting example_calls 2).rec.decision ≡ 261
  pub list1 : (state example_setting example_calls 1).rec.list ≡ no_entries
  pub list2 : (state example_setting example_calls 2).rec.list ≡ no_entries
  -- and leave the surplus cell alone
  pub cells1 : (state example_setting example_calls 1).cells ≡ 261 ∷ replicate 15 65535
  pub cells2 : (state example_setting example_calls 2).cells ≡ (261 ∷ replicate 15 65535) ++ (7 ∷ [])

pub computed : Computed
unfolding encode pairs decode number_at first any count member union insert within boards set_of size holder is_some tolerated strays covers third_place second_place first_place covered listed largest height is_cut rounds runs first_round has_round covering admitting and_then is_depth judge_settings planning plan_on judged occurs mask last level_size level_start cell_count ordinal rank place cell_at store default value read filter internal nodes inner carried sent due frame only same vote tabulate resolve resolve_root explained by_cell by_resolving entry_at has_entry level_of join as_set passes mask_board detect_g detect_all_g detect_c detect_all_c detect_levels fill counted receive fill_missing copy_own gather root_only next_round convert run_ended close is_taken judge_number judge_other judge_board judge_cells good_plan good_number good_other good_position good_marks good_entry good_entries good_decision good_record judge_record judge_open fresh_record void_record judge_beginning beginning dealing judge_receiving taking receiving frame_of wire_of judge_sending sending closed_values closing deciding begun answers after caller keeper leaves state after_one same_list example_setting example_ahead example_rest example_calls said everywhere somewhere alike writes hands truthful lacks fair_call fair_check carries_call carries_check example_answers
computed = record {
  accepted = refl;
  tolerable = refl;
  word_below = refl;
  fair = refl;
  carries = refl;
  answered = refl;
  ahead = refl;
  behind = refl;
  lied = refl;
  decided1 = refl;
  decided2 = refl;
  decision1 = refl;
  decision2 = refl;
  list1 = refl;
  list2 = refl;
  cells1 = refl;
  cells2 = refl;
}

-- Lent cells are long enough, whoever lent them.
enough : (b : Bool) → cell_count 4 ≤ length {A = ℕ} (replicate (cond b 17 16) 7)
unfolding cell_count level_size level_start
enough true = omega arith
enough false = omega arith

pub example-sound : Sound example_setting
unfolding example_setting plan_on
example-sound = record {
  accepted = computed.accepted;
  tolerable = computed.tolerable;
  word_below = λ _. ltb-true 261 300 computed.word_below;
  cells-enough = λ i _. enough (eqb i 2);
}

-- It is fair by the sentences of 01 too.
pub example-strictly-fair : StrictlyFair example_setting example_calls
example-strictly-fair = checked-strictly example_setting example_calls computed.fair computed.carries

pub example-fair : Fair example_setting example_calls
example-fair = strictly-fair example_setting example_calls example-strictly-fair

pub example-agrees : Agreement example_setting example_calls
example-agrees = demand3 example_setting example_calls example-sound example-fair
