-- The table of cases holds, for both widths, and that of values above 255: one proof, computed from the definitions.
-- Assumes nothing.
use mathlib.Core.Path.{◌≡◌, refl}
use mathlib.Core.Bool.{true}
use Rattle.codec.specs.Codec.{Width, one, two, encode, pairs, decode, number_at}
use Rattle.sets.specs.Search.{first, any, count}
use Rattle.sets.specs.Tabulate.{tabulate}
use Rattle.sets.specs.Sets.{member, union, insert, within, boards, set_of, size}
use Rattle.sets.specs.Only.{only, same, same_list}
use Rattle.sets.specs.Structure.{holder, held_at, is_some, tolerated}
use Rattle.admission.specs.Calls.{strays}
use Rattle.covering.specs.Cover.{covers, third_place, second_place, first_place, covered, places}
use Rattle.refusals.specs.Outcome.{refusal, verdict, and_then}
use Rattle.plan.specs.Listed.{listed}
use Rattle.heights.specs.Levels.{largest, height, is_cut}
use Rattle.schedule.specs.Schedule.{rounds, ceil_div, runs, first_round, has_round, steps, step, step_run, step_round}
use Rattle.covering.specs.Cover.{covering}
use Rattle.admission.specs.Calls.{admitting}
use Rattle.settings.specs.Planning.{is_depth, judge_settings, planning}
use Rattle.plan.specs.Calls.{void_plan, plan_on, planned, judged}
use Rattle.tree.specs.Labels.{occurs, mask, last, children_from, children, children_of, labels, label_at}
use Rattle.tree.specs.Places.{level_size, level_start, cell_count, size_within, start_within, count_within, ordinal, rank, outside_below, child_index, place as place'}
use Rattle.tree.specs.Cells.{cell_at, store}
use Rattle.plan.specs.Values.{default, value}
use Rattle.protocol.specs.Nodes.{read, filter, internal, nodes, inner, carried, sent, due, frame}
use Rattle.protocol.specs.Listing.{entry_at, has_entry, level_of, join, as_set}
use Rattle.protocol.specs.Detection.{vote, resolve, resolve_root, explained, by_cell, by_resolving, passes, mask_board, detect_g, detect_all_g, detect_c, detect_all_c, detect_levels}
use Rattle.protocol.specs.Records.{run_ended}
use Rattle.protocol.specs.Rounds.{fill, counted, receive, fill_missing, copy_own, gather, root_only, next_round, convert, close}
use Rattle.protocol.specs.Calls.{is_taken, judge_number, judge_other, judge_board, judge_cells, good_plan, good_number, good_other, good_position, good_marks, good_entry, good_entries, good_decision, good_record, judge_record, judge_open, fresh_record, void_record, judge_beginning, beginning, dealing, judge_receiving, taking, receiving, frame_of, wire_of, judge_sending, sending, closed_values, closing, deciding}
use Rattle.protocol.specs.Session.{nobody, board_at, begun, hears, hand_in, take_all, hear_all, session, at}
use Rattle.sheet.specs.Sheet.{prepend, lines, line_bytes, head_of, judge_head, frame_line, earlier, rises, good_frame, wrong_at, refused_reading, add_frame, read_frames, read_head, read_lines, reading}
use Rattle.hexadecimal.specs.Hex.{digit, join_byte, bytes_of, hex_digit, hex_byte, hex_bytes}
use Rattle.sheet.specs.Playing.{find_frame, decoded, sheet_adversary, part, replace_part, setting, final_boards, hex_value, printed, board_line, print_boards, final_cells, refused_play, play_head, playing, refusal_text, bench_prints}
use Rattle.sheet.specs.Cases.{said, log, one_entry, five_plan, node_count, lent_cells, lent_out, played, is_accepted, holds, all_hold, example1, value_digits, head_line, four_head, head7, head9, bare_head, later_head, five_head, pair_head, dealer_line, misfit_line, odd_line, second_line, liar_line, liar9, placed_line, printed_line, decided_part, alone, five_parts, seven_lines, seven_parts, large_head, large_line, large_printed, large_table, case_table}

record Computed : Type 0 where
  one_byte : all_hold one (case_table one) ≡ true
  two_bytes : all_hold two (case_table two) ≡ true
  large : all_hold two large_table ≡ true

computed : Computed
unfolding encode pairs decode number_at first any count member union insert within boards set_of size holder held_at is_some tolerated strays covers third_place second_place first_place covered places refusal verdict listed largest height is_cut rounds ceil_div runs first_round has_round steps step step_run step_round covering admitting and_then is_depth judge_settings planning void_plan plan_on planned judged occurs mask last children_from children children_of labels label_at level_size level_start cell_count size_within start_within count_within ordinal rank outside_below child_index place' cell_at store default value read filter internal nodes inner carried sent due frame only same vote tabulate resolve resolve_root explained by_cell by_resolving entry_at has_entry level_of join as_set passes mask_board detect_g detect_all_g detect_c detect_all_c detect_levels fill counted receive fill_missing copy_own gather root_only next_round convert run_ended close is_taken judge_number judge_other judge_board judge_cells good_plan good_number good_other good_position good_marks good_entry good_entries good_decision good_record judge_record judge_open fresh_record void_record judge_beginning beginning dealing judge_receiving taking receiving frame_of wire_of judge_sending sending closed_values closing deciding nobody board_at begun hears hand_in take_all hear_all session at prepend lines digit join_byte bytes_of line_bytes head_of judge_head frame_line earlier rises good_frame wrong_at refused_reading add_frame read_frames read_head read_lines reading find_frame decoded sheet_adversary part replace_part setting final_boards hex_digit hex_byte hex_bytes hex_value printed board_line print_boards final_cells refused_play play_head playing refusal_text bench_prints same_list said log one_entry five_plan node_count lent_cells lent_out played is_accepted holds all_hold example1 value_digits head_line four_head head7 head9 bare_head later_head five_head pair_head dealer_line misfit_line odd_line second_line liar_line liar9 placed_line printed_line decided_part alone five_parts seven_lines seven_parts large_head large_line large_printed large_table case_table
computed = record { one_byte = refl; two_bytes = refl; large = refl }

pub table-holds : (w : Width) → all_hold w (case_table w) ≡ true
table-holds one = computed.one_byte
table-holds two = computed.two_bytes

-- Values above 255.
pub large-table-holds : all_hold two large_table ≡ true
large-table-holds = computed.large
