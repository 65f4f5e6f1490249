-- The sessions to hold it against: cases 1 to 10 of 01 and some for 02 as one table, by the width of a value, and the test of a row.
use Rattle.std.specs.Prelude.{ℕ, zero, suc, ◌+◌, ◌-◌, Bool, true, ◌&&◌, List, [], ◌∷◌, ◌++◌, eqb, length, get_or, replicate}
use Rattle.codec.specs.Codec.{Width, one, two, blank, encode}
use Rattle.sets.specs.Only.{same_list}
use Rattle.plan.specs.declared.plan.Plan.{Plan}
use Rattle.heights.specs.Levels.{height}
use Rattle.schedule.specs.Schedule.{rounds, runs, steps}
use Rattle.admission.specs.Calls.{admitting}
use Rattle.settings.specs.declared.settings.Settings.{Settings}
use Rattle.settings.specs.Planning.{planning}
use Rattle.plan.specs.Calls.{planned}
use Rattle.protocol.specs.Limits.{output_needed, cells_needed}
use Rattle.protocol.specs.Nodes.{nodes}
use Rattle.protocol.specs.declared.records.Rule.{Rule}
use Rattle.protocol.specs.declared.records.Entry.{Entry}
use Rattle.protocol.specs.declared.records.Slot.{Slot}
use Rattle.protocol.specs.Listing.{no_entries, entry_at, join}
use Rattle.protocol.specs.Records.{standing_at, with_marks}
use Rattle.protocol.specs.Rounds.{board_of, gather}
use Rattle.protocol.specs.Calls.{beginning, receiving, deciding}
use Rattle.protocol.specs.Session.{board_at}
use Rattle.sheet.specs.Sheet.{reading}
use Rattle.sheet.specs.Playing.{Play, final_boards, playing, bench_prints}

pub data Row : Type 0 where
  -- n, sets: the number and the values of admitting
  admit : ℕ → List ℕ → ℕ → List ℕ → Row
  -- n, sets, d, m, default, b: the number of planning
  refuse : ℕ → List ℕ → ℕ → ℕ → ℕ → ℕ → ℕ → Row
  -- n, sets, d, b: H, runs, rounds over all runs
  schedule : ℕ → List ℕ → ℕ → ℕ → ℕ → ℕ → ℕ → Row
  -- n, sets, d: the number of nodes
  tree : ℕ → List ℕ → ℕ → ℕ → Row
  -- a sheet: all that is printed, and what the parts of the boards hold, the others being left alone
  sheet : List ℕ → List ℕ → List ℕ → Row
  -- a sheet that is turned down: the line that is printed
  refused_sheet : List ℕ → List ℕ → Row
  -- m, default, list, the values of the dealer's frame, handed in to board 1 of four with that list: what is stored
  stored : ℕ → ℕ → List Slot → List ℕ → ℕ → Row
  -- board 2 of five with the sets 03, 05, 09, dealer 0 and m = 16, in round 3, every frame handed in: default, the cells of levels 1 to 3;
  -- the log and these cells after rule G
  gathered : ℕ → List ℕ → List ℕ → List ℕ → Row
  -- a sheet, a board: its log at the end
  logged : List ℕ → ℕ → List ℕ → Row
  -- board 2 of the same plan with the default 0, in round 1, with one entry, of this board with run, round and rule: the number of reading
  -- its decision
  entered : ℕ → ℕ → ℕ → Rule → ℕ → Row

-- The log of a list, rising: of each listed board its number, run, round, 47 for G or 43 for C, level. From board r on, k boards.
unfoldable pub said : ℕ → Entry → List ℕ
said r Entry.Nothing = []
said r (Entry.Listed t k (Rule.G level)) = r ∷ t.0 ∷ k.0 ∷ 0x47 ∷ level ∷ []
said r (Entry.Listed t k (Rule.C level)) = r ∷ t.0 ∷ k.0 ∷ 0x43 ∷ level ∷ []

unfoldable pub log : List Slot → ℕ → ℕ → List ℕ
log list r zero = []
log list r (suc k) = said r (entry_at list r) ++ log list (suc r) k

-- A list with one entry.
unfoldable pub one_entry : ℕ → ℕ → ℕ → Rule → List Slot
one_entry r t k rule = join r (record { 0 = t }) (record { 0 = k }) rule no_entries

-- Five boards with the sets 03, 05, 09, dealer 0 and m = 16, by the default.
unfoldable pub five_plan : ℕ → Plan
five_plan x = planned 5 (0x03 ∷ 0x05 ∷ 0x09 ∷ []) (record { dealer = 0; span = 16; default = x; depth = 0 })

-- The nodes of levels 1 to k.
unfoldable pub node_count : Plan → ℕ → ℕ
node_count p zero = 0
node_count p (suc k) = node_count p k + length (nodes p 0 (suc k))

-- Lent cells and a lent output, each filled with one number, to see what is touched.
unfoldable pub lent_cells : List ℕ
lent_cells = replicate cells_needed 7

unfoldable pub lent_out : Width → List ℕ
lent_out w = replicate (output_needed w) 9

unfoldable pub played : Width → Play → List ℕ → List ℕ → Bool
played w r text cells =
    (eqb r.answer.number 0 && same_list r.answer.values (length text ∷ []))
    && (same_list r.out (text ++ replicate (output_needed w - length text) 9) && same_list r.cells (cells ++ replicate (cells_needed - length cells) 7))

-- The settings with a span of 16 and the default 0.
abbrev sixteen : ℕ → ℕ → Settings
sixteen d b = record { dealer = d; span = 16; default = 0; depth = b }

-- Is the plan with these settings accepted?
unfoldable pub is_accepted : ℕ → List ℕ → ℕ → ℕ → Bool
is_accepted n sets d b = eqb (planning n (length sets) sets (sixteen d b)).number 0

-- Does a row hold?
unfoldable pub holds : Width → Row → Bool
holds w (admit n sets k vs) = let o = admitting n (length sets) sets in eqb o.number k && same_list o.values vs
holds w (refuse n sets d m x b k) = eqb (planning n (length sets) sets (record { dealer = d; span = m; default = x; depth = b })).number k
holds w (schedule n sets d b h t j) =
    let p = planned n sets (sixteen d b) in
    (is_accepted n sets d b && eqb (height p) h) && (eqb (runs p).0 t && eqb (steps p) j)
holds w (tree n sets d k) = let p = planned n sets (sixteen d 0) in is_accepted n sets d 0 && eqb (node_count p (rounds p).0) k
holds w (sheet text out cells) = let r = playing w text lent_cells (lent_out w) in played w r out cells
holds w (refused_sheet text line) = same_list (bench_prints w text lent_cells (lent_out w)) line
holds w (stored m x list vs c) =
    let p = planned 4 (1 ∷ 2 ∷ 4 ∷ 8 ∷ []) (record { dealer = 0; span = m; default = x; depth = 0 }) in
    let b = (beginning w p 1 (replicate 16 9)).board in
    let r = receiving (board_of w (standing_at p b.rec.board b.rec.run b.rec.round list) b.cells) 0 (encode w vs) in
    eqb r.answer.number 0 && eqb (get_or r.board.cells 0 (blank w)) c
holds w (gathered x cells entries after) =
    let s = gather (board_of w (with_marks (standing_at (five_plan x) 2 (record { 0 = 1 }) (record { 0 = 3 }) no_entries) 0x1A) (cells ++ replicate 48 9)) in
    same_list (log s.list 0 7) entries && same_list s.cells (after ++ replicate 48 9)
holds w (logged text i entries) =
    let r = reading w text in
    eqb r.answer.number 0 && same_list (log (board_at (final_boards w r.head r.frames lent_cells) i).rec.list 0 7) entries
holds w (entered q t k rule number) =
    eqb (deciding (standing_at (five_plan 0) 2 (record { 0 = 1 }) (record { 0 = 1 }) (one_entry q t k rule))).number number

unfoldable pub all_hold : Width → List Row → Bool
all_hold w [] = true
all_hold w (r ∷ rs) = holds w r && all_hold w rs

-- 003, example 1.
unfoldable pub example1 : List ℕ
example1 = 0x07 ∷ 0x09 ∷ 0x12 ∷ 0x22 ∷ 0x0C ∷ []

-- The digits of a value below 256, by its last two. 02 g: "in cases 7 to 9 each of these numbers, and each decision, gets 00 before it".
unfoldable pub value_digits : Width → ℕ → ℕ → List ℕ → List ℕ
value_digits one x y rest = x ∷ y ∷ rest
value_digits two x y rest = 0x30 ∷ 0x30 ∷ x ∷ y ∷ rest

-- A head: 0, the digit of n, the span 10, the default by its last two digits, 0000, the dealer's value 05, the digits of s and the sets, 0,
-- the digit of F, and a newline.
unfoldable pub head_line : Width → ℕ → ℕ → ℕ → List ℕ → ℕ → List ℕ
head_line w n x y sets f =
    0x30 ∷ n ∷ value_digits w 0x31 0x30 (value_digits w x y
    (0x30 ∷ 0x30 ∷ 0x30 ∷ 0x30 ∷ value_digits w 0x30 0x35 (sets ++ (0x30 ∷ f ∷ 0x0A ∷ []))))

-- One with four boards and the sets 01, 02, 04, 08.
unfoldable pub four_head : Width → ℕ → ℕ → ℕ → List ℕ
four_head w x y f = head_line w 0x34 x y (0x30 ∷ 0x34 ∷ 0x30 ∷ 0x31 ∷ 0x30 ∷ 0x32 ∷ 0x30 ∷ 0x34 ∷ 0x30 ∷ 0x38 ∷ []) f

-- The head of cases 7 and 8, 041000000005040102040801, in two bytes 040010000000000005040102040801. 02 b: "cases 7 to 9 hold 00 there".
unfoldable pub head7 : Width → List ℕ
head7 w = four_head w 0x30 0x30 0x31

-- The head of case 9, 041000000005040102040808, in two bytes 040010000000000005040102040808.
unfoldable pub head9 : Width → List ℕ
head9 w = four_head w 0x30 0x30 0x38

-- A head with no sets and the default 0.
unfoldable pub bare_head : Width → ℕ → ℕ → List ℕ
bare_head w n f = head_line w n 0x30 0x30 (0x30 ∷ 0x30 ∷ []) f

-- A head with four boards, the default 0 and the five sets 08, 01, 01, 02, 04.
unfoldable pub later_head : Width → ℕ → List ℕ
later_head w f = head_line w 0x34 0x30 0x30 (0x30 ∷ 0x35 ∷ 0x30 ∷ 0x38 ∷ 0x30 ∷ 0x31 ∷ 0x30 ∷ 0x31 ∷ 0x30 ∷ 0x32 ∷ 0x30 ∷ 0x34 ∷ []) f

-- A head with five boards, the default 0, the sets 03, 05, 09 and F = 03.
unfoldable pub five_head : Width → List ℕ
five_head w = head_line w 0x35 0x30 0x30 (0x30 ∷ 0x33 ∷ 0x30 ∷ 0x33 ∷ 0x30 ∷ 0x35 ∷ 0x30 ∷ 0x39 ∷ []) 0x33

-- A head with four boards, the default 0 and the two sets 00 and 09.
unfoldable pub pair_head : Width → ℕ → List ℕ
pair_head w f = head_line w 0x34 0x30 0x30 (0x30 ∷ 0x32 ∷ 0x30 ∷ 0x30 ∷ 0x30 ∷ 0x39 ∷ []) f

-- 010100, a receiver's digits, and a value's digits, and a newline: a frame of the dealer.
unfoldable pub dealer_line : Width → ℕ → ℕ → List ℕ
dealer_line w i v =
    0x30 ∷ 0x31 ∷ 0x30 ∷ 0x31 ∷ 0x30 ∷ 0x30 ∷ 0x30 ∷ i ∷ value_digits w 0x30 v (0x0A ∷ [])

-- 010100, a receiver's digits, and 09 twice, and a newline: a frame of the dealer with a value too many.
unfoldable pub misfit_line : Width → ℕ → List ℕ
misfit_line w i = 0x30 ∷ 0x31 ∷ 0x30 ∷ 0x31 ∷ 0x30 ∷ 0x30 ∷ 0x30 ∷ i ∷ value_digits w 0x30 0x39 (value_digits w 0x30 0x39 (0x0A ∷ []))

-- 010100, a receiver's digits, and 000500, and a newline: three bytes. 02 g: "A frame of an odd length is a misfit."
unfoldable pub odd_line : ℕ → List ℕ
odd_line i = 0x30 ∷ 0x31 ∷ 0x30 ∷ 0x31 ∷ 0x30 ∷ 0x30 ∷ 0x30 ∷ i ∷ 0x30 ∷ 0x30 ∷ 0x30 ∷ 0x35 ∷ 0x30 ∷ 0x30 ∷ 0x0A ∷ []

-- 0102, a sender's digits, a receiver's digits, and a value's digits, and a newline: a frame of one value in round 2.
unfoldable pub second_line : Width → ℕ → ℕ → ℕ → List ℕ
second_line w q i v = 0x30 ∷ 0x31 ∷ 0x30 ∷ 0x32 ∷ 0x30 ∷ q ∷ 0x30 ∷ i ∷ value_digits w 0x30 v (0x0A ∷ [])

-- One of board 3.
unfoldable pub liar_line : Width → ℕ → ℕ → List ℕ
liar_line w i v = second_line w 0x33 i v

-- 0102030109 and a newline.
unfoldable pub liar9 : Width → List ℕ
liar9 w = liar_line w 0x31 0x39

-- A printed line: 0, a board's digit, 0, a value's digit, 0, a set's digit, 0, a place's digit, and a newline.
unfoldable pub placed_line : Width → ℕ → ℕ → ℕ → ℕ → List ℕ
placed_line w i v s k = 0x30 ∷ i ∷ value_digits w 0x30 v (0x30 ∷ s ∷ 0x30 ∷ k ∷ 0x0A ∷ [])

-- One with the place 00. 02 c: "00 in cases 7 to 9".
unfoldable pub printed_line : Width → ℕ → ℕ → ℕ → List ℕ
printed_line w i v s = placed_line w i v s 0x30

-- 04, the span 0110, the default 0107, 0000, the dealer's value 0105, the sets 01, 02, 04, 08, F = 01, and a newline.
unfoldable pub large_head : List ℕ
large_head =
    0x30 ∷ 0x34 ∷ 0x30 ∷ 0x31 ∷ 0x31 ∷ 0x30 ∷ 0x30 ∷ 0x31 ∷ 0x30 ∷ 0x37 ∷ 0x30 ∷ 0x30 ∷ 0x30 ∷ 0x30 ∷ 0x30 ∷ 0x31 ∷ 0x30 ∷ 0x35
    ∷ 0x30 ∷ 0x34 ∷ 0x30 ∷ 0x31 ∷ 0x30 ∷ 0x32 ∷ 0x30 ∷ 0x34 ∷ 0x30 ∷ 0x38 ∷ 0x30 ∷ 0x31 ∷ 0x0A ∷ []

-- 010100, a receiver's digits, 0, a digit, 0, a digit, and a newline: a value of two bytes.
unfoldable pub large_line : ℕ → ℕ → ℕ → List ℕ
large_line i h l = 0x30 ∷ 0x31 ∷ 0x30 ∷ 0x31 ∷ 0x30 ∷ 0x30 ∷ 0x30 ∷ i ∷ 0x30 ∷ h ∷ 0x30 ∷ l ∷ 0x0A ∷ []

-- A printed line with the decision 0105, nobody listed.
unfoldable pub large_printed : ℕ → List ℕ
large_printed i = 0x30 ∷ i ∷ 0x30 ∷ 0x31 ∷ 0x30 ∷ 0x35 ∷ 0x30 ∷ 0x30 ∷ 0x30 ∷ 0x30 ∷ 0x0A ∷ []

-- What a board's part holds at the end: the decision, and no other value. 01: "all other cells FF"; 02 g: "FFFF marks a cell without a value."
unfoldable pub decided_part : Width → ℕ → List ℕ
decided_part one v = v ∷ replicate 15 0xFF
decided_part two v = v ∷ replicate 15 0xFFFF

-- A part that is left alone.
unfoldable pub alone : List ℕ
alone = replicate 16 7

-- The parts if board 0 is the dealer and boards 1 and 2 decide 5.
unfoldable pub five_parts : Width → List ℕ
five_parts w = alone ++ (decided_part w 5 ++ decided_part w 5)

-- What boards 1, 2 and 3 print if they decide 7 and list the set with this digit; and what the parts hold.
unfoldable pub seven_lines : Width → ℕ → List ℕ
seven_lines w s = printed_line w 0x31 0x37 s ++ (printed_line w 0x32 0x37 s ++ printed_line w 0x33 0x37 s)

unfoldable pub seven_parts : Width → List ℕ
seven_parts w = alone ++ (decided_part w 7 ++ (decided_part w 7 ++ decided_part w 7))

-- 02 g: values above 255, in two bytes.
unfoldable pub large_table : List Row
large_table =
    -- the span 0110: 010F is a value, and 0110 counts as the default, 0107; the span FFFF: FFFE is a value, and FFFF counts as the default, 0
    stored 0x110 0x107 no_entries (0x10F ∷ []) 0x10F
    ∷ stored 0x110 0x107 no_entries (0x110 ∷ []) 0x107
    ∷ stored 0xFFFF 0 no_entries (0xFFFE ∷ []) 0xFFFE
    ∷ stored 0xFFFF 0 no_entries (0xFFFF ∷ []) 0
    -- the dealer tells 0105, 0105 and 0001: all decide 0105. A codec that is low byte first throughout is told by the parts of this row, which
    -- would hold 0501: it would print the same, and each row above writes and reads by one codec
    ∷ sheet (large_head ++ (large_line 0x31 0x31 0x35 ++ (large_line 0x32 0x31 0x35 ++ large_line 0x33 0x30 0x31)))
    (large_printed 0x31 ++ (large_printed 0x32 ++ large_printed 0x33))
    (alone ++ (decided_part two 0x105 ++ (decided_part two 0x105 ++ decided_part two 0x105)))
    ∷ []

-- The cases, at a width. Lines are quoted in one-byte values; in two bytes 00 stands before each value and decision.
unfoldable pub case_table : Width → List Row
case_table w =
    -- 1, 2
    admit 3 (0x01 ∷ 0x02 ∷ 0x04 ∷ []) 5 (0 ∷ 1 ∷ 2 ∷ [])
    ∷ admit 4 (0x01 ∷ 0x02 ∷ 0x04 ∷ 0x08 ∷ []) 0 []
    -- 3
    ∷ admit 6 example1 0 []
    ∷ schedule 6 example1 0 0 4 1 4
    ∷ tree 6 example1 0 24
    ∷ schedule 6 example1 4 0 3 1 3
    -- 4
    ∷ admit 1 (0x00 ∷ []) 0 []
    ∷ admit 1 (0x01 ∷ []) 5 (0 ∷ 0 ∷ 0 ∷ [])
    -- 5
    ∷ schedule 7 (0x3F ∷ []) 0 4 7 5 16
    ∷ schedule 7 (0x3F ∷ []) 0 5 7 3 13
    ∷ schedule 7 (0x3F ∷ []) 0 0 7 1 7
    ∷ schedule 7 (0x3F ∷ []) 0 7 7 1 7
    ∷ refuse 7 (0x3F ∷ []) 0 16 0 3 8
    -- 6
    ∷ schedule 7 (0x3F ∷ []) 6 4 1 1 1
    ∷ schedule 7 (0x3F ∷ []) 6 5 1 1 1
    ∷ schedule 7 (0x3F ∷ []) 6 0 1 1 1
    ∷ schedule 7 (0x3F ∷ []) 6 7 1 1 1
    -- 7: values 05, 05, 07; then 01050000, 02050000, 03050000
    ∷ sheet (head7 w ++ (dealer_line w 0x31 0x35 ++ (dealer_line w 0x32 0x35 ++ dealer_line w 0x33 0x37)))
    (printed_line w 0x31 0x35 0x30 ++ (printed_line w 0x32 0x35 0x30 ++ printed_line w 0x33 0x35 0x30))
    (alone ++ (decided_part w 5 ++ (decided_part w 5 ++ decided_part w 5)))
    -- 8: values 05, 07, 09; then 01000100, 02000100, 03000100
    ∷ sheet (head7 w ++ (dealer_line w 0x31 0x35 ++ (dealer_line w 0x32 0x37 ++ dealer_line w 0x33 0x39)))
    (printed_line w 0x31 0x30 0x31 ++ (printed_line w 0x32 0x30 0x31 ++ printed_line w 0x33 0x30 0x31))
    (alone ++ (decided_part w 0 ++ (decided_part w 0 ++ decided_part w 0)))
    -- 9: then 00050000, 01050000, 02050000
    ∷ sheet (head9 w ++ liar9 w)
    (printed_line w 0x30 0x35 0x30 ++ (printed_line w 0x31 0x35 0x30 ++ printed_line w 0x32 0x35 0x30))
    (five_parts w)
    -- sheets that are turned down: an empty one, FF160001; case 9 with its frame twice, FF180003
    ∷ refused_sheet [] (0x46 ∷ 0x46 ∷ 0x31 ∷ 0x36 ∷ 0x30 ∷ 0x30 ∷ 0x30 ∷ 0x31 ∷ 0x0A ∷ [])
    ∷ refused_sheet (head9 w ++ (liar9 w ++ liar9 w)) (0x46 ∷ 0x46 ∷ 0x31 ∷ 0x38 ∷ 0x30 ∷ 0x30 ∷ 0x30 ∷ 0x33 ∷ 0x0A ∷ [])
    -- 10
    ∷ stored 16 0 no_entries (0x0F ∷ []) 0x0F
    ∷ stored 16 0 no_entries (0x10 ∷ []) 0
    -- 02 a, no sets: n = 1 prints 00050000; n = 4 prints 00050000, 01050000, 02050000, 03050000; F = 01 is turned down, FF170001
    ∷ admit 1 [] 0 []
    ∷ admit 4 [] 0 []
    ∷ schedule 1 [] 0 0 1 1 1
    ∷ schedule 4 [] 0 4 1 1 1
    ∷ tree 4 [] 0 1
    ∷ sheet (bare_head w 0x31 0x30) (printed_line w 0x30 0x35 0x30) []
    ∷ sheet (bare_head w 0x34 0x30)
    (printed_line w 0x30 0x35 0x30 ++ (printed_line w 0x31 0x35 0x30 ++ (printed_line w 0x32 0x35 0x30 ++ printed_line w 0x33 0x35 0x30)))
    (alone ++ (decided_part w 5 ++ (decided_part w 5 ++ decided_part w 5)))
    ∷ refused_sheet (bare_head w 0x34 0x31) (0x46 ∷ 0x46 ∷ 0x31 ∷ 0x37 ∷ 0x30 ∷ 0x30 ∷ 0x30 ∷ 0x31 ∷ 0x0A ∷ [])
    -- 02 b, the default 7. A dealer that is silent: all decide 7. One that says 05, 06 and 09: the root is unresolved, all decide 7
    -- and list it. One whose frames to boards 2 and 3 are misfits: all decide 7.
    ∷ sheet (four_head w 0x30 0x37 0x31) (seven_lines w 0x30) (seven_parts w)
    ∷ sheet (four_head w 0x30 0x37 0x31 ++ (dealer_line w 0x31 0x35 ++ (dealer_line w 0x32 0x36 ++ dealer_line w 0x33 0x39))) (seven_lines w 0x31) (seven_parts w)
    ∷ sheet (four_head w 0x30 0x37 0x31 ++ (dealer_line w 0x31 0x35 ++ (misfit_line w 0x32 ++ misfit_line w 0x33))) (seven_lines w 0x30) (seven_parts w)
    -- 02 g: the same with frames of three bytes
    ∷ sheet (four_head w 0x30 0x37 0x31 ++ (dealer_line w 0x31 0x35 ++ (odd_line 0x32 ++ odd_line 0x33))) (seven_lines w 0x30) (seven_parts w)
    -- a value below m, one of m, a misfit frame, a frame of a listed board
    ∷ stored 16 7 no_entries (0x0F ∷ []) 0x0F
    ∷ stored 16 7 no_entries (0x10 ∷ []) 7
    ∷ stored 16 7 no_entries (0x05 ∷ 0x05 ∷ []) 7
    ∷ stored 16 7 (one_entry 0 1 2 (Rule.G 1)) (0x05 ∷ []) 7
    -- a masked board: nodes 0 1 2, 0 1 3 and 0 1 4 have 7, 7 and 5, so board 1 is listed, and 0 2 1 and 0 3 1 become the default, 6
    ∷ gathered 6 (5 ∷ 7 ∷ 5 ∷ 7 ∷ 5 ∷ 7 ∷ 7 ∷ 5 ∷ 9 ∷ 5 ∷ 5 ∷ 9 ∷ 7 ∷ 7 ∷ 9 ∷ 9 ∷ 9 ∷ []) (1 ∷ 1 ∷ 3 ∷ 0x47 ∷ 2 ∷ [])
    (5 ∷ 7 ∷ 5 ∷ 7 ∷ 5 ∷ 7 ∷ 7 ∷ 5 ∷ 6 ∷ 5 ∷ 5 ∷ 6 ∷ 7 ∷ 7 ∷ 9 ∷ 9 ∷ 9 ∷ [])
    -- a cell of m: 0 3 holds 16, and board 2 copies the default, 6, to its child 0 3 2
    ∷ gathered 6 (5 ∷ 5 ∷ 5 ∷ 0x10 ∷ 5 ∷ 5 ∷ 5 ∷ 5 ∷ 5 ∷ 5 ∷ 5 ∷ 6 ∷ 9 ∷ 6 ∷ 9 ∷ 9 ∷ 9 ∷ []) []
    (5 ∷ 5 ∷ 5 ∷ 0x10 ∷ 5 ∷ 5 ∷ 5 ∷ 5 ∷ 5 ∷ 5 ∷ 5 ∷ 6 ∷ 6 ∷ 6 ∷ 9 ∷ 9 ∷ 9 ∷ [])
    -- 26 after 7, before 8, and a default of m - 1; a sheet with a default of m, FF1A0001
    ∷ refuse 4 (0x01 ∷ 0x02 ∷ 0x04 ∷ 0x08 ∷ []) 0 1 1 0 7
    ∷ refuse 4 (0x01 ∷ 0x02 ∷ 0x04 ∷ 0x08 ∷ []) 0 16 16 0 26
    ∷ refuse 4 (0x01 ∷ 0x02 ∷ 0x04 ∷ 0x08 ∷ []) 0 16 16 3 26
    ∷ refuse 4 (0x01 ∷ 0x02 ∷ 0x04 ∷ 0x08 ∷ []) 0 16 15 3 8
    ∷ refuse 4 (0x01 ∷ 0x02 ∷ 0x04 ∷ 0x08 ∷ []) 0 16 15 0 0
    ∷ refused_sheet (four_head w 0x31 0x30 0x31) (0x46 ∷ 0x46 ∷ 0x31 ∷ 0x41 ∷ 0x30 ∷ 0x30 ∷ 0x30 ∷ 0x31 ∷ 0x0A ∷ [])
    -- 02 c, the place of a list. As 8 with the sets 08, 01, 01, 02, 04: the first that holds 01 is at 1, 01000101, 02000101, 03000101
    ∷ sheet (later_head w 0x31 ++ (dealer_line w 0x31 0x35 ++ (dealer_line w 0x32 0x37 ++ dealer_line w 0x33 0x39)))
    (placed_line w 0x31 0x30 0x31 0x31 ++ (placed_line w 0x32 0x30 0x31 0x31 ++ placed_line w 0x33 0x30 0x31 0x31))
    (alone ++ (decided_part w 0 ++ (decided_part w 0 ++ decided_part w 0)))
    -- the sets 00 and 09, F = 08; board 3 tells board 1 that the dealer said 05, and board 2 that it said 07: both list it, at place 1,
    -- and the dealer's place is 00: 00050000, 01050801, 02050801
    ∷ sheet (pair_head w 0x38 ++ (liar_line w 0x31 0x35 ++ liar_line w 0x32 0x37))
    (placed_line w 0x30 0x35 0x30 0x30 ++ (placed_line w 0x31 0x35 0x38 0x31 ++ placed_line w 0x32 0x35 0x38 0x31))
    (five_parts w)
    -- 02 d, entries. 8: board 1 lists the dealer in run 1 and round 2, by rule G at level 1
    ∷ logged (head7 w ++ (dealer_line w 0x31 0x35 ++ (dealer_line w 0x32 0x37 ++ dealer_line w 0x33 0x39))) 1 (0 ∷ 1 ∷ 2 ∷ 0x47 ∷ 1 ∷ [])
    -- 9: nobody is listed
    ∷ logged (head9 w ++ liar9 w) 1 []
    -- five boards; the dealer tells board 3 another value, and board 1 tells each another one: in round 3 board 2 lists board 1 by rule G at
    -- level 2, and the dealer by rule C at level 1: 0 1 resolves to 9 and 0 3 to 7, and boards 1 and 3 are no tolerated set
    ∷ logged (five_head w ++ (dealer_line w 0x32 0x35 ++ (dealer_line w 0x33 0x37 ++ (dealer_line w 0x34 0x35
    ++ (second_line w 0x31 0x32 0x35 ++ (second_line w 0x31 0x33 0x38 ++ second_line w 0x31 0x34 0x39)))))) 2 (0 ∷ 1 ∷ 3 ∷ 0x43 ∷ 1 ∷ (1 ∷ 1 ∷ 3 ∷ 0x47 ∷ 2 ∷ []))
    -- number 12: R is 3, and there is one run. Levels 1 and 2, also where the rule would not have them; then 0 and 3, a run or a round
    -- that the plan lacks, and board 5
    ∷ entered 4 1 3 (Rule.G 2) 19
    ∷ entered 0 1 3 (Rule.G 1) 19
    ∷ entered 0 1 1 (Rule.C 1) 19
    ∷ entered 0 1 2 (Rule.G 0) 12
    ∷ entered 0 1 3 (Rule.G 3) 12
    ∷ entered 0 1 3 (Rule.C 0) 12
    ∷ entered 0 1 3 (Rule.C 3) 12
    ∷ entered 0 2 3 (Rule.C 1) 12
    ∷ entered 0 0 3 (Rule.C 1) 12
    ∷ entered 0 1 4 (Rule.G 2) 12
    ∷ entered 0 1 0 (Rule.G 1) 12
    ∷ entered 5 1 3 (Rule.G 2) 12
    ∷ []
