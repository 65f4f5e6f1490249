-- Playing a sheet: every byte of the output and every cell.
use Rattle.std.specs.Prelude.{ℕ, zero, suc, ◌+◌, ◌*◌, ◌/◌, ◌%◌, ◌&&◌, ◌||◌, cond, List, [], ◌∷◌, ◌++◌, eqb, ltb, length, get_or, take, drop}
use Rattle.std.proofs.Math.Option.{Option, some, none}
use Rattle.codec.specs.Codec.{Width, encode, decode}
use Rattle.hexadecimal.specs.Hex.{hex_byte, hex_bytes}
use Rattle.sets.specs.Sets.{member}
use Rattle.sets.specs.Structure.{held_at}
use Rattle.plan.specs.Listed.{listed}
use Rattle.schedule.specs.declared.rounds.Run.{Run}
use Rattle.schedule.specs.declared.rounds.Round.{Round}
use Rattle.schedule.specs.Schedule.{steps, step_run, step_round}
use Rattle.refusals.specs.Outcome.{Outcome, taken, refused}
use Rattle.tree.specs.Places.{cell_count}
use Rattle.protocol.specs.Limits.{sheet_most, output_needed, cells_needed}
use Rattle.protocol.specs.Listing.{as_set}
use Rattle.protocol.specs.Session.{Adversary, Setting, Boards, board_at, session}
use Rattle.sheet.specs.declared.head.Head.{Head}
use Rattle.sheet.specs.Sheet.{Frame, wrong_at, reading}

-- The bytes of the sheet's frame for a run, a round, a sender and a receiver, if it has one.
unfoldable pub find_frame : Run → Round → ℕ → ℕ → List Frame → Option (List ℕ)
find_frame t k q i [] = none
find_frame t k q i (f ∷ fs) =
    let rest = find_frame t k q i fs in
    cond ((eqb f.run.0 t.0 && eqb f.round.0 k.0) && (eqb f.sender q && eqb f.receiver i)) (some f.values) rest

-- The values of a frame's bytes, if there is one.
unfoldable pub decoded : Width → Option (List ℕ) → Option (List ℕ)
decoded w none = none
decoded w (some f) = some (decode w f)

-- What the faulty boards do: step j, from 0, is round number j + 1 over all runs.
unfoldable pub sheet_adversary : Width → Head → List Frame → Adversary
sheet_adversary w h fs i j q = let p = h.plan in decoded w (find_frame (step_run p (suc j)) (step_round p (suc j)) q i fs)

-- 01: "Board i's part starts at i times the cells for n".
unfoldable pub part : ℕ → ℕ → List ℕ → List ℕ
part n i cells = take (cell_count n) (drop (i * cell_count n) cells)

unfoldable pub replace_part : ℕ → ℕ → List ℕ → List ℕ → List ℕ
replace_part n i new cells = take (i * cell_count n) cells ++ (new ++ drop (i * cell_count n + cell_count n) cells)

unfoldable pub setting : Width → Head → List ℕ → Setting
setting w h cells = record { width = w; plan = h.plan; faulty = h.faulty; word = h.word; buffer = λ i. part h.plan.n i cells }

-- All boards at the end.
unfoldable pub final_boards : Width → Head → List Frame → List ℕ → Boards
final_boards w h fs cells = session (setting w h cells) (sheet_adversary w h fs) (steps h.plan)

-- A value as the digits of its bytes.
unfoldable pub hex_value : Width → ℕ → List ℕ → List ℕ
hex_value w v rest = hex_bytes (encode w (v ∷ [])) rest

-- 01: "prints for each board outside F, rising: board, decision, list as a set"; 02 c: "Each printed line gains a fourth byte"; 02 g,
-- in two bytes: "In printed lines the decision takes two bytes".
unfoldable pub printed : Width → ℕ → ℕ → ℕ → ℕ → List ℕ → List ℕ
printed w i decision list place rest = hex_byte i (hex_value w decision (hex_byte list (hex_byte place (10 ∷ rest))))

-- The line of board i. 02 c: "the place for that board's list, 00 for the dealer". The dealer's line has its value and an empty list.
unfoldable pub board_line : Width → Head → Boards → ℕ → List ℕ → List ℕ
board_line w h bs i rest =
    let b = board_at bs i in
    let list = as_set b.rec.list in
    let keepers = printed w i b.rec.decision list (held_at (listed h.plan) list) rest in
    cond (member i h.faulty) rest (cond (eqb i h.plan.dealer) (printed w i h.word 0 0 rest) keepers)

-- The lines of the boards i to i + k - 1.
unfoldable pub print_boards : Width → Head → Boards → ℕ → ℕ → List ℕ
print_boards w h bs i zero = []
print_boards w h bs i (suc k) = board_line w h bs i (print_boards w h bs (suc i) k)

-- 01: the parts of d and of F, and what lies past part n − 1, are not touched.
unfoldable pub final_cells : Head → Boards → ℕ → List ℕ → List ℕ
final_cells h bs zero cells = cells
final_cells h bs (suc k) cells =
    let rest = final_cells h bs k cells in
    let new = replace_part h.plan.n k (board_at bs k).cells rest in
    cond (member k h.faulty || eqb k h.plan.dealer) rest new

-- What playing leaves: the answer, the cells and the output.
pub record Play : Type 0 where
  pub answer : Outcome
  pub cells : List ℕ
  pub out : List ℕ

unfoldable pub refused_play : Outcome → List ℕ → List ℕ → Play
refused_play o cells out = record { answer = o; cells = cells; out = out }

-- An accepted sheet.
unfoldable pub play_head : Width → Head → List Frame → List ℕ → List ℕ → Play
play_head w h fs cells out =
    let bs = final_boards w h fs cells in
    let text = print_boards w h bs 0 h.plan.n in
    record { answer = taken (length text ∷ []); cells = final_cells h bs h.plan.n cells; out = text ++ drop (length text) out }

-- 01, 'Playing a sheet': 20, 17, 11, then line by line. Values of a refusal begin with its line, 0 if it is no line's.
unfoldable pub playing : Width → List ℕ → List ℕ → List ℕ → Play
playing w text cells out =
    let r = reading w text in
    let accepted = play_head w r.head r.frames cells out in
    cond (ltb sheet_most (length text)) (refused_play (wrong_at 0 (refused 20)) cells out)
    (cond (ltb (length out) (output_needed w)) (refused_play (wrong_at 0 (refused 17)) cells out)
    (cond (ltb (length cells) cells_needed) (refused_play (wrong_at 0 (refused 11)) cells out)
    (cond (eqb r.answer.number 0) accepted (refused_play r.answer cells out))))

-- 01: "If turned down it prints only FF, the number as one byte (24 is 18), and the line in two bytes", and a newline.
unfoldable pub refusal_text : ℕ → ℕ → List ℕ
refusal_text number line = hex_byte 255 (hex_byte number (hex_byte (line / 256) (hex_byte (line % 256) (10 ∷ []))))

-- What the program bench prints for a sheet, with the buffers that it lends.
unfoldable pub bench_prints : Width → List ℕ → List ℕ → List ℕ → List ℕ
bench_prints w text cells out =
    let r = playing w text cells out in
    let first = get_or r.answer.values 0 0 in
    let lines = take first r.out in
    cond (eqb r.answer.number 0) lines (refusal_text r.answer.number first)
