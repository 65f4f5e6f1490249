-- What is printed, from what the code has in hand. A middle layer: what `bench` prints is `bench_prints` of sheet/Playing.
use Rattle.std.specs.Prelude.{ℕ, ◌&&◌, cond, List, [], map, ◌++◌, eqb, leb, length, drop}
use Rattle.codec.specs.Codec.{current}
use Rattle.sets.specs.Structure.{held_at}
use Rattle.plan.specs.Listed.{listed}
use Rattle.protocol.specs.Limits.{output_needed}
use Rattle.protocol.specs.declared.records.Record.{Record}
use Rattle.protocol.specs.Listing.{as_set}
use Rattle.protocol.specs.Session.{Boards}
use Rattle.sheet.specs.declared.head.Head.{Head}
use Rattle.sheet.specs.Playing.{printed, print_boards}
use Rattle.protocol.specs.Rounds.{board_with}

-- Boards with these records; printing reads no cells.
unfoldable pub boards_of : List Record → Boards
boards_of records = map (λ r. board_with r ([])) records

-- The line of board i, outside F, with record r: the dealer's has its value, an empty list and place 0.
unfoldable pub healthy_line : Head → ℕ → Record → List ℕ → List ℕ
healthy_line h i r rest =
    let list = as_set r.list in
    let keepers = printed current i r.decision list (held_at (listed h.plan) list) rest in
    cond (eqb i h.plan.dealer) (printed current i h.word 0 0 rest) keepers

-- The lines of all boards outside F; nothing for more than seven boards, or if the output is too short.
unfoldable pub board_lines : Head → List Record → List ℕ → List ℕ
board_lines h records out =
    let text = print_boards current h (boards_of records) 0 h.plan.n in
    cond (leb h.plan.n 7 && leb (output_needed current) (length out)) text []

-- How many bytes of the output are to be printed, and the output.
pub record Output : Type 0 where
  pub count : ℕ
  pub out : List ℕ

-- A text at the front of the output, whose rest stays.
abbrev pub at_front : List ℕ → List ℕ → Output
at_front text out = record { count = length text; out = text ++ drop (length text) out }
