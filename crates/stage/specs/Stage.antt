-- All boards of a session, and what they do in turn. A middle layer: what boards do is `session` of the protocol.
use Rattle.std.specs.Prelude.{ℕ, zero, suc, ◌*◌, ◌≤◌, Bool, false, not, ◌&&◌, cond, List, [], eqb, length, get_or, set}
use Rattle.sets.specs.Sets.{member}
use Rattle.tree.specs.Places.{cell_count}
use Rattle.protocol.specs.declared.records.Record.{Record}
use Rattle.protocol.specs.Rounds.{board_with, Board}
use Rattle.sheet.specs.declared.head.Head.{Head}
use Rattle.sheet.specs.Playing.{part, replace_part}

-- The records of all boards, and the buffer with their cells.
pub record Stage : Type 0 where
  pub recs : List Record
  pub cells : List ℕ

-- At most seven boards, and each one's part lies within the cells.
pub record Roomy (h : Head) (cells : List ℕ) : Type 0 where
  pub few : h.plan.n ≤ 7
  pub room : h.plan.n * cell_count h.plan.n ≤ length cells

-- Stands past the end of the records.
abbrev pub no_record : Record
no_record = record {
  plan = record { n = 0; dealer = 0; span = 0; default = 0; depth = 0; count = 0; sets = [] };
  board = 0;
  run = record { 0 = 0 };
  round = record { 0 = 0 };
  list = [];
  marks = 0;
  decided = false;
  decision = 0;
}

-- Board i with its part of the cells.
unfoldable pub board_on : ℕ → Stage → ℕ → Board
board_on n st i = board_with (get_or st.recs i no_record) (part n i st.cells)

-- Does board i keep cells, and is it outside F?
unfoldable pub keeps : Head → ℕ → Bool
keeps h i = not (member i h.faulty) && not (eqb i h.plan.dealer)

unfoldable pub put_board : ℕ → ℕ → Board → Stage → Stage
put_board n i b st = record { recs = set st.recs i b.rec; cells = replace_part n i b.cells st.cells }

-- The boards below k that keep cells do f, rising.
unfoldable pub on_stage : Head → (ℕ → Board → Board) → ℕ → Stage → Stage
on_stage h f zero st = st
on_stage h f (suc k) st =
    let before = on_stage h f k st in
    let next = put_board h.plan.n k (f k (board_on h.plan.n before k)) before in
    cond (keeps h k) next before
