-- What happens to a board's record and cells in a round, when no call is turned down.
use Rattle.std.specs.Prelude.{ℕ, zero, suc, ◌-◌, not, ◌&&◌, cond, List, [], ◌∷◌, ◌++◌, eqb, ltb, length, drop, replicate}
use Rattle.codec.specs.Codec.{Width, current, blank}
use Rattle.sets.specs.Sets.{member}
use Rattle.plan.specs.declared.plan.Plan.{Plan}
use Rattle.schedule.specs.declared.rounds.Round.{Round}
use Rattle.schedule.specs.Schedule.{rounds}
use Rattle.tree.specs.Labels.{Label}
use Rattle.tree.specs.Places.{cell_count}
use Rattle.tree.specs.Cells.{store}
use Rattle.protocol.specs.declared.records.Slot.{Slot}
use Rattle.protocol.specs.declared.records.Record.{Record}
use Rattle.plan.specs.Values.{default, value}
use Rattle.protocol.specs.Listing.{as_set}
use Rattle.protocol.specs.Records.{marked, advanced, run_ended}
use Rattle.protocol.specs.Nodes.{inner, sent, due, frame}
use Rattle.protocol.specs.Detection.{Scan, detect_all_g, resolve_root, detect_levels}

-- A board: how wide its values are, its record and its cells.
pub record Board : Type 0 where
  pub width : Width
  pub rec : Record
  pub cells : List ℕ

-- The board of a width with a record and cells; the code's boards, of width `current`; a board with another record and other cells.
abbrev pub board_of : Width → Record → List ℕ → Board
board_of w r cells = record { width = w; rec = r; cells = cells }

abbrev pub board_with : Record → List ℕ → Board
board_with r cells = board_of current r cells

abbrev pub onto : Board → Record → List ℕ → Board
onto b r cells = board_of b.width r cells

-- 01: "the receiver stores each at that node's child q"; where values are lacking, the default.
unfoldable pub fill : Plan → ℕ → List Label → List ℕ → List ℕ → List ℕ
fill p q [] vs cells = cells
fill p q (α ∷ αs) [] cells = fill p q αs [] (store p.n cells (q ∷ α) (default p))
fill p q (α ∷ αs) (v ∷ vs) cells = fill p q αs vs (store p.n cells (q ∷ α) (value p v))

-- 01: "A frame of another length, .. and a frame from a listed board all count as 0 throughout", 02 b: as the default: such a frame has
-- no values.
unfoldable pub counted : List Slot → ℕ → List Label → List ℕ → List ℕ
counted list q αs f = cond (eqb (length f) (length αs) && not (member q (as_set list))) f []

-- A frame of board q is taken. 01: "the receiver stores each at that node's child q".
unfoldable pub receive : ℕ → List ℕ → Board → Board
receive q f b =
    let r = b.rec in
    let αs = sent r.plan q r.board r.round in
    onto b (marked q r) (fill r.plan q αs (counted r.list q αs f) b.cells)

-- 01: "due frames not handed in are stored so": of the boards below j, to board i in round k, where `marks` were handed in.
unfoldable pub fill_missing : Plan → ℕ → Round → ℕ → ℕ → List ℕ → List ℕ
fill_missing p i k marks zero cells = cells
fill_missing p i k marks (suc q) cells =
    let before = fill_missing p i k marks q cells in
    let stored = fill p q (sent p q i k) [] before in
    cond (due p q i k && not (member q marks)) stored before

-- 01: "the board copies its own cells to its own child nodes".
unfoldable pub copy_own : Plan → ℕ → Round → List ℕ → List ℕ
copy_own p i k cells = fill p i (sent p i i k) (frame p i i k cells) cells

-- 01: "Closing a round: .. then, from round 2, rule G runs over the internal nodes of level k − 1 in cell order."
unfoldable pub gather : Board → Scan
gather b =
    let r = b.rec in
    let p = r.plan in
    let i = r.board in
    let k = r.round in
    detect_all_g p i r.run k (inner p i (k.0 - 1))
    (record { list = r.list; cells = copy_own p i k (fill_missing p i k r.marks p.n b.cells) })

-- 01: "The resolved root becomes the root cell, all other cells FF" (02 g: FFFF). Surplus cells stay.
unfoldable pub root_only : Width → ℕ → ℕ → List ℕ → List ℕ
root_only w n root cells = (root ∷ replicate (cell_count n - 1) (blank w)) ++ drop (cell_count n) cells

-- The cells of a board that begins. 01: "A place with no value yet, or no node, holds FF" (02 g: FFFF). Surplus cells stay.
abbrev pub cleared : Width → ℕ → List ℕ → List ℕ
cleared w n cells = replicate (cell_count n) (blank w) ++ drop (cell_count n) cells

-- The next round of the same run.
unfoldable pub next_round : Board → Scan → Board
next_round b s = onto b (advanced b.rec s.list) s.cells

-- 01: "Closing round R also converts".
unfoldable pub convert : Board → Scan → Board
convert b s =
    let r = b.rec in
    let p = r.plan in
    let root = resolve_root p r.board s.cells in
    let list = detect_levels p r.board r.run r.round s.cells ((rounds p).0 - 1) s.list in
    onto b (run_ended r list root) (root_only b.width p.n root s.cells)

-- A round is closed. 01: "Then comes round 2 of the next run, or the decision"; before round R the next round.
unfoldable pub close : Board → Board
close b =
    let s = gather b in
    let next = next_round b s in
    let ended = convert b s in
    cond (ltb b.rec.round.0 (rounds b.rec.plan).0) next ended
