-- The sentences of 01 about one board, each as one short law: what a beginning, a frame, a listed sender, a missing frame, the board's own cells
-- and the end of a run do to a board. They are the first proofs to fail where a definition says something else.
-- Assumes nothing.
use Prim.Native.Nat.{ℕ, suc, ◌-◌, ◌≤◌, ◌<◌}
use mathlib.Core.Path.{◌≡◌, refl, ◌∙◌}
use mathlib.Core.Bool.{true}
use mathlib.Core.List.{List, []}
use native.Mathlib.Omega.{arith}
use lib.Dec.{eqb}
use lib.ListN.{length, get_or, length-append, length-drop, get_or-append, length-replicate, get_or-replicate, replicate, drop}
use Rattle.codec.specs.Codec.{Width, blank}
use Rattle.sets.specs.Sets.{member}
use Rattle.sets.proofs.Tests.{cases}
use Rattle.plan.specs.declared.plan.Plan.{Plan}
use Rattle.schedule.specs.Schedule.{runs, rounds}
use Rattle.schedule.specs.declared.rounds.Round.{Round}
use Rattle.tree.specs.Labels.{Label}
use Rattle.tree.specs.Places.{cell_count}
use Rattle.protocol.specs.declared.records.Slot.{Slot}
use Rattle.protocol.specs.declared.records.Record.{Record}
use Rattle.protocol.specs.Nodes.{sent, due, frame}
use Rattle.protocol.specs.Detection.{Scan, resolve_root, detect_levels}
use Rattle.protocol.specs.Records.{run_ended}
use Rattle.protocol.specs.Rounds.{Board, fill, counted, receive, fill_missing, convert, copy_own, cleared}
use Rattle.protocol.specs.Listing.{as_set}

-- 01: "A place with no value yet, or no node, holds FF" (02 g: FFFF).
pub begun-blank : (w : Width) (n : ℕ) (cells : List ℕ) (x : ℕ) → x < cell_count n → get_or (cleared w n cells) x 0 ≡ blank w
begun-blank w n cells x l =
    get_or-append (replicate (cell_count n) (blank w)) (drop (cell_count n) cells) 0 x (omega (arith, length-replicate (cell_count n) (blank w)))
    ∙ get_or-replicate (cell_count n) x (blank w) 0 l

-- A beginning keeps the number of cells.
pub begun-length : (w : Width) (n : ℕ) (cells : List ℕ) → cell_count n ≤ length cells → length (cleared w n cells) ≡ length cells
begun-length w n cells h =
    omega (
      arith,
      length-append (replicate (cell_count n) (blank w)) (drop (cell_count n) cells),
      length-replicate (cell_count n) (blank w),
      length-drop (cell_count n) cells,
    )

-- 01: "a frame from a listed board" counts as 0 throughout, 02 b: as the default: it has no values.
pub listed-silent : (list : List Slot) (q : ℕ) (αs : List Label) (f : List ℕ) → member q (as_set list) ≡ true → counted list q αs f ≡ []
unfolding counted
listed-silent list q αs f on = cases (eqb (length f) (length αs)) (λ e. rw (e, on) refl) (λ e. rw e refl)

-- 01: "the board copies its own cells to its own child nodes".
pub own-copied : (p : Plan) (i : ℕ) (k : Round) (cells : List ℕ) → copy_own p i k cells ≡ fill p i (sent p i i k) (frame p i i k cells) cells
unfolding copy_own
own-copied p i k cells = refl

-- A frame that is taken goes to the children of its sender.
pub frame-stored : (q : ℕ) (f : List ℕ) (b : Board)
    → let r = b.rec in let αs = sent r.plan q r.board r.round in (receive q f b).cells ≡ fill r.plan q αs (counted r.list q αs f) b.cells
unfolding receive
frame-stored q f b = refl

-- A frame that was taken stays as it is.
pub taken-stays : (r : Record) (k : ℕ) (cells : List ℕ) → member k r.marks ≡ true → fill_missing r.plan r.board r.round r.marks (suc k) cells ≡ fill_missing r.plan r.board r.round r.marks k cells
unfolding fill_missing
taken-stays r k cells m = cases (due r.plan k r.board r.round) (λ d. rw (d, m) refl) (λ d. rw d refl)

module _ (b : Board) (s : Scan) where
  -- 01: "L stays": a run ends with the list that rule G left, and whom rule C adds.
  pub list-stays : let r = b.rec in
      (convert b s).rec.list ≡ detect_levels r.plan r.board r.run r.round s.cells ((rounds r.plan).0 - 1) s.list
  unfolding convert run_ended
  list-stays = refl

  -- A board decides as the last run ends, and on the root.
  pub decides-last : (convert b s).rec.decided ≡ eqb b.rec.run.0 (runs b.rec.plan).0
  unfolding convert run_ended
  decides-last = refl

  pub decides-root : eqb b.rec.run.0 (runs b.rec.plan).0 ≡ true → (convert b s).rec.decision ≡ resolve_root b.rec.plan b.rec.board s.cells
  unfolding convert run_ended
  decides-root e = rw e refl
