-- The lines of the boards, one more at a time; what they depend on, and how long they are.
-- Assumes nothing.
use Prim.Native.Nat.{ℕ, zero, suc, ◌+◌, ◌*◌, ◌≤◌, ◌<◌}
use mathlib.Core.Path.{◌≡◌, refl, sym, ap, ap₂, ◌∙◌}
use mathlib.Core.Logic.{◌≢◌}
use mathlib.Core.Bool.{true, false}
use mathlib.Core.List.{List, [], ◌∷◌, ◌++◌, append_assoc, append-nil}
use native.Mathlib.Numerals.{add-one}
use native.Mathlib.Omega.{arith}
use lib.Dec.{eqb, leb}
use lib.ListN.{length, get_or, length-append, get_or-map}
use lib.Seq.{sets}
use borrow.Author.Tests.{eqb-false, lt-leb, le-leb}
use Rattle.codec.specs.Codec.{current, encode}
use Rattle.sets.specs.Sets.{member}
use Rattle.sets.specs.Structure.{held_at}
use Rattle.plan.specs.Listed.{listed}
use Rattle.sets.proofs.Tests.{cases}
use Rattle.protocol.specs.Limits.{line_length, output_needed}
use Rattle.protocol.specs.declared.records.Record.{Record}
use Rattle.protocol.specs.Calls.{void_record}
use Rattle.protocol.specs.Listing.{as_set}
use Rattle.protocol.specs.Rounds.{board_with, Board}
use Rattle.protocol.specs.Session.{Boards, board_at, nobody}
use Rattle.sheet.specs.declared.head.Head.{Head}
use Rattle.hexadecimal.specs.Hex.{hex_byte, hex_bytes}
use Rattle.sheet.specs.Playing.{hex_value, printed, board_line, print_boards}
use Rattle.printer.specs.Printed.{boards_of, healthy_line, board_lines, at_front}
use Rattle.printer.proofs.Stores.{stores-more}

-- The record of board i.
pub record-at : (records : List Record) (i : ℕ) → (board_at (boards_of records) i).rec ≡ get_or records i void_record
unfolding board_at boards_of nobody
record-at records i = ap (λ (b : Board). b.rec) (get_or-map (λ (r : Record). board_with r ([])) records i void_record)

-- The same as the code reads it, with another record past the end.
pub record-there : (records : List Record) (i : ℕ) (other : Record) → i < length records
    → get_or records i other ≡ (board_at (boards_of records) i).rec
unfolding board_at boards_of nobody
record-there [] i other l = absurd (omega arith)
record-there (r ∷ rs) zero other l = refl
record-there (r ∷ rs) (suc i) other l = record-there rs i other (omega arith)

-- The line of a board i that keeps cells.
abbrev keeper_line : Head → Record → ℕ → List ℕ → List ℕ
keeper_line h r i rest = printed current i r.decision (as_set r.list) (held_at (listed h.plan) (as_set r.list)) rest

module _ (h : Head) (w : Boards) where
  -- The line of board i, by its kind.
  pub line-faulty : (i : ℕ) (rest : List ℕ) → member i h.faulty ≡ true → board_line current h w i rest ≡ rest
  unfolding board_line
  line-faulty i rest f = rw f refl

  pub line-dealer : (i : ℕ) (rest : List ℕ) → member i h.faulty ≡ false → eqb i h.plan.dealer ≡ true
      → board_line current h w i rest ≡ printed current i h.word 0 0 rest
  unfolding board_line
  line-dealer i rest f d = rw (f, d) refl

  pub line_other : (i : ℕ) (rest : List ℕ) → member i h.faulty ≡ false → eqb i h.plan.dealer ≡ false
      → board_line current h w i rest ≡ keeper_line h (board_at w i).rec i rest
  unfolding board_line
  line_other i rest f d = rw (f, d) refl

  -- A line stands before the rest.
  line_first : (i : ℕ) (rest : List ℕ) → board_line current h w i rest ≡ board_line current h w i [] ++ rest
  unfolding encode printed hex_byte hex_bytes hex_value
  line_first i rest =
      cases (member i h.faulty)
      (λ f. rw (line-faulty i rest f, line-faulty i [] f) refl)
      (λ f. cases (eqb i h.plan.dealer)
      (λ d. rw (line-dealer i rest f d, line-dealer i [] f d) refl)
      (λ d. rw (line_other i rest f d, line_other i [] f d) refl))

  -- One board more.
  lines-last : (i k : ℕ) → print_boards current h w i (suc k) ≡ print_boards current h w i k ++ board_line current h w (i + k) []
  unfolding print_boards
  lines-last i zero = ap (λ j. board_line current h w j []) (let z : i ≡ i + 0 = omega arith in z)
  lines-last i (suc k) =
      let z : suc i + k ≡ i + suc k = omega arith in
      ap (board_line current h w i) (lines-last (suc i) k)
      ∙ line_first i _
      ∙ sym (append_assoc (board_line current h w i []) (print_boards current h w (suc i) k) (board_line current h w (suc i + k) []))
      ∙ ap₂ ◌++◌ (sym (line_first i (print_boards current h w (suc i) k))) (ap (λ j. board_line current h w j []) z)

  pub lines_more : (k : ℕ) → print_boards current h w 0 (k + 1) ≡ print_boards current h w 0 k ++ board_line current h w k []
  lines_more k =
      let z : 0 + k ≡ k = omega arith in
      ap (print_boards current h w 0) (add-one k) ∙ lines-last 0 k ∙ ap (λ j. print_boards current h w 0 k ++ board_line current h w j []) z

  pub lines_none : print_boards current h w 0 0 ≡ []
  unfolding print_boards
  lines_none = refl

  -- A line has its length, or nothing is printed.
  pub line-size : (i : ℕ) → member i h.faulty ≡ false → length (board_line current h w i []) ≡ line_length current
  unfolding encode printed hex_byte hex_bytes hex_value
  line-size i f = cases (eqb i h.plan.dealer) (λ d. rw (line-dealer i [] f d) refl) (λ d. rw (line_other i [] f d) refl)

  pub print-short : (k : ℕ) → length (print_boards current h w 0 k) ≤ line_length current * k
  print-short zero = rw lines_none (omega arith)
  print-short (suc k) =
      let e = ap length (lines-last 0 k) ∙ length-append (print_boards current h w 0 k) (board_line current h w (0 + k) []) in
      let l : length (board_line current h w (0 + k) []) ≤ line_length current =
      cases (member (0 + k) h.faulty) (λ f. rw (line-faulty (0 + k) [] f) (omega arith)) (λ f. omega (arith, line-size (0 + k) f)) in
      omega (arith, e, l, print-short k)

  -- The line of a board outside F.
  pub line-healthy : (i : ℕ) (r : Record) → r ≡ (board_at w i).rec → member i h.faulty ≡ false → healthy_line h i r [] ≡ board_line current h w i []
  unfolding healthy_line
  line-healthy i r e f =
      cases (eqb i h.plan.dealer)
      (λ d. rw d (sym (line-dealer i [] f d)))
      (λ d. rw d (ap (λ x. keeper_line h x i []) e ∙ sym (line_other i [] f d)))

  -- A turn of the loop: the line is stored after those before it, or there is none.
  pub one_more : (i used : ℕ) (out₀ out next line : List ℕ) → used ≡ length (print_boards current h w 0 i) → out ≡ sets out₀ 0 (print_boards current h w 0 i)
      → member i h.faulty ≡ false → line ≡ board_line current h w i [] → next ≡ sets out used line
      → (used + line_length current ≡ length (print_boards current h w 0 (i + 1))) × (next ≡ sets out₀ 0 (print_boards current h w 0 (i + 1)))
  one_more i used out₀ out next line eu eo f el en =
      let e = lines_more i in
      let size = ap length e ∙ length-append (print_boards current h w 0 i) (board_line current h w i []) in (
        omega (arith, size, line-size i f),
        en ∙ ap₂ (λ o t. sets o used t) eo el ∙ stores-more out₀ (print_boards current h w 0 i) (board_line current h w i []) 0 used (omega arith) ∙ ap (sets out₀ 0) (sym e),
      )

  pub none_more : (i : ℕ) → member i h.faulty ≡ true → print_boards current h w 0 i ≡ print_boards current h w 0 (i + 1)
  none_more i f = sym (lines_more i ∙ ap (λ t. print_boards current h w 0 i ++ t) (line-faulty i [] f) ∙ append-nil (print_boards current h w 0 i))

-- What `print_boards` prints: nothing, or the lines.
module _ (h : Head) (records : List Record) (out : List ℕ) where
  abbrev text : List ℕ
  text = board_lines h records out

  nothing : text ≡ [] → record { count = 0; out = out } ≡ at_front text out
  nothing e = rw e refl

  pub many-boards : 7 < h.plan.n → record { count = 0; out = out } ≡ at_front text out
  unfolding board_lines
  many-boards l = nothing (rw (lt-leb h.plan.n 7 l) refl)

  pub short-output : length out < output_needed current → record { count = 0; out = out } ≡ at_front text out
  unfolding board_lines
  short-output l = nothing (cases (leb h.plan.n 7) (λ e. rw (e, lt-leb (output_needed current) (length out) l) refl) (λ e. rw e refl))

  pub all_lines : h.plan.n ≤ 7 → output_needed current ≤ length out → text ≡ print_boards current h (boards_of records) 0 h.plan.n
  unfolding board_lines
  all_lines l m = rw (le-leb h.plan.n 7 l, le-leb (output_needed current) (length out) m) refl

-- What is printed depends on the records of the boards that are neither the dealer nor in F.
module _ (h : Head) (w w' : Boards) where
  line_same : (i : ℕ) (rest : List ℕ) → (member i h.faulty ≡ false → i ≢ h.plan.dealer → (board_at w i).rec ≡ (board_at w' i).rec)
      → board_line current h w i rest ≡ board_line current h w' i rest
  line_same i rest same =
      cases (member i h.faulty)
      (λ f. line-faulty h w i rest f ∙ sym (line-faulty h w' i rest f))
      (λ f. cases (eqb i h.plan.dealer)
      (λ d. line-dealer h w i rest f d ∙ sym (line-dealer h w' i rest f d))
      (λ d. line_other h w i rest f d
      ∙ ap (λ (r : Record). keeper_line h r i rest) (same f (eqb-false i h.plan.dealer d))
      ∙ sym (line_other h w' i rest f d)))

  pub print-same : (k : ℕ) → ((i : ℕ) → i < k → member i h.faulty ≡ false → i ≢ h.plan.dealer → (board_at w i).rec ≡ (board_at w' i).rec)
      → print_boards current h w 0 k ≡ print_boards current h w' 0 k
  print-same zero same = lines_none h w ∙ sym (lines_none h w')
  print-same (suc k) same =
      let z : 0 + k ≡ k = omega arith in
      lines-last h w 0 k
      ∙ ap₂ ◌++◌ (print-same k (λ i l. same i (omega arith))) (line_same (0 + k) [] (rw z (same k (omega arith))))
      ∙ sym (lines-last h w' 0 k)

-- For records in hand: the lines are those of boards with these records.
pub lines-played : (h : Head) (w : Boards) (records : List Record) (out : List ℕ) → h.plan.n ≤ 7 → output_needed current ≤ length out
    → ((i : ℕ) → i < h.plan.n → member i h.faulty ≡ false → i ≢ h.plan.dealer → get_or records i void_record ≡ (board_at w i).rec)
    → board_lines h records out ≡ print_boards current h w 0 h.plan.n
lines-played h w records out l m same =
    all_lines h records out l m ∙ print-same h (boards_of records) w h.plan.n (λ i b f d. record-at records i ∙ same i b f d)
