-- A sheet as text: lines, the head, the frames, and the number and line of the first thing that is wrong.
use Rattle.std.specs.Prelude.{ℕ, suc, ◌+◌, Bool, true, false, not, ◌&&◌, ◌||◌, cond, List, [], ◌∷◌, eqb, leb, ltb, length, get_or, take, drop}
use Rattle.std.proofs.Math.Option.{Option, some, none}
use Rattle.codec.specs.Codec.{Width, value_size, number_at}
use Rattle.hexadecimal.specs.Hex.{bytes_of}
use Rattle.sets.specs.Sets.{member, within, boards}
use Rattle.sets.specs.Structure.{tolerated}
use Rattle.settings.specs.declared.settings.Settings.{Settings}
use Rattle.schedule.specs.declared.rounds.Run.{Run}
use Rattle.schedule.specs.declared.rounds.Round.{Round}
use Rattle.schedule.specs.Schedule.{has_round}
use Rattle.refusals.specs.Outcome.{Outcome, taken, refused, and_then}
use Rattle.settings.specs.Planning.{planning}
use Rattle.plan.specs.Calls.{planned}
use Rattle.sheet.specs.declared.head.Head.{Head}
use Rattle.protocol.specs.Nodes.{due}

-- A line, and whether a newline ends it.
pub record Line : Type 0 where
  pub text : List ℕ
  pub ended : Bool

unfoldable pub prepend : ℕ → List Line → List Line
prepend c [] = record { text = c ∷ []; ended = false } ∷ []
prepend c (l ∷ ls) = record { text = c ∷ l.text; ended = l.ended } ∷ ls

-- 01: "each ended by a newline (0A)". Text after the last newline is a line too; nothing after it is none.
unfoldable pub lines : List ℕ → List Line
lines [] = []
lines (c ∷ cs) =
    let rest = lines cs in
    let opened : List Line = record { text = []; ended = true } ∷ rest in
    cond (eqb c 10) opened (prepend c rest)

-- Number 21: the bytes of a line, none if it applies.
unfoldable pub line_bytes : Line → Option (List ℕ)
line_bytes l = let bytes = bytes_of l.text in cond l.ended bytes none

-- 01: "The head is n, m, d, b, the dealer's value, s, then s sets, then F"; 02 b: a default, "in the head right after the
-- span". Where each stands; m, the default and the dealer's value have a value's bytes, by its width, the others one. n
-- stands at 0.
abbrev pub span_place : Width → ℕ
span_place w = 1

abbrev pub default_place : Width → ℕ
default_place w = span_place w + value_size w

abbrev pub dealer_place : Width → ℕ
dealer_place w = default_place w + value_size w

abbrev pub depth_place : Width → ℕ
depth_place w = dealer_place w + 1

abbrev pub word_place : Width → ℕ
word_place w = depth_place w + 1

abbrev pub count_place : Width → ℕ
count_place w = word_place w + value_size w

abbrev pub sets_place : Width → ℕ
sets_place w = count_place w + 1

-- The bytes of a head with s sets.
abbrev pub head_length : Width → ℕ → ℕ
head_length w s = sets_place w + 1 + s

-- What a head's bytes name: the number of boards, of sets, the sets, the settings, the faulty boards and the dealer's value.
abbrev pub head_boards : List ℕ → ℕ
head_boards bytes = get_or bytes 0 0

abbrev pub head_count : Width → List ℕ → ℕ
head_count w bytes = get_or bytes (count_place w) 0

abbrev pub head_sets : Width → List ℕ → List ℕ
head_sets w bytes = take (head_count w bytes) (drop (sets_place w) bytes)

abbrev pub head_settings : Width → List ℕ → Settings
head_settings w bytes = record {
  dealer = get_or bytes (dealer_place w) 0;
  span = number_at w bytes (span_place w);
  default = number_at w bytes (default_place w);
  depth = get_or bytes (depth_place w) 0;
}

abbrev pub head_faulty : Width → List ℕ → ℕ
head_faulty w bytes = get_or bytes (sets_place w + head_count w bytes) 0

abbrev pub head_word : Width → List ℕ → ℕ
head_word w bytes = number_at w bytes (word_place w)

-- The head: its plan, the faulty boards and the dealer's value.
unfoldable pub head_of : Width → List ℕ → Head
head_of w bytes = record {
  plan = planned (head_boards bytes) (head_sets w bytes) (head_settings w bytes);
  faulty = head_faulty w bytes;
  word = head_word w bytes;
}

-- 01, 'Playing a sheet', head: 22; 1 to 7, 26 (02 b), 8; 18; 23. 02 b: "a head has 8 + s bytes and number 22 reads so";
-- 02 g, in two bytes: "A head now has 11 + s bytes".
unfoldable pub judge_head : Width → List ℕ → Outcome
judge_head w bytes =
    let plan = planning (head_boards bytes) (head_count w bytes) (head_sets w bytes) (head_settings w bytes) in
    let word = cond (leb (head_settings w bytes).span (head_word w bytes)) (refused 18) (taken []) in
    let faulty = cond (within (head_faulty w bytes) (boards (head_boards bytes)) && tolerated (head_sets w bytes) (head_faulty w bytes)) (taken []) (refused 23) in
    cond (ltb (length bytes) (head_length w 0) || not (eqb (length bytes) (head_length w (head_count w bytes)))) (refused 22)
    (and_then plan (and_then word faulty))

-- 01: "Then one frame a line: run, round, sender, receiver, values". The values are kept as their bytes.
pub record Frame : Type 0 where
  pub run : Run
  pub round : Round
  pub sender : ℕ
  pub receiver : ℕ
  pub values : List ℕ

unfoldable pub frame_line : List ℕ → Frame
frame_line bytes = record {
  run = record { 0 = get_or bytes 0 0 };
  round = record { 0 = get_or bytes 1 0 };
  sender = get_or bytes 2 0;
  receiver = get_or bytes 3 0;
  values = drop 4 bytes;
}

-- 01: "Lines rise strictly by (run, round, sender, receiver)."
unfoldable pub earlier : ℕ → ℕ → Bool → Bool
earlier a b next = ltb a b || (eqb a b && next)

unfoldable pub rises : Option Frame → Frame → Bool
rises none g = true
rises (some f) g =
    earlier f.run.0 g.run.0 (earlier f.round.0 g.round.0 (earlier f.sender g.sender (ltb f.receiver g.receiver)))

-- Number 24: "under four bytes, not rising, sender not in F, receiver in F or d or not below n, or no frame due from that sender then".
unfoldable pub good_frame : Head → Option Frame → List ℕ → Bool
good_frame h before bytes =
    let p = h.plan in
    let f = frame_line bytes in
    (leb 4 (length bytes) && (rises before f && member f.sender h.faulty))
    && ((not (member f.receiver h.faulty) && has_round p f.run f.round)
    && due p f.sender f.receiver f.round)

-- A sheet that was read: the answer, whose values for a refusal begin with the line; the head and the frames.
pub record Reading : Type 0 where
  pub answer : Outcome
  pub head : Head
  pub frames : List Frame

-- A refusal at a line.
unfoldable pub wrong_at : ℕ → Outcome → Outcome
wrong_at line o = record { number = o.number; values = line ∷ o.values }

unfoldable pub refused_reading : Head → ℕ → Outcome → Reading
refused_reading h line o = record { answer = wrong_at line o; head = h; frames = [] }

unfoldable pub add_frame : Frame → Reading → Reading
add_frame f r = record { answer = r.answer; head = r.head; frames = f ∷ r.frames }

-- The frame lines from line number `line` on.
unfoldable pub read_frames : Head → Option Frame → ℕ → List Line → Reading
read_frames h before line [] = record { answer = taken []; head = h; frames = [] }
read_frames h before line (l ∷ ls) =
    elim (line_bytes l) [
      | none ↦ refused_reading h line (refused 21)
      | some bytes ↦
          elim (good_frame h before bytes) [
            | true ↦ add_frame (frame_line bytes) (read_frames h (some (frame_line bytes)) (suc line) ls)
            | false ↦ refused_reading h line (refused 24)
          ]
    ]

unfoldable pub read_head : Width → List ℕ → List Line → Reading
read_head w bytes ls =
    let h = head_of w bytes in
    let o = judge_head w bytes in
    elim (eqb o.number 0) [ true ↦ read_frames h none 2 ls | false ↦ refused_reading h 1 o ]

-- The whole sheet, line by line. An empty sheet is number 22 at line 1.
unfoldable pub read_lines : Width → List Line → Reading
read_lines w [] = refused_reading (head_of w []) 1 (refused 22)
read_lines w (l ∷ ls) = elim (line_bytes l) [ none ↦ refused_reading (head_of w []) 1 (refused 21) | some bytes ↦ read_head w bytes ls ]

unfoldable pub reading : Width → List ℕ → Reading
reading w text = read_lines w (lines text)
