-- A session in one-byte values, and the same in two-byte values. 02 g: "A session with a span of at most 255, each value widened so".
use Rattle.std.specs.Prelude.{ℕ, cond, List, [], ◌∷◌, map, eqb}
use Rattle.codec.specs.Codec.{one, two, blank}
use Rattle.refusals.specs.Outcome.{Outcome}
use Rattle.protocol.specs.declared.records.Record.{Record}
use Rattle.protocol.specs.Rounds.{board_of, Board}
use Rattle.protocol.specs.Calls.{Result, is_taken}
use Rattle.protocol.specs.Session.{Setting}
use Rattle.agreement.specs.Lists.{Call, receives, sends, closes, decides}

-- A cell. 02 g: "FFFF marks a cell without a value", where FF did; a value stays.
unfoldable pub wide : ℕ → ℕ
wide x = cond (eqb x (blank one)) (blank two) x

-- The bytes of a frame, "high byte first" (02 g): 00 before each value.
unfoldable pub wide_bytes : List ℕ → List ℕ
wide_bytes [] = []
wide_bytes (v ∷ vs) = 0 ∷ (v ∷ wide_bytes vs)

-- A record: it holds no mark, so all of it stays.
unfoldable pub wide_record : Record → Record
wide_record r = r

unfoldable pub wide_board : Board → Board
wide_board b = board_of two (wide_record b.rec) (map wide b.cells)

unfoldable pub wide_setting : Setting → Setting
wide_setting s = record { width = two; plan = s.plan; faulty = s.faulty; word = s.word; buffer = λ i. map wide (s.buffer i) }

-- What a call leaves: the same answer, and the board widened.
unfoldable pub wide_result : Result → Result
wide_result r = record { answer = r.answer; board = wide_board r.board }

-- The answer with the dealer's frame; a refusal stays.
unfoldable pub wide_frame_in : Outcome → Outcome
wide_frame_in o = record { number = o.number; values = cond (is_taken o) (wide_bytes o.values) o.values }

-- The same call. The output that a writing is lent may be any.
pub data Wider : Call → Call → Type 0 where
  receives-wider : (i q : ℕ) (f : List ℕ) → Wider (receives i q f) (receives i q (wide_bytes f))
  sends-wider : (i : ℕ) (out out' : List ℕ) → Wider (sends i out) (sends i out')
  closes-wider : (i : ℕ) → Wider (closes i) (closes i)
  decides-wider : (i : ℕ) → Wider (decides i) (decides i)

-- The same calls, one by one.
pub data Widers : List Call → List Call → Type 0 where
  none-wider : Widers [] []
  more-wider : {c c' : Call} {cs cs' : List Call} → Wider c c' → Widers cs cs' → Widers (c ∷ cs) (c' ∷ cs')
