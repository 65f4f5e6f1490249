-- 02 g: "A session with a span of at most 255, each value widened so, gives the same numbers as before, but that outputs and sheets, longer now,
-- may meet 17 or 20." Here one call, a list of calls and the synchronous session; sheets are in wide_sheets.
use Rattle.std.specs.Prelude.{ℕ, ◌*◌, ◌≤◌, ◌<◌, ◌≡◌, ◌⊎◌, ◌≢◌, List, [], ◌∷◌, ◌++◌, map, length, drop}
use Rattle.codec.specs.Codec.{one, two}
use Rattle.refusals.specs.Outcome.{taken, refused}
use Rattle.plan.specs.declared.plan.Plan.{Plan}
use Rattle.protocol.specs.Rounds.{Board}
use Rattle.protocol.specs.Calls.{beginning, dealing, receiving, wire_of, sending, closing, deciding}
use Rattle.protocol.specs.Session.{Adversary, Setting, at}
use Rattle.agreement.specs.Lists.{Call, leaves, state}
use Rattle.widening.specs.Widening.{wide, wide_bytes, wide_board, wide_setting, wide_result, wide_frame_in, Wider, Widers}

-- A board, and a setting, of one-byte values, with a span of at most 255.
pub record Narrow (b : Board) : Type 0 where
  pub width : b.width ≡ one
  pub span : b.rec.plan.span ≤ 255

pub record NarrowSetting (s : Setting) : Type 0 where
  pub width : s.width ≡ one
  pub span : s.plan.span ≤ 255

-- Writing into `out`, and in two bytes into `out'`.
pub record WideWriting (b : Board) (out out' : List ℕ) : Type 0 where
  -- the same 12, 11, 13 and 16, and nothing is written
  pub as_before : (sending b out).answer.number ≢ 0 → (sending b out).answer.number ≢ 17
      → sending (wide_board b) out' ≡ record { answer = (sending b out).answer; out = out' }
  -- none of these: 17 if the output is shorter than twice the bytes
  pub short : ((sending b out).answer.number ≡ 0) ⊎ ((sending b out).answer.number ≡ 17) → length out' < 2 * length (wire_of b)
      → sending (wide_board b) out' ≡ record { answer = refused 17; out = out' }
  -- else 00 is written before each value: twice the bytes
  pub written : ((sending b out).answer.number ≡ 0) ⊎ ((sending b out).answer.number ≡ 17) → 2 * length (wire_of b) ≤ length out'
      → sending (wide_board b) out'
      ≡ record { answer = taken (2 * length (wire_of b) ∷ []); out = wide_bytes (wire_of b) ++ drop (2 * length (wire_of b)) out' }

-- The calls on a board, whatever its record and its cells hold.
pub record WideCalls (b : Board) : Type 0 where
  pub handed-in : (q : ℕ) (f : List ℕ) → receiving (wide_board b) q (wide_bytes f) ≡ wide_result (receiving b q f)
  pub wrote : (out out' : List ℕ) → WideWriting b out out'
  pub closed : closing (wide_board b) ≡ wide_result (closing b)
  pub decision : deciding (wide_board b).rec ≡ deciding b.rec
  pub left : (c c' : Call) → Wider c c' → leaves c' (wide_board b) ≡ wide_board (leaves c b)

abbrev pub CallsSame : Type 0
CallsSame = (b : Board) → Narrow b → WideCalls b

-- Beginning a board, on any plan: the same answer, and the board widened.
abbrev pub BeginningSame : Type 0
BeginningSame = (p : Plan) (i : ℕ) (cells : List ℕ) → beginning two p i (map wide cells) ≡ wide_result (beginning one p i cells)

-- The dealer's frame, with a span of at most 255: the same number, or 00 before its value.
abbrev pub DealingSame : Type 0
DealingSame = (p : Plan) (v : ℕ) → p.span ≤ 255 → dealing two p v ≡ wide_frame_in (dealing one p v)

-- Board i after a list of calls, and every call on it then.
pub record WideAfter (s : Setting) (calls calls' : List Call) (i : ℕ) : Type 0 where
  pub board : state (wide_setting s) calls' i ≡ wide_board (state s calls i)
  pub next : WideCalls (state s calls i)

-- Every list, fair or not.
abbrev pub ListsSame : Type 0
ListsSame = (s : Setting) → NarrowSetting s → (calls calls' : List Call) → Widers calls calls' → (i : ℕ) → WideAfter s calls calls' i

-- The synchronous session, whatever faulty boards send.
abbrev pub SessionSame : Type 0
SessionSame = (s : Setting) → NarrowSetting s → (a : Adversary) (j i : ℕ) → at (wide_setting s) a j i ≡ wide_board (at s a j i)
