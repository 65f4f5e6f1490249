-- Frame lines as the code reads them, their keys. A middle layer: a frame line is `frame_line` of sheet/Sheet.
use Rattle.std.specs.Prelude.{ℕ, ◌+◌, ◌-◌, ◌*◌, ◌/◌, ◌≡◌, Bool, true, ◌&&◌, cond, List, [], ◌∷◌, leb, ltb, length}
use Rattle.sheet.specs.Sheet.{Line, Frame, lines}
use Rattle.hexadecimal.specs.Bytes.{byte_at, bytes_from}

-- A frame line by its digits.
unfoldable pub line_frame : List ℕ → Frame
line_frame line = record {
  run = record { 0 = byte_at line 0 };
  round = record { 0 = byte_at line 1 };
  sender = byte_at line 2;
  receiver = byte_at line 3;
  values = bytes_from line 4 (length line / 2 - 4);
}

unfoldable pub frames_of : List Line → List Frame
frames_of [] = []
frames_of (l ∷ ls) = line_frame l.text ∷ frames_of ls

-- The frames of the frame lines of a text.
unfoldable pub frames_in : List ℕ → List Frame
frames_in text = frames_of (lines text)

-- Run, round, sender and receiver as one number.
unfoldable pub key_of : ℕ → ℕ → ℕ → ℕ → ℕ
key_of t k q i = ((t * 256 + k) * 256 + q) * 256 + i

unfoldable pub frame_key : Frame → ℕ
frame_key f = key_of f.run.0 f.round.0 f.sender f.receiver

-- 01: "Lines rise strictly by (run, round, sender, receiver)", here by key, and from `least` on.
unfoldable pub rising : ℕ → List Frame → Bool
rising least [] = true
rising least (f ∷ fs) = leb least (frame_key f) && rising (frame_key f + 1) fs

-- The frame lines of a text rise.
abbrev pub Rising : List ℕ → Type 0
Rising text = rising 0 (frames_in text) ≡ true

-- The frames from the first on whose key is `least` or above.
unfoldable pub skip_frames : ℕ → List Frame → List Frame
skip_frames least [] = []
skip_frames least (f ∷ fs) = let rest = skip_frames least fs in cond (ltb (frame_key f) least) rest (f ∷ fs)

-- The key of a frame line.
unfoldable pub line_key : List ℕ → ℕ
line_key line = key_of (byte_at line 0) (byte_at line 1) (byte_at line 2) (byte_at line 3)
