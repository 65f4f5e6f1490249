-- What is read of a frame of a sheet. A middle layer: the frame is `find_frame` of sheet/Playing.
use Rattle.std.specs.Prelude.{ℕ, min, List, ◌++◌, length, take, drop}
use Rattle.std.proofs.Math.Option.{Option, some, none}
use Rattle.std.specs.Prelude as Std

-- A frame of the sheet: none, or how many of its bytes were read.
unfoldable pub found_says : Std.Option ℕ → Option ℕ
found_says Std.None = none
found_says (Std.Some k) = some k

-- What is read of a frame, as many bytes as the buffer takes: their number, none if there is no frame, and the buffer.
pub record Read : Type 0 where
  pub count : Option ℕ
  pub buffer : List ℕ

unfoldable pub read_length : Option (List ℕ) → ℕ → Option ℕ
read_length none room = none
read_length (some f) room = some (min (length f) room)

unfoldable pub read_bytes : Option (List ℕ) → List ℕ → List ℕ
read_bytes none buffer = buffer
read_bytes (some f) buffer = take (length buffer) f ++ drop (length f) buffer

abbrev pub read_into : Option (List ℕ) → List ℕ → Read
read_into frame buffer = record { count = read_length frame (length buffer); buffer = read_bytes frame buffer }
