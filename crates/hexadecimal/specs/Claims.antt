-- What is written is read back, and what is read is what is written: digits and bytes are one to one (01: "two digits a byte").
use Rattle.std.specs.Prelude.{ℕ, ◌<◌, ◌≡◌, List, [], length, get_or}
use Rattle.std.proofs.Math.Option.{some}
use Rattle.hexadecimal.specs.Hex.{bytes_of, hex_bytes}

-- The digits of bytes stand for these bytes.
abbrev pub WrittenRead : Type 0
WrittenRead = (bytes : List ℕ) → ((i : ℕ) → i < length bytes → get_or bytes i 0 < 256) → bytes_of (hex_bytes bytes []) ≡ some bytes

-- A text that stands for bytes is their digits: there is one way to write them.
abbrev pub ReadWritten : Type 0
ReadWritten = (text bytes : List ℕ) → bytes_of text ≡ some bytes → hex_bytes bytes [] ≡ text
