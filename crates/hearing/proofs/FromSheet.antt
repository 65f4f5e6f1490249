-- A frame of the sheet, read into a buffer with room for every frame and one byte, is heard as it stands in the sheet.
-- Assumes nothing.
use Prim.Native.Nat.{ℕ, ◌≤◌}
use mathlib.Core.Path.{◌≡◌, sym, ap, ◌∙◌}
use mathlib.Core.List.{List}
use mathlib.Core.Option.{Option, some}
use native.Mathlib.Omega.{arith}
use lib.ListN.{length, take}
use Rattle.codec.specs.Codec.{current}
use Rattle.protocol.specs.Limits.{frame_room}
use Rattle.protocol.specs.declared.records.Record.{Record}
use Rattle.protocol.specs.Rounds.{board_with, Board}
use Rattle.protocol.specs.Calls.{receiving}
use Rattle.protocol.specs.Session.{hand_in}
use Rattle.sheet.specs.Playing.{decoded}
use Rattle.protocol.proofs.Few.{overlong}
use Rattle.std.specs.Prelude as Std
use Rattle.fetching.specs.Fetched.{Read, found_says, read_length, read_into}
use Rattle.fetching.proofs.FetchedFrame.{read_taken, read-frame-is, read-missed}

-- With what the code has in hand: the buffer as it came, the answer, and the buffer with what was read.
module _ (v : Option (List ℕ)) (buffer : List ℕ) (room : length buffer ≡ frame_room current) (found : Std.Option ℕ) (last : List ℕ)
    (read : record { count = found_says found; buffer = last } ≡ read_into v buffer) where
  count-is : found_says found ≡ read_length v (frame_room current)
  count-is = ap (λ (x : Read). x.count) read ∙ ap (read_length v) room

  bytes-are : (k : ℕ) → found ≡ Std.Some k → some k ≡ read_length v (frame_room current)
  unfolding found_says
  bytes-are k e = ap found_says (sym e) ∙ count-is

  pub read-missing : (q : ℕ) (b : Board) → found ≡ Std.None → b ≡ hand_in q (decoded current v) b
  unfolding hand_in decoded found_says
  read-missing q b e =
      let none_read = ap found_says (sym e) ∙ count-is in
      ap (λ x. hand_in q (decoded current x) b) (sym (read-missed v (frame_room current) (sym none_read)))

  pub read_fits : (k : ℕ) → found ≡ Std.Some k → k ≤ frame_room current
  read_fits k e = let (vs, _, z) = read-frame-is v (frame_room current) k (sym (bytes-are k e)) in omega (arith, z)

  pub read-heard : (k q : ℕ) (r : Record) (cells : List ℕ) → found ≡ Std.Some k
      → (receiving (board_with r cells) q (take k last)).board ≡ hand_in q (decoded current v) (board_with r cells)
  unfolding hand_in decoded receiving
  read-heard k q r cells e =
      let b : Board = board_with r cells in
      let taken = sym (bytes-are k e) in
      let (vs, x, _) = read-frame-is v (frame_room current) k taken in
      let whole : take k last ≡ take (frame_room current) vs =
      ap (λ (y : Read). take k y.buffer) read ∙ read_taken v vs buffer (frame_room current) k x room taken in
      ap (λ f. (receiving b q f).board) whole ∙ ap (λ y. y.board) (overlong b q vs) ∙ ap (λ x. hand_in q (decoded current x) b) (sym x)
