-- The frame of a board outside F, as the calls give it. A middle layer: a frame is `frame_of` of the protocol.
use Rattle.std.specs.Prelude.{ℕ, ◌≤◌, ◌<◌, ◌≡◌, cond, List, [], eqb, get_or, take, replicate}
use Rattle.codec.specs.Codec.{current}
use Rattle.sets.specs.Sets.{member}
use Rattle.sheet.specs.declared.head.Head.{Head}
use Rattle.protocol.specs.Limits.{frame_room}
use Rattle.protocol.specs.Rounds.{Board}
use Rattle.protocol.specs.Calls.{is_taken, sending, dealing}
use Rattle.stage.specs.Stage.{Roomy}

-- The dealer's frame; nothing if it is refused.
unfoldable pub dealt_frame : Head → List ℕ
dealt_frame h = let dealt = dealing current h.plan h.word in cond (is_taken dealt) dealt.values []

-- The frame of board q outside F: the dealer's, or what writing into a buffer with room for every frame gives; nothing if it is refused.
unfoldable pub frame_from : Head → ℕ → Board → List ℕ
frame_from h q b =
    let wrote = sending b (replicate (frame_room current) 0) in
    cond (eqb q h.plan.dealer) (dealt_frame h)
    (cond (is_taken wrote.answer) (take (get_or wrote.answer.values 0 0) wrote.out) [])

-- The frame of board q; nothing if q is faulty.
unfoldable pub healthy_frame : Head → ℕ → Board → List ℕ
healthy_frame h q b = let frame = frame_from h q b in cond (member q h.faulty) [] frame

-- The first k bytes of a buffer are a frame, and k is at most `room`.
pub record Written (k room : ℕ) (buffer frame : List ℕ) : Type 0 where
  pub fits : k ≤ room
  pub front : take k buffer ≡ frame

-- A sender below n, each board's part within the cells, and an empty buffer with room for every frame.
pub record Sends (h : Head) (q : ℕ) (cells buffer : List ℕ) : Type 0 where
  pub roomy : Roomy h cells
  pub sender : q < h.plan.n
  pub zeros : buffer ≡ replicate (frame_room current) 0
