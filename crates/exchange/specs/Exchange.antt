-- What all boards hear from each other in a round. A middle layer: what a board hears is `hears` of the protocol.
use Rattle.std.specs.Prelude.{ℕ, zero, suc, ◌<◌, List}
use Rattle.sheet.specs.declared.head.Head.{Head}
use Rattle.sheet.specs.Sheet.{Frame}
use Rattle.finding.specs.Frames.{Rising}
use Rattle.stage.specs.Stage.{Stage, Roomy, board_on, on_stage}
use Rattle.outgoing.specs.Outgoing.{frame_from}
use Rattle.hearing.specs.Hearing.{hear_from}

-- At most seven boards, each one's part lies within the cells, and the frame lines rise.
pub record Ready (h : Head) (cells frames : List ℕ) : Type 0 where
  pub roomy : Roomy h cells
  pub rising : Rising frames

-- What hearing board q asks: the same, for a board below n.
pub record ReadyFor (h : Head) (cells frames : List ℕ) (q : ℕ) : Type 0 where
  pub ready : Ready h cells frames
  pub sender : q < h.plan.n

-- Every board hears board q.
unfoldable pub hear_sender : Head → List Frame → ℕ → Stage → Stage
hear_sender h fs q st = on_stage h (hear_from h fs q (frame_from h q (board_on h.plan.n st q))) h.plan.n st

-- Every board hears the boards below k.
unfoldable pub hear_senders : Head → List Frame → ℕ → Stage → Stage
hear_senders h fs zero st = st
hear_senders h fs (suc k) st = hear_sender h fs k (hear_senders h fs k st)
