-- What all boards hear from a sender, and from one sender more.
-- Assumes nothing.
use Prim.Native.Nat.{ℕ, ◌+◌}
use mathlib.Core.Path.{◌≡◌, ap, ◌∙◌}
use mathlib.Core.List.{List}
use native.Mathlib.Numerals.{add-one}
use Rattle.sheet.specs.Sheet.{Frame}
use Rattle.sheet.specs.declared.head.Head.{Head}
use Rattle.stage.specs.Stage.{Stage, board_on, on_stage}
use Rattle.stage.proofs.Turn.{on_same}
use Rattle.outgoing.specs.Outgoing.{frame_from, healthy_frame}
use Rattle.outgoing.proofs.Sender.{frame-healthy}
use Rattle.hearing.specs.Hearing.{hear_from}
use Rattle.hearing.proofs.Sender.{hears-same}
use Rattle.exchange.specs.Exchange.{hear_sender, hear_senders}

module _ (h : Head) (fs : List Frame) (q : ℕ) where
  pub sender-heard : (f : List ℕ) (st : Stage) → f ≡ healthy_frame h q (board_on h.plan.n st q)
      → on_stage h (hear_from h fs q f) h.plan.n st ≡ hear_sender h fs q st
  unfolding hear_sender
  sender-heard f st e = on_same h (hear_from h fs q f) (hear_from h fs q (frame_from h q (board_on h.plan.n st q))) (hears-same h fs q f _ (λ x. e ∙ frame-healthy h q (board_on h.plan.n st q) x)) h.plan.n st

  pub heard-more : (st t : Stage) → st ≡ hear_senders h fs q t → hear_sender h fs q st ≡ hear_senders h fs (q + 1) t
  unfolding hear_senders
  heard-more st t e = rw (add-one q) (ap (hear_sender h fs q) e)
