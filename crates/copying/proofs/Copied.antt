-- What a board copies to its own children.
-- Assumes nothing.
use Prim.Native.Nat.{ℕ, ◌-◌, ◌*◌, ◌≤◌}
use mathlib.Core.Path.{◌≡◌, sym, ap, ◌∙◌}
use mathlib.Core.List.{List, ◌++◌, map}
use native.Mathlib.Omega.{arith}
use lib.ListN.{length, take, drop, length-map}
use lib.Seq.{take_at}
use Rattle.codec.specs.Codec.{current, value_size, encode, decode}
use Rattle.codec.proofs.Codec.{decode-encode, length-encode}
use Rattle.plan.specs.declared.plan.Plan.{Plan}
use Rattle.schedule.specs.declared.rounds.Round.{Round}
use Rattle.tree.specs.Labels.{Label}
use Rattle.protocol.specs.Nodes.{carried, read, frame}
use Rattle.protocol.specs.Rounds.{fill, copy_own}
use Rattle.frames.specs.Nodes.{Standing, labels_of}
use Rattle.frames.proofs.Listed.{sent-carried}

-- A board's own frame, written to an array and stored from there.
module _ {p : Plan} {holders : List ℕ} {i : ℕ} {k : Round} (s : Standing p holders i k) (later : 2 ≤ k.0) (cells : List ℕ) where
  abbrev own : List Label
  own = carried p i i (k.0 - 1)

  pub own-copied : (count : ℕ) (nodes written before : List ℕ) → count ≡ length own → labels_of p (k.0 - 1) nodes ≡ own
      → written ≡ encode current (map (read p cells) (labels_of p (k.0 - 1) nodes)) ++ drop (value_size current * length nodes) before
      → fill p i (labels_of p (k.0 - 1) nodes) (decode current (take (value_size current * count - 0) written)) cells ≡ copy_own p i k cells
  unfolding copy_own frame
  own-copied count nodes written before e labels x =
      let αs = labels_of p (k.0 - 1) nodes in
      let f = map (read p cells) αs in
      let size : length (encode current f) ≡ value_size current * count - 0 = omega (arith, length-encode current f, length-map αs (read p cells), ap length labels) in
      let front = ap (take (value_size current * count - 0)) x ∙ take_at (encode current f) (drop (value_size current * length nodes) before) (value_size current * count - 0) size in
      ap (λ vs. fill p i αs vs cells) (ap (decode current) front ∙ decode-encode current f)
      ∙ ap (λ βs. fill p i βs (map (read p cells) βs) cells) (labels ∙ sym (sent-carried s later i))
