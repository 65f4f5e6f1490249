use Prim.Native.Nat.{ℕ, ◌<◌}
use mathlib.Core.Path.{◌≡◌}
use Rattle.protocol.specs.declared.records.Record.{Record}
use Rattle.protocol.specs.Rounds.{board_with, Board}
use Rattle.stage.specs.Stage.{Stage, on_stage}
use Rattle.stage.proofs.acting.on_stage.Given as goal

abbrev pub invariant-loop-i : goal.invariant-loop-i
invariant-loop-i g l = (f : ℕ → Board → Board)
    → ((i : ℕ) (r : Record) (c : _) (r' : Record) (c' : _) → i < 8 → goal.F-post g l.act i r c r' c' → board_with r' c'.now ≡ f i (board_with r c.now))
    → ◌≡◌ {A = Stage} (record { recs = l.all; cells = l.cells }) (on_stage l.head f l.i (record { recs = l.fn.records; cells = l.fn.cells }))
