-- 02 a: "Number 2 of document 01 can then no longer occur, and that is to be shown."
use Rattle.std.specs.Prelude.{ℕ, ◌≢◌, List}
use Rattle.codec.specs.Codec.{Width}
use Rattle.plan.specs.declared.plan.Plan.{Plan}
use Rattle.settings.specs.declared.settings.Settings.{Settings}
use Rattle.admission.specs.Calls.{admitting}
use Rattle.settings.specs.Planning.{planning}
use Rattle.protocol.specs.declared.records.Record.{Record}
use Rattle.protocol.specs.Rounds.{Board}
use Rattle.protocol.specs.Calls.{beginning, dealing, receiving, sending, closing, deciding}
use Rattle.sheet.specs.Playing.{playing}

-- No call of 01, on any input, answers with number 2.
pub record NeverTwo : Type 0 where
  pub admitting : (n count : ℕ) (sets : List ℕ) → (admitting n count sets).number ≢ 2
  pub planning : (n count : ℕ) (sets : List ℕ) (s : Settings) → (planning n count sets s).number ≢ 2
  pub beginning : (w : Width) (p : Plan) (i : ℕ) (cells : List ℕ) → (beginning w p i cells).answer.number ≢ 2
  pub dealing : (w : Width) (p : Plan) (v : ℕ) → (dealing w p v).number ≢ 2
  pub receiving : (b : Board) (q : ℕ) (f : List ℕ) → (receiving b q f).answer.number ≢ 2
  pub sending : (b : Board) (out : List ℕ) → (sending b out).answer.number ≢ 2
  pub closing : (b : Board) → (closing b).answer.number ≢ 2
  pub deciding : (r : Record) → (deciding r).number ≢ 2
  pub playing : (w : Width) (text cells out : List ℕ) → (playing w text cells out).answer.number ≢ 2
