-- `begun` meets its contract.
use mathlib.Core.Path.{◌≡◌, refl, ap, ◌∙◌}
use Rattle.std.specs.Prelude.{Ok, Err}
use Rattle.std.specs.Prelude as Std
use Rattle.std.specs.Result.{result_unwrap_or}
use Rattle.refusals.specs.declared.refusal.Refusal.{Refusal}
use Rattle.protocol.specs.declared.records.Record.{Record}
use Rattle.protocol.specs.Answers.{begun_record}
use Rattle.protocol.specs.Rounds.{board_with}
use Rattle.protocol.specs.Calls.{Result, void_record}
use Rattle.session.specs.Steps.{begins}
use Rattle.session.proofs.rounds.begun.Goals as goal

-- The record of a board that begins, or the void one.
record-or-void : (got : Std.Result Record Refusal) → result_unwrap_or got void_record ≡ begun_record got
unfolding begun_record
record-or-void (Ok r) = refl
record-or-void (Err why) = refl

pub returns : goal.returns
unfolding begins
returns c =
    let got = c.begin.result in
    let is = c.unwrap_or.ensures ∙ ap (result_unwrap_or got) c.void.ensures ∙ record-or-void got in
    ap (λ r. board_with r c.begin.new.cells) is ∙ ap (λ (x : Result). x.board) c.begin.ensures
