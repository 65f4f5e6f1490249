-- `next_run` meets its contract: the decision after the last run.
use Rattle.std.proofs.Common.{◌≡◌, ◌≤◌, ap, sym, ◌∙◌, refl, true, false, eqb, arith, rules}
use borrow.Author.Tests.{eqb-false}
use Rattle.schedule.specs.declared.rounds.Run.{Run}
use Rattle.schedule.specs.Schedule.{runs}
use Rattle.protocol.specs.Records.{run_ended}
use Rattle.protocol.proofs.Judgement.{good-record}
use Rattle.advancing.proofs.advancing.next_run.Goals as goal

pub returns-then-eq : goal.returns-then-eq
unfolding run_ended
returns-then-eq c =
    let last : eqb c.args.r.run.0 (runs c.args.r.plan).0 ≡ true =
    ap (λ (t : Run). eqb c.args.r.run.0 t.0) (sym c.runs-last.ensures) ∙ sym c.eq.ensures ∙ c.if-eq.true in
    rw last refl

pub overflow_add-result : goal.overflow_add-result
overflow_add-result c =
    let most : c.runs-last.result.0 ≤ 255 = search rules in
    let high = (good-record c.args.r c.requires).position.run-high in
    record { fits = omega (arith, most, high, ap (λ (t : Run). t.0) c.runs-last.ensures, eqb-false _ _ (sym c.eq.ensures ∙ c.if-eq.false)) }

pub returns : goal.returns
unfolding run_ended
returns c =
    let more : eqb c.args.r.run.0 (runs c.args.r.plan).0 ≡ false =
    ap (λ (t : Run). eqb c.args.r.run.0 t.0) (sym c.runs-last.ensures) ∙ sym c.eq.ensures ∙ c.if-eq.false in
    rw more refl
