-- What is printed is what was played, said by `report`.
use Rattle.std.proofs.Common.{◌∙◌, ap, arith}
use Rattle.sheet.specs.Playing.{Play}
use Rattle.printer.specs.Printed.{Output}
use Rattle.reports.proofs.Reports.{report-fits}
use Rattle.reports.proofs.Bench.{shown, sheet-prints}
use Rattle.bench.proofs.print_sheet.Goals as goal

pub returns : goal.returns
returns c =
    let a = c.args in
    let played = c.play-answer in
    let said = c.report in
    let out = played.new.out in
    record {
      fits = omega (arith, ap (λ (o : Output). o.count) said.ensures, report-fits played.result out, said.auto.out);
      front = ap shown said.ensures
          ∙ sheet-prints played.result a.text.now a.cells.now a.out.now out played.auto.out
          (ap (λ (p : Play). p.answer) played.ensures) (ap (λ (p : Play). p.out) played.ensures);
    }
