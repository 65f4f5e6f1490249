-- `report` meets its contract.
use mathlib.Core.Path.{refl}
use Rattle.reports.proofs.Reports.{report-over, report-written, report-short, report-refused}
use Rattle.reports.proofs.reporting.report.Goals as goal

pub returns-then-out-k : goal.returns-then-out-k
returns-then-out-k c =
    let a = c.args in
    report-over a.answer c.in-Ok.k a.out.now c.in-Ok.is c.if-out-k.true

pub returns-then-out-lt9 : goal.returns-then-out-lt9
returns-then-out-lt9 c =
    let a = c.args in
    report-short a.answer c.in-Err.refused a.out.now c.in-Err.is c.if-out-lt9.true

pub returns-else-out-k : goal.returns-else-out-k
returns-else-out-k c =
    let a = c.args in
    report-written a.answer c.in-Ok.k a.out.now c.in-Ok.is c.if-out-k.false

pub returns-else-out-lt9 : goal.returns-else-out-lt9
returns-else-out-lt9 c =
    let a = c.args in
    report-refused a.answer c.in-Err.refused _ a.out.now c.print_refusal.new.out
    c.in-Err.is c.if-out-lt9.false refl c.print_refusal.ensures
