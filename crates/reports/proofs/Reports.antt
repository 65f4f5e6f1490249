-- What is reported, by the answer.
-- Assumes nothing.
use Prim.Native.Nat.{ℕ, ◌≤◌, ◌<◌}
use mathlib.Core.Path.{◌≡◌, refl, sym, ap, ap₂, ◌∙◌}
use mathlib.Core.List.{List}
use native.Mathlib.Omega.{arith}
use lib.Dec.{ltb}
use lib.ListN.{length}
use lib.Seq.{sets}
use borrow.Author.Tests.{lt-ltb, le-ltb, ltb-false}
use Rattle.sets.proofs.Tests.{cases}
use Rattle.refusals.specs.Outcome.{refusal}
use Rattle.std.specs.Prelude.{Result, Ok, Err}
use Rattle.protocol.specs.declared.answers.Refused.{Refused}
use Rattle.sheet.specs.Playing.{refusal_text}
use Rattle.printer.specs.Printed.{at_front}
use Rattle.reports.specs.Reported.{reported}
use Rattle.printer.proofs.Stores.{stores-first}
use Rattle.reports.proofs.Refusals.{refusal-size}

pub report-over : (a : Result ℕ Refused) (k : ℕ) (out : List ℕ) → a ≡ Ok k → length out < k → record { count = 0; out = out } ≡ reported a out
unfolding reported
report-over a k out e l = rw (e, lt-ltb (length out) k l) refl

pub report-written : (a : Result ℕ Refused) (k : ℕ) (out : List ℕ) → a ≡ Ok k → k ≤ length out → record { count = k; out = out } ≡ reported a out
unfolding reported
report-written a k out e l = rw (e, le-ltb (length out) k l) refl

pub report-short : (a : Result ℕ Refused) (r : Refused) (out : List ℕ) → a ≡ Err r → length out < 9
    → record { count = 0; out = out } ≡ reported a out
unfolding reported
report-short a r out e l = rw (e, lt-ltb (length out) 9 l) refl

-- A refusal stands at the front of the output.
pub refused-front : (r : Refused) (out : List ℕ) → 9 ≤ length out
    → reported (Err r) out ≡ at_front (refusal_text (refusal r.why).number r.line) out
unfolding reported
refused-front r out l = rw (le-ltb (length out) 9 l) refl

pub report-refused : (a : Result ℕ Refused) (r : Refused) (number : ℕ) (out last : List ℕ) → a ≡ Err r → 9 ≤ length out
    → number ≡ (refusal r.why).number → last ≡ sets out 0 (refusal_text number r.line) → record { count = 9; out = last } ≡ reported a out
report-refused a r number out last e l en el =
    let text = refusal_text number r.line in
    let size = refusal-size number r.line in
    ap₂ (λ k o. record { count = k; out = o }) (sym size) (el ∙ stores-first out text (omega arith))
    ∙ ap (λ k. at_front (refusal_text k r.line) out) en
    ∙ sym (ap (λ x. reported x out) e ∙ refused-front r out l)

-- What is printed lies within the output.
pub report-fits : (a : Result ℕ Refused) (out : List ℕ) → (reported a out).count ≤ length out
unfolding reported
report-fits (Ok k) out =
    cases (ltb (length out) k) (λ e. rw e (omega arith)) (λ e. rw e (ltb-false (length out) k e))
report-fits (Err r) out =
    cases (ltb (length out) 9)
    (λ e. rw e (omega arith))
    (λ e. rw e (omega (arith, ltb-false (length out) 9 e, refusal-size (refusal r.why).number r.line)))
