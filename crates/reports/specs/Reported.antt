-- What is printed for an answer. A middle layer: what `bench` prints is `bench_prints` of sheet/Playing.
use Rattle.std.specs.Prelude.{ℕ, cond, List, ltb, length, Result, Ok, Err}
use Rattle.refusals.specs.Outcome.{refusal}
use Rattle.protocol.specs.declared.answers.Refused.{Refused}
use Rattle.sheet.specs.Playing.{refusal_text}
use Rattle.printer.specs.Printed.{Output, at_front}

-- What is printed for an answer; nothing if it does not fit.
unfoldable pub reported : Result ℕ Refused → List ℕ → Output
reported (Ok k) out = record { count = cond (ltb (length out) k) 0 k; out = out }
reported (Err r) out =
    let text = at_front (refusal_text (refusal r.why).number r.line) out in
    cond (ltb (length out) 9) (record { count = 0; out = out }) text
