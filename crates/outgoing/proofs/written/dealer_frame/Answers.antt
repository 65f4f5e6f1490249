-- `dealer_frame` meets its contract.
use mathlib.Core.Path.{◌≡◌, sym, ap, ◌∙◌}
use native.Mathlib.Omega.{arith}
use lib.ListN.{length, drop, length-take}
use lib.Seq.{take_at}
use Rattle.refusals.proofs.Outcomes.{refusal-number}
use Rattle.protocol.specs.Answers.{dealt_says}
use Rattle.outgoing.proofs.Sender.{dealt-taken, dealt-refused}
use Rattle.outgoing.proofs.written.dealer_frame.Goals as goal

pub returns-in-Ok : goal.returns-in-Ok
unfolding dealt_says
returns-in-Ok c =
    let a = c.args in
    let bytes = c.copy_from_slice in
    let two : length bytes.new.self ≡ 2 = omega (arith, bytes.ensures.len, length-take 2 a.frame.now, c.requires) in
    record {
      fits = omega arith;
      front = take_at bytes.new.self (drop 2 a.frame.now) 2 two ∙ bytes.ensures.after
          ∙ dealt-taken a.head c.in-Ok.bytes (ap dealt_says (sym c.in-Ok.is) ∙ c.deal.ensures);
    }

pub returns-in-Err : goal.returns-in-Err
unfolding dealt_says
returns-in-Err c =
    let a = c.args in
    let e = ap dealt_says (sym c.in-Err.is) ∙ c.deal.ensures in
    record { fits = omega arith; front = dealt-refused a.head (λ z. refusal-number c.in-Err.field-0 (ap (λ x. x.number) e ∙ z)) }
