-- `deal` meets its contract: the frame has the bytes of the value.
use Rattle.std.proofs.Common.{◌∙◌, ap, sym, arith}
use Rattle.codec.proofs.Codec.{to_be_bytes-pair}
use Rattle.refusals.specs.Outcome.{taken, verdict}
use Rattle.protocol.specs.Answers.{dealt_says}
use Rattle.dealing.proofs.Dealt.{deal-taken}
use Rattle.dealing.proofs.dealing.deal.Goals as goal

pub returns : goal.returns
unfolding dealt_says verdict
returns c =
    let a = c.args in
    ap taken (c.to_be_bytes.ensures ∙ to_be_bytes-pair a.value (omega arith))
    ∙ deal-taken a.plan a.value (ap (λ o. o.number) (sym c.in_ok-judge.ensures)) c.in_ok-judge_value.ensures
