-- `is_good_frame` meets its contract: 24.
use mathlib.Core.Path.{◌≡◌, sym, ap, ap₂, ◌∙◌}
use native.Mathlib.Omega.{arith}
use Rattle.sets.specs.Sets.{member}
use Rattle.hexadecimal.specs.Bytes.{byte_at}
use Rattle.finding.specs.Frames.{line_key}
use Rattle.frame_lines.specs.FrameLines.{expected}
use Rattle.frame_lines.proofs.FrameLines.{line-short, line-falls, line-healthy, line-faulty, line-rest}
use Rattle.frame_lines.proofs.line.is_good_frame.Goals as goal
use Rattle.frame_lines.proofs.line.is_good_frame.Goals.{then-line-lt8-via-then-line-lt8, then-line-lt8-via-else-line-lt8+then-key_of-least, then-line-lt8-via-else-line-lt8+else-key_of-least+then-not-member, then-line-lt8-via-else-line-lt8+else-key_of-least+else-not-member+then-member}

pub returns-then-line-lt8 : goal.returns-then-line-lt8
unfolding line_key
returns-then-line-lt8 c =
    let a = c.args in
    let line = a.line.now in
    let sender = ap (λ q. member q a.faulty) c.byte_at-sender.ensures in
    let receiver = ap (λ q. member q a.faulty) c.byte_at-receiver.ensures in
    elim c.then-line-lt8.branch [
      | then-line-lt8-via-then-line-lt8 w ↦ line-short a.plan a.faulty a.least line w.if-line-lt8.true
      | then-line-lt8-via-else-line-lt8+then-key_of-least w ↦
          let k : w.key_of.result ≡ line_key line = w.key_of.ensures in
          line-falls a.plan a.faulty a.least line w.if-line-lt8.false (omega (arith, k, w.if-key_of-least.true))
      | then-line-lt8-via-else-line-lt8+else-key_of-least+then-not-member w ↦
          let k : w.key_of.result ≡ line_key line = w.key_of.ensures in
          line-healthy a.plan a.faulty a.least line w.if-line-lt8.false (omega (arith, k, w.if-key_of-least.false)) (sym (w.member.ensures ∙ sender) ∙ w.if-not-member.true)
      | then-line-lt8-via-else-line-lt8+else-key_of-least+else-not-member+then-member w ↦
          let k : w.key_of.result ≡ line_key line = w.key_of.ensures in
          line-faulty a.plan a.faulty a.least line w.if-line-lt8.false (omega (arith, k, w.if-key_of-least.false))
          (sym (w.member.ensures ∙ sender) ∙ w.if-not-member.false) (sym (w.member-else-not-member.ensures ∙ receiver) ∙ w.if-member.true)
    ]

pub returns : goal.returns
unfolding line_key
returns c =
    let a = c.args in
    let line = a.line.now in
    let k : c.key_of.result ≡ line_key line = c.key_of.ensures in
    c.is_expected.ensures
    ∙ ap₂ (λ t k. expected a.plan (record { 0 = t }) (record { 0 = k }) c.byte_at-sender.result c.byte_at-receiver.result) c.byte_at.ensures c.byte_at-2.ensures
    ∙ ap₂ (λ q i. expected a.plan (record { 0 = byte_at line 0 }) (record { 0 = byte_at line 1 }) q i) c.byte_at-sender.ensures c.byte_at-receiver.ensures
    ∙ line-rest a.plan a.faulty a.least line c.if-line-lt8.false (omega (arith, k, c.if-key_of-least.false))
    (sym (c.member.ensures ∙ ap (λ q. member q a.faulty) c.byte_at-sender.ensures) ∙ c.if-not-member.false)
    (sym (c.member-else-not-member.ensures ∙ ap (λ q. member q a.faulty) c.byte_at-receiver.ensures) ∙ c.if-member.false)
