use Rattle.std.proofs.Common.{sym, ap, length}
use Rattle.codec.proofs.Codec.{decode-even, decode-odd}
use Rattle.codec.proofs.value.value_count.Goals as goal

-- `value_count` meets its contract.
pub returns-then-frame-eq0 : goal.returns-then-frame-eq0
returns-then-frame-eq0 c = sym (decode-even c.args.frame.now c.if-frame-eq0.true)

pub returns-else-frame-eq0 : goal.returns-else-frame-eq0
returns-else-frame-eq0 c = sym (ap length (decode-odd c.args.frame.now c.if-frame-eq0.false))
