use native.Mathlib.Omega.{arith}
use mathlib.Core.Path.{refl, sym, ◌∙◌}
use borrow.Author.Tests.{le-ltb}
use Rattle.sets.specs.Sets.{member}
use Rattle.sets.proofs.Member.{member-high}
use Rattle.sets.proofs.boards.member.Goals as goal

pub returns-then-i-lt8 : goal.returns-then-i-lt8
unfolding member
returns-then-i-lt8 c = refl

pub returns-else-i-lt8 : goal.returns-else-i-lt8
returns-else-i-lt8 c = let a = c.args in le-ltb _ _ c.if-i-lt8.false ∙ sym (member-high 8 a.i a.s (omega arith) c.if-i-lt8.false)
