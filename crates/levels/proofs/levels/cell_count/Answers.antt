-- `cell_count` meets its contract: the cells end where level n ends.
use mathlib.Core.Path.{sym, ◌∙◌}
use Rattle.tree.proofs.Within.{count-over, count-start}
use Rattle.levels.proofs.levels.cell_count.Goals as goal

pub returns-then-n-gt7 : goal.returns-then-n-gt7
returns-then-n-gt7 c = sym (count-over c.args.n c.if-n-gt7.true)

pub returns : goal.returns
returns c = c.level_start.ensures ∙ sym (count-start c.args.n)
