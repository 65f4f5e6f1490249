-- The values of a plan.
use Rattle.std.specs.Prelude.{ℕ, cond, ltb}
use Rattle.plan.specs.declared.plan.Plan.{Plan}

-- What stands in for a value that is missing or masked. 02 b: "Wherever document 01 puts 0 .. the default is put."
unfoldable pub default : Plan → ℕ
default p = p.default

-- 01: "A cell of m or more, read as a value, counts as 0"; 02 b: as the default.
unfoldable pub value : Plan → ℕ → ℕ
value p x = cond (ltb x p.span) x (default p)
