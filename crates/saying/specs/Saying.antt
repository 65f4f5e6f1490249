-- What a call says in the terms of 01, and the bytes that tell it.
use Rattle.std.specs.Prelude.{ℕ, List, [], ◌∷◌, ◌++◌, length, take, replicate, Result, Ok, Err}
use Rattle.refusals.specs.Outcome.{Outcome, taken, refusal}
use Rattle.refusals.specs.declared.refusal.Refusal.{Refusal}
use Rattle.saying.specs.declared.said.Answer.{Answer}
use Rattle.saying.specs.declared.said.Answer.TheVariants.{Nothing, Byte, Pair}

unfoldable pub said : Result Answer Refusal → Outcome
said (Ok Nothing) = taken []
said (Ok (Byte x)) = taken (x ∷ [])
said (Ok (Pair x y)) = taken (x ∷ y ∷ [])
said (Err why) = refusal why

-- The number, how many values there are, and three values, 0 past them.
unfoldable pub told : Outcome → List ℕ
told o = o.number ∷ length o.values ∷ take 3 (o.values ++ replicate 3 0)
