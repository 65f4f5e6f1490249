use native.Mathlib.Omega.{arith}
use lib.Count.{ones-le}
use Rattle.sets.proofs.Ones.{ones_size}
use Rattle.sets.proofs.boards.size.Goals as goal

pub returns : goal.returns
returns c =
    let s = c.args.s in
    record { value = ones_size s (omega arith); bound = ones-le 8 s (omega arith) }
