-- What comes of a read.
use Rattle.std.specs.Prelude.{ℕ, zero, suc, Result, Ok, Err, Option, Some, None}

-- An error stays one; no bytes are the end of the input, any others have come.
unfoldable pub arrival : {E : Type 0} → Result ℕ E → Result (Option ℕ) E
arrival (Ok zero) = Ok None
arrival (Ok (suc k)) = Ok (Some (suc k))
arrival (Err e) = Err e
