-- Lines and frames by the place where a line begins. A middle layer: lines are `lines` of sheet/Sheet.
use Rattle.std.specs.Prelude.{ℕ, ◌-◌, cond, List, eqb, ltb, length, get_or, take, drop}
use Rattle.std.specs.Prelude as Std
use Rattle.std.proofs.Math.Option.{Option, some, none}
use Rattle.sets.specs.Search.{first}
use Rattle.finding.specs.Frames.{line_frame}

-- Where the line at `at` ends: its newline, or the end of the text.
abbrev pub line_stop : List ℕ → ℕ → ℕ
line_stop text at = first (λ i. eqb (get_or text i 0) 10) (length text - at) at

unfoldable pub line_at : List ℕ → ℕ → List ℕ
line_at text at = take (line_stop text at - at) (drop at text)

-- The bytes of the values of the frame line at `at`, if a line begins there.
unfoldable pub frame_at : List ℕ → ℕ → Option (List ℕ)
frame_at text at = let vs = (line_frame (line_at text at)).values in cond (ltb at (length text)) (some vs) none

-- The bytes of the values of the first of the frame lines that are found, if any are.
unfoldable pub frame_found : Std.Option (List ℕ) → Option (List ℕ)
frame_found Std.None = none
frame_found (Std.Some frames) = frame_at frames 0
