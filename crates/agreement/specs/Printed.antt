-- What is claimed of the text that a played sheet prints: demand 3, read off the lines.
use Rattle.std.specs.Prelude.{ℕ, zero, suc, ◌<◌, ◌≡◌, true, false, cond, List, []}
use Rattle.std.proofs.Math.Option.{some}
use Rattle.codec.specs.Codec.{Width}
use Rattle.sets.specs.Sets.{member, within}
use Rattle.sets.specs.Structure.{holder}
use Rattle.plan.specs.Listed.{listed}
use Rattle.sheet.specs.declared.head.Head.{Head}
use Rattle.sheet.specs.Sheet.{reading}
use Rattle.sheet.specs.Playing.{printed, playing, bench_prints}

-- The lines of those boards i to i + k - 1 that are outside F, rising: the board, one decision, the board's list and its place.
unfoldable pub agreed_lines : Width → Head → ℕ → (ℕ → ℕ) → (ℕ → ℕ) → ℕ → ℕ → List ℕ
agreed_lines w h decision lists places i zero = []
agreed_lines w h decision lists places i (suc k) =
    let rest = agreed_lines w h decision lists places (suc i) k in
    cond (member i h.faulty) rest (printed w i decision (lists i) (places i) rest)

pub record PrintedAgreement (w : Width) (h : Head) (text : List ℕ) : Type 0 where
  pub decision : ℕ
  pub lists : ℕ → ℕ
  pub places : ℕ → ℕ
  -- the text is a line for each board outside F, all with one decision
  pub prints : text ≡ agreed_lines w h decision lists places 0 h.plan.n
  -- the dealer's value, if the dealer is outside F
  pub dealers : member h.plan.dealer h.faulty ≡ false → decision ≡ h.word
  -- each list lies within F
  pub sound : (i : ℕ) → i < h.plan.n → member i h.faulty ≡ false → within (lists i) h.faulty ≡ true
  -- 02 c: "and so on every sheet, a healthy board's list has such a place": each place is the one that the test gives for the list, that of
  -- the first listed set that holds it, 0 if nobody is listed, also where there are no sets
  pub placed : (i : ℕ) → i < h.plan.n → member i h.faulty ≡ false → holder (listed h.plan) (lists i) ≡ some (places i)
  -- the line of a dealer outside F has an empty list and place 0
  pub dealer-list : member h.plan.dealer h.faulty ≡ false → lists h.plan.dealer ≡ 0
  pub dealer-place : member h.plan.dealer h.faulty ≡ false → places h.plan.dealer ≡ 0

-- What the program bench prints for a sheet that is not turned down obeys demand 3, in every width.
abbrev pub Printed : Type 0
Printed = (w : Width) (text cells out : List ℕ) → (playing w text cells out).answer.number ≡ 0
    → PrintedAgreement w (reading w text).head (bench_prints w text cells out)
