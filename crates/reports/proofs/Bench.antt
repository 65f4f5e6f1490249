-- What is reported for a sheet that was played is what the program prints.
-- Assumes nothing.
use Prim.Native.Nat.{ℕ, ◌≤◌, ◌<◌}
use mathlib.Core.Path.{◌≡◌, refl, sym, ap, ap₂, ◌∙◌}
use mathlib.Core.Logic.{◌≢◌}
use mathlib.Core.Bool.{Bool, true, false, cond}
use mathlib.Core.List.{List, []}
use native.Mathlib.Omega.{arith}
use lib.Dec.{eqb, ltb}
use lib.ListN.{length, get_or, take, drop, length-append, length-drop}
use lib.Seq.{take_at}
use borrow.Author.Tests.{eq-eqb, ne_eqb, eqb-false, ltb-true, ltb-false, lt-ltb}
use Rattle.codec.specs.Codec.{current}
use Rattle.sets.proofs.Tests.{cases}
use Rattle.refusals.specs.Outcome.{Outcome, refused, refusal}
use Rattle.refusals.proofs.Outcomes.{refusal-number}
use Rattle.protocol.specs.Limits.{sheet_most, output_needed, cells_needed}
use Rattle.std.specs.Prelude.{Result, Ok, Err}
use Rattle.protocol.specs.declared.answers.Refused.{Refused}
use Rattle.protocol.specs.Answers.{played_says}
use Rattle.sheet.specs.Sheet.{wrong_at, reading}
use Rattle.sheet.specs.Playing.{Play, playing, play_head, refused_play, final_boards, print_boards, refusal_text, bench_prints}
use Rattle.printer.specs.Printed.{Output}
use Rattle.reports.specs.Reported.{reported}
use Rattle.reports.proofs.Reports.{report-written, refused-front}

-- The first of an answer's values.
abbrev first : Outcome → ℕ
first o = get_or o.values 0 0

-- The output is as long as it came, and holds what is said to be written.
pub record Fits (out : List ℕ) (p : Play) : Type 0 where
  pub room : length out ≤ length p.out
  pub holds : p.answer.number ≡ 0 → first p.answer ≤ length p.out

fits_refused : (out cells : List ℕ) (o : Outcome) → o.number ≢ 0 → Fits out (refused_play o cells out)
unfolding refused_play
fits_refused out cells o ne = record { room = omega arith; holds = λ e. absurd (ne e) }

fits-cond : (out : List ℕ) (b : Bool) (x y : Play) → (b ≡ true → Fits out x) → (b ≡ false → Fits out y) → Fits out (cond b x y)
fits-cond out true x y f g = f refl
fits-cond out false x y f g = g refl

pub playing-fits : (text cells out : List ℕ) → Fits out (playing current text cells out)
unfolding playing play_head wrong_at
playing-fits text cells out =
    let r = reading current text in
    let t = print_boards current r.head (final_boards current r.head r.frames cells) 0 r.head.plan.n in
    let size = length-append t (drop (length t) out) in
    let rest = length-drop (length t) out in
    let accepted = play_head current r.head r.frames cells out in
    fits-cond out (ltb sheet_most (length text)) _ _
    (λ e. fits_refused out cells (wrong_at 0 (refused 20)) (λ z. absurd (omega arith)))
    (λ e. fits-cond out (ltb (length out) (output_needed current)) _ _
    (λ e. fits_refused out cells (wrong_at 0 (refused 17)) (λ z. absurd (omega arith)))
    (λ e. fits-cond out (ltb (length cells) cells_needed) _ _
    (λ e. fits_refused out cells (wrong_at 0 (refused 11)) (λ z. absurd (omega arith)))
    (λ e. fits-cond out (eqb r.answer.number 0) accepted (refused_play r.answer cells out)
    (λ e. record { room = omega (arith, size, rest); holds = λ z. omega (arith, size, rest) })
    (λ e. fits_refused out cells r.answer (eqb-false r.answer.number 0 e)))))

-- What the program prints, by the answer's number.
module _ (text cells out : List ℕ) where
  prints-lines : (playing current text cells out).answer.number ≡ 0
      → bench_prints current text cells out ≡ take (first (playing current text cells out).answer) (playing current text cells out).out
  unfolding bench_prints
  prints-lines e = rw (eq-eqb (playing current text cells out).answer.number 0 e) refl

  prints-refusal : (playing current text cells out).answer.number ≢ 0
      → bench_prints current text cells out ≡ refusal_text (playing current text cells out).answer.number (first (playing current text cells out).answer)
  unfolding bench_prints
  prints-refusal ne = rw (ne_eqb (playing current text cells out).answer.number 0 ne) refl

-- What is to be printed of an output.
abbrev pub shown : Output → List ℕ
shown o = take o.count o.out

-- What the program prints, for an answer that says what playing says.
pub bench-prints : (text cells out out₁ : List ℕ) (a : Result ℕ Refused) → 9 ≤ length out
    → played_says a ≡ (playing current text cells out).answer → out₁ ≡ (playing current text cells out).out
    → shown (reported a out₁) ≡ bench_prints current text cells out
unfolding played_says
bench-prints text cells out out₁ (Ok k) l e eo =
    let p = playing current text cells out in
    let fits = playing-fits text cells out in
    let number : 0 ≡ p.answer.number = ap (λ o. o.number) e in
    let values : k ≡ first p.answer = ap first e in
    let written = report-written (Ok k) k out₁ refl (let z : k ≤ length out₁ = omega (arith, fits.holds (sym number), ap length eo) in z) in
    sym (ap shown written) ∙ ap₂ take values eo ∙ sym (prints-lines text cells out (sym number))
bench-prints text cells out out₁ (Err r) l e eo =
    let p = playing current text cells out in
    let fits = playing-fits text cells out in
    let number : (refusal r.why).number ≡ p.answer.number = ap (λ o. o.number) e in
    let values : r.line ≡ first p.answer = ap first e in
    let room : 9 ≤ length out₁ = omega (arith, fits.room, ap length eo) in
    let text' = refusal_text (refusal r.why).number r.line in
    ap shown (refused-front r out₁ room)
    ∙ take_at text' (drop (length text') out₁) (length text') refl
    ∙ ap₂ refusal_text number values
    ∙ sym (prints-refusal text cells out (λ z. refusal-number r.why (number ∙ z)))

-- An answer that is a refusal.
abbrev Refuses : Play → Type 0
Refuses p = p.answer.number ≢ 0

refuses-cond : (b : Bool) (x y : Play) → (b ≡ true → Refuses x) → (b ≡ false → Refuses y) → Refuses (cond b x y)
refuses-cond true x y f g = f refl
refuses-cond false x y f g = g refl

-- Playing with an output that is too short is refused.
short-refuses : (text cells out : List ℕ) → length out < output_needed current → Refuses (playing current text cells out)
unfolding playing refused_play wrong_at
short-refuses text cells out l =
    refuses-cond (ltb sheet_most (length text)) _ _ (λ e z. absurd (omega arith))
    (λ e. refuses-cond (ltb (length out) (output_needed current)) _ _ (λ e z. absurd (omega arith)) (λ e. absurd (omega (arith, ltb-false (length out) (output_needed current) e))))

-- Nothing is reported where a refusal does not fit.
short-length : (a : Result ℕ Refused) (text cells out out₁ : List ℕ) → length out < 9 → length out₁ ≡ length out
    → played_says a ≡ (playing current text cells out).answer → (reported a out₁).count ≡ 0
unfolding played_says reported
short-length (Ok k) text cells out out₁ l el e = absurd (short-refuses text cells out (omega arith) (sym (ap (λ o. o.number) e)))
short-length (Err r) text cells out out₁ l el e = rw (lt-ltb (length out₁) 9 (omega arith)) refl

-- The same for an output of any length.
pub sheet-prints : (a : Result ℕ Refused) (text cells out out₁ : List ℕ) → length out₁ ≡ length out
    → played_says a ≡ (playing current text cells out).answer → out₁ ≡ (playing current text cells out).out
    → shown (reported a out₁) ≡ cond (ltb (length out) 9) [] (bench_prints current text cells out)
sheet-prints a text cells out out₁ el e eo =
    cases (ltb (length out) 9)
    (λ t. rw t (ap (λ k. take k (reported a out₁).out) (short-length a text cells out out₁ (ltb-true (length out) 9 t) el e)))
    (λ t. rw t (bench-prints text cells out out₁ a (ltb-false (length out) 9 t) e eo))
