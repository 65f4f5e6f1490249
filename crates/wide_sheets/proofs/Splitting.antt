-- Lines, and the text that they make: widened lines are the lines of their text.
-- Assumes nothing.
use Prim.Native.Nat.{ℕ, suc, ◌≤◌, ◌<◌}
use mathlib.Core.Path.{◌≡◌, refl, sym, ◌∙◌, ap, ap₂, subst}
use mathlib.Core.Logic.{◌≢◌}
use mathlib.Core.Bool.{Bool, true, false, cond}
use mathlib.Core.List.{List, [], ◌∷◌, ◌++◌, map}
use native.Mathlib.Omega.{arith}
use lib.Dec.{eqb}
use lib.ListN.{length, length-append}
use borrow.Author.Tests.{eqb-true, eqb-false, ne_eqb}
use Rattle.sets.proofs.Tests.{cases}
use Rattle.sheet.specs.Sheet.{Line, prepend, lines}
use Rattle.wide_sheets.specs.WideText.{head_value, frame_value, wide_digits, wide_line, wide_lines, joined, wide_text}

-- Characters of one line: no newline.
pub data Plain : List ℕ → Type 0 where
  no_more : Plain []
  more : {c : ℕ} {cs : List ℕ} → c ≢ 10 → Plain cs → Plain (c ∷ cs)

-- What the lines of a text are: only the last may lack its newline, and has a character then.
pub data Split : List Line → Type 0 where
  no_lines : Split []
  last_line : {t : List ℕ} → Plain t → 0 < length t → Split (record { text = t; ended = false } ∷ [])
  line : {t : List ℕ} {ls : List Line} → Plain t → Split ls → Split (record { text = t; ended = true } ∷ ls)

prepend-split : (c : ℕ) → c ≢ 10 → {ls : List Line} → Split ls → Split (prepend c ls)
unfolding prepend
prepend-split c ne no_lines = last_line (more ne no_more) (omega arith)
prepend-split c ne (last_line p l) = last_line (more ne p) (omega arith)
prepend-split c ne (line p s) = line (more ne p) s

lines_split : (text : List ℕ) → Split (lines text)
unfolding lines
lines_split [] = no_lines
lines_split (c ∷ cs) =
    let rest = lines_split cs in
    cases (eqb c 10)
    (λ e. rw e (line no_more rest))
    (λ e. rw e (prepend-split c (eqb-false c 10 e) rest))

-- The lines of a text that begins with a line.
pub lines-line : {t : List ℕ} → Plain t → (rest : List ℕ) → lines (t ++ (10 ∷ rest)) ≡ record { text = t; ended = true } ∷ lines rest
unfolding lines prepend
lines-line no_more rest = refl
lines-line (more {c = c} ne p) rest = rw (ne_eqb c 10 ne) (ap (prepend c) (lines-line p rest))

lines-last : {t : List ℕ} → Plain t → 0 < length t → lines (t ++ []) ≡ record { text = t; ended = false } ∷ []
unfolding lines prepend
lines-last no_more l = absurd (omega arith)
lines-last (more {c = c} ne no_more) l = rw (ne_eqb c 10 ne)
lines-last (more {c = c} ne (more ne' p)) l = rw (ne_eqb c 10 ne) (ap (prepend c) (lines-last (more ne' p) (omega arith)))

lines-joined : {ls : List Line} → Split ls → lines (joined ls) ≡ ls
unfolding joined
lines-joined no_lines = unfold lines in refl
lines-joined (last_line p l) = lines-last p l
lines-joined (line {t = t} {ls = ls} p s) = lines-line p (joined ls) ∙ ap (λ r. record { text = t; ended = true } ∷ r) (lines-joined s)

-- Widened lines are such lines too.
module _ (is_value : ℕ → Bool) where
  plain-wide : (k : ℕ) {t : List ℕ} → Plain t → Plain (wide_digits is_value k t)
  unfolding wide_digits
  plain-wide k no_more = no_more
  plain-wide k (more ne no_more) = more ne no_more
  plain-wide k (more ne (more ne' p)) =
      let rest = more ne (more ne' (plain-wide (suc k) p)) in
      let digit : ◌≢◌ {A = ℕ} 0x30 10 = omega arith in
      cases (is_value k) (λ e. rw e (more digit (more digit rest))) (λ e. rw e rest)

  length-wide : (k : ℕ) (t : List ℕ) → length t ≤ length (wide_digits is_value k t)
  unfolding wide_digits
  length-wide k [] = omega arith
  length-wide k (c ∷ []) = omega arith
  length-wide k (c ∷ (e ∷ cs)) =
      let ih = length-wide (suc k) cs in
      cases (is_value k) (λ x. rw x (omega arith)) (λ x. rw x (omega arith))

  split-wide : {ls : List Line} → Split ls → Split (map (wide_line is_value) ls)
  unfolding wide_line
  split-wide no_lines = no_lines
  split-wide (last_line {t = t} p l) = last_line (plain-wide 0 p) (omega (arith, length-wide 0 t))
  split-wide (line p s) = line (plain-wide 0 p) (split-wide s)

  line-longer : (l : Line) (rest rest' : List ℕ) → length rest ≤ length rest'
      → length (l.text ++ cond l.ended (10 ∷ rest) rest) ≤ length ((wide_line is_value l).text ++ cond l.ended (10 ∷ rest') rest')
  unfolding wide_line
  line-longer l rest rest' h =
      let a = length-wide 0 l.text in
      cases l.ended
      (λ e. rw e (omega (arith, length-append l.text (10 ∷ rest), length-append (wide_digits is_value 0 l.text) (10 ∷ rest'))))
      (λ e. rw e (omega (arith, length-append l.text rest, length-append (wide_digits is_value 0 l.text) rest')))

  lines-longer : (ls : List Line) → length (joined ls) ≤ length (joined (map (wide_line is_value) ls))
  unfolding joined wide_line
  lines-longer [] = omega arith
  lines-longer (l ∷ ls) = line-longer l (joined ls) (joined (map (wide_line is_value) ls)) (lines-longer ls)

sheet-split : {ls : List Line} → Split ls → Split (wide_lines ls)
unfolding wide_lines wide_line
sheet-split no_lines = no_lines
sheet-split (last_line {t = t} p l) = last_line (plain-wide head_value 0 p) (omega (arith, length-wide head_value 0 t))
sheet-split (line p s) = line (plain-wide head_value 0 p) (split-wide frame_value s)

pub sheet-lines-wide : (text : List ℕ) → lines (wide_text text) ≡ wide_lines (lines text)
unfolding wide_text
sheet-lines-wide text = lines-joined (sheet-split (lines_split text))

-- A text is what its lines make.
joined-prepend : (c : ℕ) (ls : List Line) → joined (prepend c ls) ≡ c ∷ joined ls
unfolding joined prepend
joined-prepend c [] = refl
joined-prepend c (l ∷ ls) = refl

joined-lines : (text : List ℕ) → joined (lines text) ≡ text
unfolding lines joined
joined-lines [] = refl
joined-lines (c ∷ cs) =
    let ih = joined-lines cs in
    cases (eqb c 10)
    (λ e. rw e (ap₂ ◌∷◌ (sym (eqb-true c 10 e)) ih))
    (λ e. rw e (joined-prepend c (lines cs) ∙ ap (λ t. c ∷ t) ih))

sheet-longer : (ls : List Line) → length (joined ls) ≤ length (joined (wide_lines ls))
unfolding joined wide_lines wide_line
sheet-longer [] = omega arith
sheet-longer (l ∷ ls) = line-longer head_value l (joined ls) (joined (map (wide_line frame_value) ls)) (lines-longer frame_value ls)

pub text-longer : (text : List ℕ) → length text ≤ length (wide_text text)
unfolding wide_text
text-longer text = subst (λ t. length t ≤ length (joined (wide_lines (lines text)))) (joined-lines text) (sheet-longer (lines text))
