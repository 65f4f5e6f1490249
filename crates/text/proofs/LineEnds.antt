-- The lines of a text, by where each begins and ends.
-- Assumes nothing.
use Prim.Native.Nat.{ℕ, zero, suc, ◌+◌, ◌-◌, ◌≤◌, ◌<◌}
use mathlib.Core.Path.{◌≡◌, refl, sym, ap, ap₂, ◌∙◌}
use mathlib.Core.Bool.{Bool, true, false, cond}
use mathlib.Core.List.{List, [], ◌∷◌}
use native.Mathlib.Omega.{arith}
use native.Mathlib.Numerals.{add-one}
use lib.Dec.{eqb, ltb}
use lib.ListN.{length, get_or, take, drop, drop_of_length-le, length-drop}
use lib.Seq.{drop-cons, get_or-drop}
use borrow.Author.Tests.{lt-ltb, le-ltb}
use Rattle.sets.specs.Search.{first}
use Rattle.sets.proofs.Search.{first-le, first-ge, seek_hit, seek-miss, seek-none}
use Rattle.sets.proofs.Tests.{cases}
use Rattle.sheet.specs.Sheet.{Line, prepend, lines}

-- A search from s on is one of what stands from s on.
pull : (b : Bool) (s x y : ℕ) → cond b (s + x) (s + y) ≡ s + cond b x y
pull true s x y = refl
pull false s x y = refl

later : (f g : ℕ → Bool) (s : ℕ) → ((k : ℕ) → f (s + k) ≡ g k) → (left i : ℕ) → first f left (s + i) ≡ s + first g left i
unfolding first
later f g s e zero i = refl
later f g s e (suc left) i =
    let next : first f left (suc (s + i)) ≡ s + first g left (suc i) =
    ap (first f left) (let z : suc (s + i) ≡ s + suc i = omega arith in z) ∙ later f g s e left (suc i) in
    ap₂ (λ b m. cond b (s + i) m) (e i) next ∙ pull (g i) s i (first g left (suc i))

module _ (text : List ℕ) where
  abbrev newline : ℕ → Bool
  newline i = eqb (get_or text i 0) 10

  -- Where the line that begins at s ends, as `line_end` finds it.
  abbrev pub stop : ℕ → ℕ
  stop s = first (λ i. eqb (get_or text i 0) 10) (length text - s) s

  -- By the part of the text from s on.
  pub stop_part : (s : ℕ) (rest : List ℕ) → rest ≡ drop s text → s + first (λ i. eqb (get_or rest i 0) 10) (length rest) 0 ≡ stop s
  stop_part s rest is =
      let here : ℕ → Bool = λ k. eqb (get_or (drop s text) k 0) 10 in
      rw is (ap (λ n. s + first here n 0) (length-drop s text)
      ∙ sym (ap (first newline (length text - s)) (let z : s ≡ s + 0 = omega arith in z)
      ∙ later newline here s (λ k. ap (λ c. eqb c 10) (sym (get_or-drop s text k 0))) (length text - s) 0))

  next : (s : ℕ) → s < length text → newline s ≡ false → stop (suc s) ≡ stop s
  next s l x = ap stop (sym (add-one s)) ∙ seek-miss newline (length text) s (stop s) refl l x

  -- The line from s to e, and the lines after it.
  abbrev cut : ℕ → ℕ → List Line
  cut s e = record { text = take (e - s) (drop s text); ended = ltb e (length text) } ∷ lines (drop (e + 1) text)

  pub lines_none : (s : ℕ) → length text ≤ s → lines (drop s text) ≡ []
  unfolding lines
  lines_none s l = ap lines (drop_of_length-le text {i = s} l)

  -- The line at s by its first character.
  line_first : (s : ℕ) → s < length text → lines (drop s text)
      ≡ cond (eqb (get_or text s 0) 10) (record { text = []; ended = true } ∷ lines (drop (suc s) text)) (prepend (get_or text s 0) (lines (drop (suc s) text)))
  unfolding lines
  line_first s l = ap lines (drop-cons text s 0 l)

  line-empty : (s : ℕ) → s < length text → eqb (get_or text s 0) 10 ≡ true → lines (drop s text) ≡ cut s s
  line-empty s l x =
      line_first s l
      ∙ ap (λ b. cond b (record { text = []; ended = true } ∷ lines (drop (suc s) text)) (prepend (get_or text s 0) (lines (drop (suc s) text)))) x
      ∙ rw (lt-ltb s (length text) l, let z : s - s ≡ 0 = omega arith in z, add-one s) refl

  line-more : (s e : ℕ) → s < length text → suc s ≤ e → eqb (get_or text s 0) 10 ≡ false → lines (drop (suc s) text) ≡ cut (suc s) e
      → lines (drop s text) ≡ cut s e
  unfolding prepend
  line-more s e l h x ih =
      line_first s l
      ∙ ap (λ b. cond b (record { text = []; ended = true } ∷ lines (drop (suc s) text)) (prepend (get_or text s 0) (lines (drop (suc s) text)))) x
      ∙ ap (prepend (get_or text s 0)) ih
      ∙ ap (λ t. record { text = t; ended = ltb e (length text) } ∷ lines (drop (e + 1) text))
      (sym (ap₂ take (let z : e - s ≡ suc (e - suc s) = omega arith in z) (drop-cons text s 0 l)))

  line-last : (s : ℕ) → suc s ≡ length text → eqb (get_or text s 0) 10 ≡ false → lines (drop s text) ≡ cut s (suc s)
  unfolding prepend
  line-last s l x =
      line_first s (omega arith)
      ∙ ap (λ b. cond b (record { text = []; ended = true } ∷ lines (drop (suc s) text)) (prepend (get_or text s 0) (lines (drop (suc s) text)))) x
      ∙ ap (prepend (get_or text s 0)) (lines_none (suc s) (omega arith))
      ∙ sym (rw (
        lines_none (suc s + 1) (omega arith),
        le-ltb (suc s) (length text) (omega arith),
        let z : suc s - s ≡ 1 = omega arith in z,
        drop-cons text s 0 (omega arith),
      ) refl)

  lines_from : (left s : ℕ) → s + suc left ≡ length text → lines (drop s text) ≡ cut s (stop s)
  lines_from zero s e =
      cases (newline s)
      (λ x. line-empty s (omega arith) x ∙ ap (cut s) (seek_hit newline (length text) s (stop s) refl (omega arith) x))
      (λ x. line-last s (omega arith) x
      ∙ ap (cut s) (seek-none newline (length text) (suc s) (stop (suc s)) refl (omega arith) ∙ next s (omega arith) x))
  lines_from (suc left) s e =
      cases (newline s)
      (λ x. line-empty s (omega arith) x ∙ ap (cut s) (seek_hit newline (length text) s (stop s) refl (omega arith) x))
      (λ x. line-more s (stop (suc s)) (omega arith) (first-ge newline (length text - suc s) (suc s)) x (lines_from left (suc s) (omega arith))
      ∙ ap (cut s) (next s (omega arith) x))

  -- The line that begins at s, and the lines after it.
  pub lines_at : (s : ℕ) → s < length text → lines (drop s text)
      ≡ record { text = take (stop s - s) (drop s text); ended = ltb (stop s) (length text) } ∷ lines (drop (stop s + 1) text)
  lines_at s l = lines_from (length text - suc s) s (omega arith)

  pub stop-ge : (s : ℕ) → s ≤ stop s
  stop-ge s = first-ge newline (length text - s) s

  pub stop_le : (s : ℕ) → s ≤ length text → stop s ≤ length text
  stop_le s l = omega (arith, first-le newline (length text - s) s)
