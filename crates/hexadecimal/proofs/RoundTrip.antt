-- What is written is read back, and what is read is what is written.
-- Assumes nothing.
use Prim.Native.Nat.{ℕ, suc, ◌+◌, ◌-◌, ◌*◌, ◌/◌, ◌%◌, ◌<◌}
use mathlib.Core.Path.{◌≡◌, refl, sym, ap, ap₂, ◌∙◌}
use mathlib.Core.Bool.{◌&&◌}
use mathlib.Core.List.{List, [], ◌∷◌}
use mathlib.Core.Option.{Option, some, none}
use native.Mathlib.Omega.{arith}
use lib.Dec.{leb, ltb}
use borrow.Author.Tests.{lt-ltb, le-ltb, leb-true, ltb-true, ltb-false}
use Rattle.sets.proofs.Tests.{cases, and_l, and_r}
use Rattle.hexadecimal.specs.Hex.{digit, join_byte, bytes_of, hex_digit, hex_byte, hex_bytes}
use Rattle.hexadecimal.specs.Claims.{WrittenRead, ReadWritten}
use Rattle.hexadecimal.proofs.Digits.{digit-number, digit-letter, digit-small}

-- One digit.
digit-written : (x : ℕ) → x < 16 → digit (hex_digit x) ≡ some x
unfolding hex_digit
digit-written x l =
    cases (ltb x 10)
    (λ t. let small = ltb-true x 10 t in
    ap digit (rw t refl) ∙ digit-number (48 + x) (omega arith) (omega arith) ∙ ap some (let z : 48 + x - 48 ≡ x = omega arith in z))
    (λ t. let large = ltb-false x 10 t in
    ap digit (rw t refl) ∙ digit-letter (55 + x) (omega arith) (omega arith) ∙ ap some (let z : 55 + x - 55 ≡ x = omega arith in z))

written-digit : (c v : ℕ) → digit c ≡ some v → hex_digit v ≡ c
unfolding digit hex_digit
written-digit c v e =
    let a = leb 48 c && leb c 57 in
    let b = leb 65 c && leb c 70 in
    cases a
    (λ x. let z : c - 48 ≡ v = let y : some (c - 48) ≡ some v = rw x at e in cc in
    let least = leb-true 48 c (and_l (leb 48 c) (leb c 57) x) in
    let most = leb-true c 57 (and_r (leb 48 c) (leb c 57) x) in
    rw (lt-ltb v 10 (omega arith)) (omega arith))
    (λ x. cases b
    (λ y. let z : c - 55 ≡ v = let w : some (c - 55) ≡ some v = rw (x, y) at e in cc in
    let least = leb-true 65 c (and_l (leb 65 c) (leb c 70) y) in
    rw (le-ltb v 10 (omega arith)) (omega arith))
    (λ y. let w : none ≡ some v = rw (x, y) at e in let z : ◌≡◌ {A = ℕ} 0 1 = cc in absurd (omega arith)))

pub written_read : WrittenRead
unfolding join_byte bytes_of hex_bytes hex_byte
written_read [] small = refl
written_read (x ∷ xs) small =
    let first : x < 256 = small 0 (omega arith) in
    let rest = written_read xs (λ i l. small (suc i) (omega arith)) in
    let value : x / 16 * 16 + x % 16 ≡ x = omega arith in
    rw (digit-written (x / 16) (omega arith), digit-written (x % 16) (omega arith), rest) (ap (λ y. some (y ∷ xs)) value)

-- The digits and the rest of a text that stands for bytes.
joined : (a b : Option ℕ) (r : Option (List ℕ)) (bytes : List ℕ) → join_byte a b r ≡ some bytes
    → (h : ℕ) × (l : ℕ) × (rest : List ℕ) × (a ≡ some h) × (b ≡ some l) × (r ≡ some rest) × (bytes ≡ (h * 16 + l) ∷ rest)
unfolding join_byte
joined none b r bytes e = let z : ◌≡◌ {A = ℕ} 0 1 = cc in absurd (omega arith)
joined (some h) none r bytes e = let z : ◌≡◌ {A = ℕ} 0 1 = cc in absurd (omega arith)
joined (some h) (some l) none bytes e = let z : ◌≡◌ {A = ℕ} 0 1 = cc in absurd (omega arith)
joined (some h) (some l) (some rest) bytes e = (h, l, rest, refl, refl, refl, let z : bytes ≡ (h * 16 + l) ∷ rest = cc in z)

pub read-written : ReadWritten
unfolding bytes_of hex_bytes hex_byte
read-written [] bytes e = let z : [] ≡ bytes = cc in ap (λ b. hex_bytes b []) (sym z)
read-written (c ∷ []) bytes e = let z : ◌≡◌ {A = ℕ} 0 1 = cc in absurd (omega arith)
read-written (c ∷ (d ∷ cs)) bytes e =
    let (h, l, rest, eh, el, er, is) = joined (digit c) (digit d) (bytes_of cs) bytes e in
    let small = digit-small d l el in
    let high : (h * 16 + l) / 16 ≡ h = omega arith in
    let low : (h * 16 + l) % 16 ≡ l = omega arith in
    ap (λ b. hex_bytes b []) is
    ∙ ap₂ (λ x y. x ∷ (y ∷ hex_bytes rest [])) (ap hex_digit high ∙ written-digit c h eh) (ap hex_digit low ∙ written-digit d l el)
    ∙ ap (λ r. c ∷ (d ∷ r)) (read-written cs rest er)
