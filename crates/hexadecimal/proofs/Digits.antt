-- Which lines stand for bytes, and for which.
-- Assumes nothing.
use Prim.Native.Nat.{ℕ, zero, suc, ◌+◌, ◌-◌, ◌*◌, ◌/◌, ◌%◌, ◌≤◌, ◌<◌}
use mathlib.Core.Path.{◌≡◌, refl, sym, ap, ap₂, ◌∙◌}
use mathlib.Core.Bool.{Bool, true, false, ◌&&◌}
use mathlib.Core.List.{List, [], ◌∷◌}
use mathlib.Core.Option.{Option, some, none}
use native.Mathlib.Omega.{arith}
use lib.Dec.{leb, eqb}
use Rattle.std.specs.Option.{is_some}
use Rattle.std.specs.Prelude as Std
use Rattle.std.specs.List.{list_all}
use lib.ListN.{length, get_or, get_or-eq_default}
use borrow.Author.Tests.{lt-leb, le-leb, leb-true}
use Rattle.sets.proofs.Tests.{cases, and_r}
use Rattle.hexadecimal.specs.Hex.{digit, join_byte, bytes_of}
use Rattle.hexadecimal.specs.Bytes.{digit_says, is_given, is_text, byte_of, byte_at}

-- A digit's value, by the character.
pub digit-number : (c : ℕ) → 48 ≤ c → c ≤ 57 → digit c ≡ some (c - 48)
unfolding digit
digit-number c l h = rw (le-leb 48 c l, le-leb c 57 h) refl

pub digit-letter : (c : ℕ) → 65 ≤ c → c ≤ 70 → digit c ≡ some (c - 55)
unfolding digit
digit-letter c l h = rw (le-leb 48 c (omega arith), lt-leb c 57 (omega arith), le-leb 65 c l, le-leb c 70 h) refl

-- A digit is below 16.
pub digit-small : (c v : ℕ) → digit c ≡ some v → v < 16
unfolding digit
digit-small c v e =
    let a = leb 48 c && leb c 57 in
    let b = leb 65 c && leb c 70 in
    cases a
    (λ x. let z : c - 48 ≡ v = let y : some (c - 48) ≡ some v = rw x at e in cc in
    omega (arith, leb-true c 57 (and_r (leb 48 c) (leb c 57) x)))
    (λ x. cases b
    (λ y. let z : c - 55 ≡ v = let w : some (c - 55) ≡ some v = rw (x, y) at e in cc in
    omega (arith, leb-true c 70 (and_r (leb 65 c) (leb c 70) y)))
    (λ y. let w : none ≡ some v = rw (x, y) at e in let z : ◌≡◌ {A = ℕ} 0 1 = cc in absurd (omega arith)))

-- Lines

pub given : Option ℕ → Bool
given none = false
given (some v) = true

-- What the code says of a character tells whether it is a digit.
pub says-given : (o : Std.Option ℕ) (c : ℕ) → digit_says o ≡ digit c → is_some o ≡ given (digit c)
unfolding digit_says given
says-given Std.None c e = rw (← e) refl
says-given (Std.Some x) c e = rw (← e) refl

join-given : (a b : Option ℕ) (r : Option (List ℕ)) → is_given (join_byte a b r) ≡ (given a && (given b && is_given r))
unfolding join_byte is_given given
join-given none b r = refl
join-given (some h) none r = refl
join-given (some h) (some l) none = refl
join-given (some h) (some l) (some bytes) = refl

regroup : (x y p q : Bool) → (x && (y && (p && q))) ≡ (p && (x && (y && q)))
regroup true true p q = refl
regroup true false true q = refl
regroup true false false q = refl
regroup false y true q = refl
regroup false y false q = refl

-- A line is a text if it has two characters for each byte and all of them are digits.
pub text-is : (line : List ℕ) → is_text line ≡ (eqb (length line % 2) 0 && list_all (λ c. given (digit c)) line)
unfolding is_text bytes_of is_given given
text-is [] = refl
text-is (c ∷ []) = refl
text-is (c ∷ (d ∷ cs)) =
    let even : length cs % 2 ≡ suc (suc (length cs)) % 2 = omega arith in
    join-given (digit c) (digit d) (bytes_of cs)
    ∙ ap (λ r. given (digit c) && (given (digit d) && r)) (text-is cs)
    ∙ regroup (given (digit c)) (given (digit d)) (eqb (length cs % 2) 0) (list_all (λ x. given (digit x)) cs)
    ∙ ap (λ k. eqb k 0 && (given (digit c) && (given (digit d) && list_all (λ x. given (digit x)) cs))) even

-- The bytes of a line are those of its digits.
pub join-inv : (a b : Option ℕ) (r : Option (List ℕ)) (bytes : List ℕ) → join_byte a b r ≡ some bytes
    → (rest : List ℕ) × (r ≡ some rest) × (bytes ≡ byte_of a b ∷ rest)
unfolding join_byte byte_of
join-inv none b r bytes e = let z : ◌≡◌ {A = ℕ} 0 1 = cc in absurd (omega arith)
join-inv (some h) none r bytes e = let z : ◌≡◌ {A = ℕ} 0 1 = cc in absurd (omega arith)
join-inv (some h) (some l) none bytes e = let z : ◌≡◌ {A = ℕ} 0 1 = cc in absurd (omega arith)
join-inv (some h) (some l) (some rest) bytes e = (rest, refl, let z : bytes ≡ (h * 16 + l) ∷ rest = cc in z)

pub byte-of : (line bytes : List ℕ) (k : ℕ) → bytes_of line ≡ some bytes → get_or bytes k 0 ≡ byte_at line k
unfolding bytes_of byte_at
byte-of [] bytes k e = let z : [] ≡ bytes = cc in ap (λ b. get_or b k 0) (sym z) ∙ unfold digit byte_of in refl
byte-of (c ∷ []) bytes k e = let z : ◌≡◌ {A = ℕ} 0 1 = cc in absurd (omega arith)
byte-of (c ∷ (d ∷ cs)) bytes zero e = let (rest, _, x) = join-inv (digit c) (digit d) (bytes_of cs) bytes e in ap (λ b. get_or b 0 0) x
byte-of (c ∷ (d ∷ cs)) bytes (suc k) e =
    let (rest, y, x) = join-inv (digit c) (digit d) (bytes_of cs) bytes e in
    let two : 2 * suc k ≡ suc (suc (2 * k)) = omega arith in
    let three : 2 * suc k + 1 ≡ suc (suc (2 * k + 1)) = omega arith in
    ap (λ b. get_or b (suc k) 0) x ∙ byte-of cs rest k y
    ∙ sym (ap₂ (λ u v. byte_of (digit (get_or (c ∷ (d ∷ cs)) u 0)) (digit (get_or (c ∷ (d ∷ cs)) v 0))) two three)

byte-second : (a b : Option ℕ) → b ≡ none → byte_of a b ≡ 0
unfolding byte_of
byte-second none b e = refl
byte-second (some h) b e = rw e refl

pub byte-short : (line : List ℕ) (k : ℕ) → length line / 2 ≤ k → 0 ≡ byte_at line k
unfolding byte_at
byte-short line k l =
    let e : get_or line (2 * k + 1) 0 ≡ 0 = get_or-eq_default line 0 (omega arith) in
    sym (ap (λ x. byte_of (digit (get_or line (2 * k) 0)) (digit x)) e ∙ byte-second (digit (get_or line (2 * k) 0)) (digit 0) (unfold digit in refl))

-- What `byte_at` needs of digits.
pub ruleset reading = (digit-small, byte-short)
