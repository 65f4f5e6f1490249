-- The bytes of a line as a list.
-- Assumes nothing.
use Prim.Native.Nat.{ℕ, zero, suc, ◌+◌, ◌-◌, ◌*◌, ◌/◌, ◌≤◌, ◌<◌}
use mathlib.Core.Path.{◌≡◌, refl, sym, ap, ap₂, ◌∙◌}
use mathlib.Core.Bool.{true, false}
use mathlib.Core.List.{List, [], ◌∷◌, ◌++◌}
use mathlib.Core.Option.{Option, some, none}
use native.Mathlib.Omega.{arith}
use lib.Dec.{ltb}
use lib.ListN.{length, get_or, take, drop, get_or-eq_default}
use lib.Seq.{ext_get_or}
use borrow.Author.Tests.{ltb-true, ltb-false}
use Rattle.sets.proofs.Tests.{cases, clash}
use Rattle.hexadecimal.specs.Hex.{digit, bytes_of}
use Rattle.hexadecimal.specs.Bytes.{is_given, is_text, byte_of, byte_at, bytes_from}
use Rattle.hexadecimal.proofs.Digits.{digit-small, join-inv, byte-of, byte-short}

module _ (line : List ℕ) where
  pub bytes-length : (i k : ℕ) → length (bytes_from line i k) ≡ k
  unfolding bytes_from
  bytes-length i zero = refl
  bytes-length i (suc k) = ap suc (bytes-length (suc i) k)

  pub bytes-at : (i k j : ℕ) → j < k → get_or (bytes_from line i k) j 0 ≡ byte_at line (i + j)
  unfolding bytes_from
  bytes-at i zero j l = absurd (omega arith)
  bytes-at i (suc k) zero l = ap (byte_at line) (let z : i ≡ i + 0 = omega arith in z)
  bytes-at i (suc k) (suc j) l = bytes-at (suc i) k j (omega arith) ∙ ap (byte_at line) (let z : suc i + j ≡ i + suc j = omega arith in z)

  pub bytes_drop : (m i k : ℕ) → m ≤ k → drop m (bytes_from line i k) ≡ bytes_from line (i + m) (k - m)
  unfolding bytes_from
  bytes_drop zero i k l = ap₂ (bytes_from line) (let z : i ≡ i + 0 = omega arith in z) (let z : k ≡ k - 0 = omega arith in z)
  bytes_drop (suc m) i zero l = absurd (omega arith)
  bytes_drop (suc m) i (suc k) l =
      bytes_drop m (suc i) k (omega arith)
      ∙ ap₂ (bytes_from line) (let z : suc i + m ≡ i + suc m = omega arith in z) (let z : k - m ≡ suc k - suc m = omega arith in z)

  pub bytes_take : (m i k : ℕ) → m ≤ k → take m (bytes_from line i k) ≡ bytes_from line i m
  unfolding bytes_from
  bytes_take zero i k l = refl
  bytes_take (suc m) i zero l = absurd (omega arith)
  bytes_take (suc m) i (suc k) l = ap (λ x. byte_at line i ∷ x) (bytes_take m (suc i) k (omega arith))

  pub bytes-more : (i k : ℕ) → bytes_from line i (suc k) ≡ bytes_from line i k ++ (byte_at line (i + k) ∷ [])
  unfolding bytes_from
  bytes-more i zero = ap (λ x. byte_at line x ∷ []) (let z : i ≡ i + 0 = omega arith in z)
  bytes-more i (suc k) =
      ap (λ x. byte_at line i ∷ x) (bytes-more (suc i) k ∙ ap (λ x. bytes_from line (suc i) k ++ (byte_at line x ∷ [])) (let z : suc i + k ≡ i + suc k = omega arith in z))

  -- All bytes of the line.
  abbrev pub all : List ℕ
  all = bytes_from line 0 (length line / 2)

  pub all-at : (j : ℕ) → get_or all j 0 ≡ byte_at line j
  all-at j =
      cases (ltb j (length line / 2))
      (λ x. bytes-at 0 (length line / 2) j (ltb-true j (length line / 2) x) ∙ ap (byte_at line) (let z : 0 + j ≡ j = omega arith in z))
      (λ x. let l = ltb-false j (length line / 2) x in get_or-eq_default all 0 (omega (arith, bytes-length 0 (length line / 2))) ∙ byte-short line j l)

-- The bytes of a line of digits.
bytes-size : (line bytes : List ℕ) → bytes_of line ≡ some bytes → length bytes ≡ length line / 2
unfolding bytes_of
bytes-size [] bytes e = let z : [] ≡ bytes = cc in ap length (sym z)
bytes-size (c ∷ []) bytes e = let z : ◌≡◌ {A = ℕ} 0 1 = cc in absurd (omega arith)
bytes-size (c ∷ (d ∷ cs)) bytes e =
    let (rest, y, x) = join-inv (digit c) (digit d) (bytes_of cs) bytes e in
    ap length x ∙ ap suc (bytes-size cs rest y) ∙ let z : suc (length cs / 2) ≡ suc (suc (length cs)) / 2 = omega arith in z

pub bytes-are : (line bytes : List ℕ) → bytes_of line ≡ some bytes → bytes ≡ bytes_from line 0 (length line / 2)
bytes-are line bytes e =
    let size = bytes-size line bytes e in
    let m = length line / 2 in
    ext_get_or 0 bytes (bytes_from line 0 m) (size ∙ sym (bytes-length line 0 m))
    (λ i l. byte-of line bytes i e ∙ sym (bytes-at line 0 m i (omega arith) ∙ ap (byte_at line) (let z : 0 + i ≡ i = omega arith in z)))

pub text-bytes : (line : List ℕ) → is_text line ≡ true → bytes_of line ≡ some (bytes_from line 0 (length line / 2))
unfolding is_text is_given
text-bytes line e = go (bytes_of line) refl
  where
    go : (o : Option (List ℕ)) → bytes_of line ≡ o → bytes_of line ≡ some (bytes_from line 0 (length line / 2))
    go none x = clash e (ap is_given x)
    go (some bytes) x = x ∙ ap some (bytes-are line bytes x)

pub text-none : (line : List ℕ) → is_text line ≡ false → bytes_of line ≡ none
unfolding is_text is_given
text-none line e = go (bytes_of line) refl
  where
    go : (o : Option (List ℕ)) → bytes_of line ≡ o → bytes_of line ≡ none
    go none x = x
    go (some bytes) x = clash (ap is_given x) e

-- A byte is below 256.
byte_small : (a b : Option ℕ) → ((v : ℕ) → a ≡ some v → v < 16) → ((v : ℕ) → b ≡ some v → v < 16) → byte_of a b < 256
unfolding byte_of
byte_small none b h l = omega arith
byte_small (some x) none h l = omega arith
byte_small (some x) (some y) h l = omega (arith, h x refl, l y refl)

pub byte-below : (line : List ℕ) (k : ℕ) → byte_at line k < 256
unfolding byte_at
byte-below line k =
    byte_small (digit (get_or line (2 * k) 0)) (digit (get_or line (2 * k + 1) 0)) (digit-small (get_or line (2 * k) 0)) (digit-small (get_or line (2 * k + 1) 0))
