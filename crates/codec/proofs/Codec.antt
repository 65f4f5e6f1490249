-- The laws of the codec: what is written is read back, at every width; and where the bytes of values lie.
-- Assumes nothing.
use Prim.Native.Nat.{ℕ, zero, suc, ◌+◌, ◌*◌, ◌/◌, ◌%◌, ◌^◌, ◌≤◌, ◌<◌}
use mathlib.Core.Path.{◌≡◌, refl, sym, ◌∙◌, ap, ap₂}
use mathlib.Core.Logic.{◌≢◌, ◌⊎◌, inl, inr, ⊎_elim}
use mathlib.Core.Bool.{Bool, true, false}
use mathlib.Core.List.{List, [], ◌∷◌, ◌++◌, append_assoc}
use native.Mathlib.Omega.{arith}
use native.Mathlib.Nat.{div-add-mod'}
use lib.Dec.{eqb}
use lib.ListN.{length, get_or, take, drop}
use lib.Seq.{take-append_seam, drop-append-add, drop-drop}
use Rattle.std.specs.Int.{w16, to_be_bytes}
use borrow.Author.Tests.{eq-eqb, ne_eqb, eqb-true, eqb-false}
use Rattle.codec.specs.Codec.{Width, one, two, value_size, blank, encode, pairs, decode, number_at, written}

pub length-encode : (w : Width) (vs : List ℕ) → length (encode w vs) ≡ value_size w * length vs
unfolding encode
length-encode one vs = omega arith
length-encode two [] = refl
length-encode two (v ∷ vs) = omega (arith, length-encode two vs)

-- Two bytes a value are never odd.
even : (k : ℕ) → 2 * k % 2 ≡ 0
even k = omega arith

pairs-encode : (vs : List ℕ) → pairs (encode two vs) ≡ vs
unfolding pairs encode
pairs-encode [] = refl
pairs-encode (v ∷ vs) = ap₂ ◌∷◌ (div-add-mod' v 256) (pairs-encode vs)

pub decode-encode : (w : Width) (vs : List ℕ) → decode w (encode w vs) ≡ vs
unfolding decode
decode-encode one vs = unfold encode in refl
decode-encode two vs =
    rw (eq-eqb (length (encode two vs) % 2) 0 (ap (λ k. k % 2) (length-encode two vs) ∙ even (length vs))) (pairs-encode vs)

pub decode-none : (w : Width) → decode w [] ≡ []
unfolding decode pairs
decode-none one = refl
decode-none two = refl

pairs-length : (f : List ℕ) → 2 * length (pairs f) + length f % 2 ≡ length f
unfolding pairs
pairs-length [] = refl
pairs-length (h ∷ []) = refl
pairs-length (h ∷ (l ∷ f)) = omega (arith, pairs-length f)

-- Two bytes a value: an even count of bytes writes half as many values, an odd one none.
decode-pairs : (f : List ℕ) → length f % 2 ≡ 0 → decode two f ≡ pairs f
unfolding decode
decode-pairs f e = rw (eq-eqb (length f % 2) 0 e) refl

pub decode-even : (f : List ℕ) → length f % 2 ≡ 0 → length (decode two f) ≡ length f / 2
decode-even f e = omega (arith, ap length (decode-pairs f e), pairs-length f)

pub decode-odd : (f : List ℕ) → length f % 2 ≢ 0 → decode two f ≡ []
unfolding decode
decode-odd f e = rw (ne_eqb (length f % 2) 0 e) refl

parity : (f : List ℕ) → ((length f % 2 ≡ 0) × (decode two f ≡ pairs f)) ⊎ (decode two f ≡ [])
parity f = go (eqb (length f % 2) 0) refl
  where
    go : (b : Bool) → eqb (length f % 2) 0 ≡ b → ((length f % 2 ≡ 0) × (decode two f ≡ pairs f)) ⊎ (decode two f ≡ [])
    go true e = let even = eqb-true (length f % 2) 0 e in inl (even, decode-pairs f even)
    go false e = inr (decode-odd f (eqb-false (length f % 2) 0 e))

-- Bytes for more than k values are more than k values, or none.
pub decode-past : (w : Width) (k : ℕ) (f : List ℕ) → value_size w * k < length f → (decode w f ≡ []) ⊎ (k < length (decode w f))
decode-past one k f l = unfold decode in inr (omega arith)
decode-past two k f l = ⊎_elim (λ e. inr (omega (arith, e.0, decode-even f e.0))) inl (parity f)

pairs-at : (f : List ℕ) (i : ℕ) → i < length (pairs f) → get_or (pairs f) i 0 ≡ get_or f (2 * i) 0 * 256 + get_or f (suc (2 * i)) 0
unfolding pairs
pairs-at [] i l = absurd (omega arith)
pairs-at (h ∷ []) i l = absurd (omega arith)
pairs-at (h ∷ (t ∷ f)) zero l = refl
pairs-at (h ∷ (t ∷ f)) (suc i) l =
    pairs-at f i (omega arith)
    ∙ ap₂ (λ j k. get_or (h ∷ (t ∷ f)) j 0 * 256 + get_or (h ∷ (t ∷ f)) k 0)
    (let z : suc (suc (2 * i)) ≡ 2 * suc i = omega arith in z) (let z : suc (suc (suc (2 * i))) ≡ suc (2 * suc i) = omega arith in z)

-- Value number i is the number in its own bytes, which the frame has.
pub decode-fits : (w : Width) (f : List ℕ) (i : ℕ) → i < length (decode w f) → value_size w * suc i ≤ length f
decode-fits one f i l = unfold decode in omega arith
decode-fits two f i l =
    ⊎_elim (λ e. omega (arith, ap length e.1, pairs-length f)) (λ e. absurd (let z = ap length e in omega arith)) (parity f)

pub decode-at : (w : Width) (f : List ℕ) (i : ℕ) → i < length (decode w f) → get_or (decode w f) i 0 ≡ number_at w f (value_size w * i)
unfolding number_at
decode-at one f i l = unfold decode in ap (λ k. get_or f k 0) (let z : i ≡ 1 * i = omega arith in z)
decode-at two f i l =
    ⊎_elim
    (λ e. ap (λ vs. get_or vs i 0) e.1 ∙ pairs-at f i (let z = ap length e.1 in omega arith))
    (λ e. absurd (let z = ap length e in omega arith))
    (parity f)

pub encode-append : (w : Width) (us vs : List ℕ) → encode w (us ++ vs) ≡ encode w us ++ encode w vs
unfolding encode
encode-append one us vs = refl
encode-append two [] vs = refl
encode-append two (u ∷ us) vs = ap (λ t. (u / 256) ∷ ((u % 256) ∷ t)) (encode-append two us vs)

-- The bytes of the values before number i, and of those up to it.
next-size : (w : Width) (i : ℕ) → value_size w * i + value_size w ≡ value_size w * suc i
next-size one i = omega arith
next-size two i = omega arith

-- Writing the next value behind those that are written.
pub written_next : (w : Width) (vs out : List ℕ) (v i : ℕ) → length vs ≡ i
    → written w i v (encode w vs ++ drop (value_size w * i) out) ≡ encode w (vs ++ (v ∷ [])) ++ drop (value_size w * suc i) out
unfolding written
written_next w vs out v i e =
    let size : length (encode w vs) ≡ value_size w * i = length-encode w vs ∙ ap (λ k. value_size w * k) e in
    let rest = drop (value_size w * i) out in
    let kept : take (value_size w * i) (encode w vs ++ rest) ≡ encode w vs =
    ap (λ k. take k (encode w vs ++ rest)) (sym size) ∙ take-append_seam (encode w vs) rest in
    let past : drop (value_size w * suc i) (encode w vs ++ rest) ≡ drop (value_size w * suc i) out =
    ap (λ k. drop k (encode w vs ++ rest)) (sym (ap (λ k. k + value_size w) size ∙ next-size w i))
    ∙ drop-append-add (encode w vs) rest (value_size w)
    ∙ drop-drop (value_size w) (value_size w * i) out
    ∙ ap (λ k. drop k out) (next-size w i) in
    ap₂ (λ x y. x ++ (encode w (v ∷ []) ++ y)) kept past
    ∙ sym (append_assoc (encode w vs) (encode w (v ∷ [])) (drop (value_size w * suc i) out))
    ∙ ap (λ x. x ++ drop (value_size w * suc i) out) (sym (encode-append w vs (v ∷ [])))

-- The two bytes of a number as std gives them.
pub to_be_bytes-pair : (v : ℕ) → v < 65536 → to_be_bytes w16 v ≡ v / 256 ∷ (v % 256 ∷ [])
to_be_bytes-pair v l = ap (λ h. h ∷ (v % 256 ∷ [])) (let z : v / 256 % 256 ≡ v / 256 = omega arith in z)

-- No number that the bytes of a value write is above the mark; so the mark is below no span.
pub blank-most : (w : Width) (v : ℕ) → v < 256 ^ value_size w → v ≤ blank w
blank-most one v l = omega arith
blank-most two v l = omega arith

-- A number in a head is the value of its bytes.
pub number-encoded : (w : Width) (v : ℕ) (rest : List ℕ) → number_at w (encode w (v ∷ []) ++ rest) 0 ≡ v
unfolding number_at encode
number-encoded one v rest = refl
number-encoded two v rest = div-add-mod' v 256

-- Nothing is written yet.
pub written_none : (w : Width) (out : List ℕ) → out ≡ encode w [] ++ drop (value_size w * 0) out
unfolding encode
written_none one out = refl
written_none two out = refl
