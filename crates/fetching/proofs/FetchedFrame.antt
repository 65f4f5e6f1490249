-- What is read of a frame line.
-- Assumes nothing.
use Prim.Native.Nat.{ℕ, zero, suc, ◌+◌, ◌-◌, ◌*◌, ◌/◌, ◌≤◌, ◌<◌, min}
use mathlib.Core.Path.{◌≡◌, refl, sym, ap, ap₂, ◌∙◌}
use mathlib.Core.List.{List, [], ◌∷◌, ◌++◌}
use mathlib.Core.Option.{Option, some, none}
use native.Mathlib.Numerals.{add-one}
use native.Mathlib.Omega.{arith}
use lib.Dec.{ltb}
use lib.ListN.{length, get_or, take, drop, set, drop_of_length-le, length-drop, length-append, length-take}
use lib.Seq.{get_or-drop, take_at, take_all, set_at, drop-cons, append_snoc}
use borrow.Author.Tests.{lt-ltb, ltb-true, ltb-false}
use Rattle.sets.proofs.Tests.{cases}
use Rattle.hexadecimal.specs.Hex.{digit}
use Rattle.hexadecimal.specs.Bytes.{byte_of, byte_at, bytes_from}
use Rattle.hexadecimal.proofs.Bytes.{bytes-more, bytes-length, bytes_take}
use Rattle.finding.specs.Frames.{line_frame}
use Rattle.fetching.specs.Fetched.{Read, read_length, read_bytes, read_into}
use Rattle.finding.specs.Places.{line_stop, line_at, frame_at}

-- The values stand after the first eight digits.
byte-later : (line : List ℕ) (j : ℕ) → byte_at (drop 8 line) j ≡ byte_at line (4 + j)
unfolding byte_at
byte-later line j =
    let x : 8 + 2 * j ≡ 2 * (4 + j) = omega arith in
    let y : 8 + (2 * j + 1) ≡ 2 * (4 + j) + 1 = omega arith in
    ap₂ (λ u v. byte_of (digit u) (digit v))
    (get_or-drop 8 line (2 * j) 0 ∙ ap (λ m. get_or line m 0) x) (get_or-drop 8 line (2 * j + 1) 0 ∙ ap (λ m. get_or line m 0) y)

bytes-later : (line : List ℕ) (j k : ℕ) → bytes_from (drop 8 line) j k ≡ bytes_from line (4 + j) k
unfolding bytes_from
bytes-later line j zero = refl
bytes-later line j (suc k) =
    let z : 4 + suc j ≡ suc (4 + j) = omega arith in
    ap₂ ◌∷◌ (byte-later line j) (bytes-later line (suc j) k ∙ ap (λ m. bytes_from line m k) z)

pub values-later : (line : List ℕ) → bytes_from (drop 8 line) 0 (length (drop 8 line) / 2) ≡ (line_frame line).values
unfolding line_frame
values-later line =
    let z : length (drop 8 line) / 2 ≡ length line / 2 - 4 = omega (arith, length-drop 8 line) in
    ap (bytes_from (drop 8 line) 0) z ∙ bytes-later line 0 (length line / 2 - 4)

-- Decoding: the first i bytes, and the buffer as it came after them.
module _ (digits buffer : List ℕ) where
  abbrev pub decoded : ℕ → List ℕ
  decoded i = bytes_from digits 0 i ++ drop i buffer

  pub decoded-none : buffer ≡ decoded 0
  unfolding bytes_from
  decoded-none = refl

  pub decoded-more : (i v : ℕ) → i < length buffer → v ≡ byte_at digits i → set (decoded i) i v ≡ decoded (i + 1)
  decoded-more i v l e =
      let z : 0 + i ≡ i = omega arith in
      let more : bytes_from digits 0 (i + 1) ≡ bytes_from digits 0 i ++ (v ∷ []) =
      ap (bytes_from digits 0) (add-one i) ∙ bytes-more digits 0 i ∙ ap (λ x. bytes_from digits 0 i ++ (x ∷ [])) (ap (byte_at digits) z ∙ sym e) in
      ap (λ x. set (bytes_from digits 0 i ++ x) i v) (drop-cons buffer i 0 l)
      ∙ set_at (bytes_from digits 0 i) (get_or buffer i 0) (drop (suc i) buffer) v i (bytes-length digits 0 i)
      ∙ sym (append_snoc (bytes_from digits 0 i) v (drop (suc i) buffer))
      ∙ ap₂ (λ x m. x ++ drop m buffer) (sym more) (sym (add-one i))

  pub decoded-length : (i : ℕ) → i ≤ length buffer → length (decoded i) ≡ length buffer
  decoded-length i l =
      let a = length-append (bytes_from digits 0 i) (drop i buffer) in
      omega (arith, a, bytes-length digits 0 i, length-drop i buffer)

  -- All that the buffer takes.
  decoded-whole : decoded (min (length digits / 2) (length buffer)) ≡ read_bytes (some (bytes_from digits 0 (length digits / 2))) buffer
  unfolding read_bytes
  decoded-whole =
      let n = length digits / 2 in
      let r = length buffer in
      let size = bytes-length digits 0 n in
      cases (ltb n r)
      (λ x. let l = ltb-true n r x in
      let m : min n r ≡ n = omega arith in
      ap decoded m ∙ ap₂ (λ a k. a ++ drop k buffer) (sym (take_all r (bytes_from digits 0 n) (omega arith))) (sym size))
      (λ x. let l = ltb-false n r x in
      let m : min n r ≡ r = omega arith in
      ap decoded m
      ∙ ap₂ ◌++◌ (sym (bytes_take digits r 0 n l)) (drop_of_length-le buffer {i = r} (omega arith) ∙ sym (drop_of_length-le buffer {i = length (bytes_from digits 0 n)} (omega arith))))

  pub decoded-all : (r : ℕ) → r ≡ min (length digits / 2) (length buffer)
      → record { count = some r; buffer = decoded r } ≡ read_into (some (bytes_from digits 0 (length digits / 2))) buffer
  unfolding read_length
  decoded-all r e =
      ap₂ (λ k b. record { count = some k; buffer = b })
      (e ∙ ap (λ n. min n (length buffer)) (sym (bytes-length digits 0 (length digits / 2)))) (ap decoded e ∙ decoded-whole)

-- What is read where there is no frame.
pub read-missing : (v : Option (List ℕ)) (buffer : List ℕ) → none ≡ v → record { count = none; buffer = buffer } ≡ read_into v buffer
unfolding read_length read_bytes
read-missing v buffer missing = rw (← missing) refl

-- What is read of the frame that the first of some frame lines has.
module _ (v : Option (List ℕ)) (text buffer : List ℕ) (here : frame_at text 0 ≡ v) where
  -- With what the code has in hand: the line's end e, the digits, and what was read of them.
  pub read_found : 0 < length text → (e : ℕ) (digits : List ℕ) (read : Read) → e ≡ line_stop text 0 → digits ≡ drop 8 (take e text)
      → read ≡ read_into (some (bytes_from digits 0 (length digits / 2))) buffer → read ≡ read_into v buffer
  unfolding frame_at line_at
  read_found l e digits read ends ed er =
      let line = line_at text 0 in
      let vs = bytes_from digits 0 (length digits / 2) in
      let same : digits ≡ drop 8 line = ed ∙ ap (λ m. drop 8 (take m text)) (let z : e ≡ line_stop text 0 - 0 = omega (arith, ends) in z) in
      let is : some (line_frame line).values ≡ v = rw (lt-ltb 0 (length text) l) at here in
      let values : some vs ≡ v = ap (λ d. some (bytes_from d 0 (length d / 2))) same ∙ ap some (values-later line) ∙ is in
      er ∙ ap (λ o. read_into o buffer) values

-- For callers: what was read is what the buffer takes of the frame's bytes.
pub read-missed : (v : Option (List ℕ)) (room : ℕ) → read_length v room ≡ none → v ≡ none
unfolding read_length
read-missed none room e = refl
read-missed (some vs) room e = let z : ◌≡◌ {A = ℕ} 0 1 = cc in absurd (omega arith)

pub read-frame-is : (v : Option (List ℕ)) (room k : ℕ) → read_length v room ≡ some k → (vs : List ℕ) × (v ≡ some vs) × (k ≡ min (length vs) room)
unfolding read_length
read-frame-is none room k e = let z : ◌≡◌ {A = ℕ} 0 1 = cc in absurd (omega arith)
read-frame-is (some vs) room k e = (vs, refl, let z : k ≡ min (length vs) room = cc in z)

pub read_taken : (v : Option (List ℕ)) (vs buffer : List ℕ) (room k : ℕ) → v ≡ some vs → length buffer ≡ room → read_length v room ≡ some k
    → take k (read_bytes v buffer) ≡ take room vs
unfolding read_length read_bytes
read_taken v vs buffer room k x r e =
    let y : some (min (length vs) room) ≡ some k = rw x at e in
    let z : min (length vs) room ≡ k = cc in
    let size : length (take (length buffer) vs) ≡ k = omega (arith, length-take (length buffer) vs) in
    ap (λ o. take k (read_bytes o buffer)) x ∙ take_at (take (length buffer) vs) (drop (length vs) buffer) k size ∙ ap (λ m. take m vs) r
