-- The sets of a head, slot by slot.
-- Assumes nothing.
use Prim.Native.Nat.{ℕ, suc, ◌+◌, ◌-◌, ◌<◌}
use mathlib.Core.Path.{◌≡◌, refl, sym, ap, ap₂, ◌∙◌}
use mathlib.Core.List.{List, [], ◌∷◌, ◌++◌}
use native.Mathlib.Numerals.{add-one}
use native.Mathlib.Omega.{arith}
use lib.ListN.{take, set, replicate}
use lib.Seq.{set_at, take_at, append_snoc}
use Rattle.codec.specs.Codec.{current}
use Rattle.sheet.specs.Sheet.{sets_place}
use Rattle.hexadecimal.specs.Bytes.{byte_at, bytes_from}
use Rattle.hexadecimal.proofs.Bytes.{bytes-length, bytes-more}

module _ (line : List ℕ) where
  -- The first k sets, and 00 in the other slots.
  abbrev pub slots : ℕ → List ℕ
  slots k = bytes_from line (sets_place current) k ++ replicate (255 - k) 0

  pub slots-start : replicate 255 0 ≡ slots 0
  unfolding bytes_from
  slots-start = refl

  pub slots-more : (k : ℕ) → k < 255 → set (slots k) k (byte_at line (k + sets_place current)) ≡ slots (k + 1)
  slots-more k l =
      let r : replicate {A = ℕ} (255 - k) 0 ≡ 0 ∷ replicate (255 - (k + 1)) 0 =
      ap (λ m. replicate {A = ℕ} m 0) (let z : 255 - k ≡ suc (255 - (k + 1)) = omega arith in z) in
      let v = byte_at line (k + sets_place current) in
      let more : bytes_from line (sets_place current) (k + 1) ≡ bytes_from line (sets_place current) k ++ (v ∷ []) =
      ap (bytes_from line (sets_place current)) (add-one k) ∙ bytes-more line (sets_place current) k ∙ ap (λ x. bytes_from line (sets_place current) k ++ (byte_at line x ∷ [])) (let z : sets_place current + k ≡ k + sets_place current = omega arith in z) in
      ap (λ x. set (bytes_from line (sets_place current) k ++ x) k v) r
      ∙ set_at (bytes_from line (sets_place current) k) 0 (replicate (255 - (k + 1)) 0) v k (bytes-length line (sets_place current) k)
      ∙ sym (append_snoc (bytes_from line (sets_place current) k) v (replicate (255 - (k + 1)) 0))
      ∙ ap (λ x. x ++ replicate (255 - (k + 1)) 0) (sym more)

  -- The part of the slots that holds the sets.
  pub slots-part : (k m : ℕ) (sets : List ℕ) → m ≡ k → sets ≡ slots k → take m sets ≡ bytes_from line (sets_place current) k
  slots-part k m sets same e =
      ap₂ take same e ∙ take_at (bytes_from line (sets_place current) k) (replicate (255 - k) 0) k (bytes-length line (sets_place current) k)
