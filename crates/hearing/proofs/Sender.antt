-- What a board hears from a sender; the frame of a faulty one plays no part.
-- Assumes nothing.
use Prim.Native.Nat.{ℕ}
use mathlib.Core.Path.{◌≡◌, refl, sym, ap, ◌∙◌}
use mathlib.Core.Bool.{true, false}
use mathlib.Core.List.{List}
use Rattle.sets.specs.Sets.{member}
use Rattle.sets.proofs.Tests.{cases}
use Rattle.protocol.specs.Rounds.{Board}
use Rattle.sheet.specs.Sheet.{Frame}
use Rattle.codec.specs.Codec.{current, decode}
use mathlib.Core.Option.{some}
use Rattle.protocol.specs.Session.{hand_in}
use Rattle.sheet.specs.declared.head.Head.{Head}
use Rattle.hearing.specs.Hearing.{in_sheet, told, hear_from}

-- What a board hears from board q.
module _ (h : Head) (fs : List Frame) (q : ℕ) where
  pub told-faulty : (f : List ℕ) (b : Board) → member q h.faulty ≡ true
      → told h fs q f b ≡ in_sheet fs q b.rec
  unfolding told
  told-faulty f b e = rw e refl

  pub told-healthy : (f : List ℕ) (b : Board) → member q h.faulty ≡ false → told h fs q f b ≡ some (decode current f)
  unfolding told
  told-healthy f b e = rw e refl

  -- The frame of a faulty board plays no part.
  pub hears-same : (f g : List ℕ) → (member q h.faulty ≡ false → f ≡ g) → (i : ℕ) (b : Board) → hear_from h fs q f i b ≡ hear_from h fs q g i b
  unfolding hear_from
  hears-same f g e i b =
      cases (member q h.faulty)
      (λ x. ap (λ y. hand_in q y b) (told-faulty f b x ∙ sym (told-faulty g b x)))
      (λ x. ap (λ y. hear_from h fs q y i b) (e x))
