-- After any calls, fair or not: what every call keeps holds then. A board that was begun has a good record, and a place with no value yet, or no
-- node, holds the mark.
-- Assumes nothing.
use Prim.Native.Nat.{ℕ}
use mathlib.Core.Path.{◌≡◌, refl, ◌∙◌}
use mathlib.Core.List.{List, [], ◌∷◌, ◌++◌}
use lib.Dec.{eqb}
use Rattle.codec.specs.Codec.{decode}
use Rattle.sets.proofs.Tests.{cases}
use Rattle.protocol.specs.Rounds.{Board}
use Rattle.protocol.specs.Calls.{receiving}
use Rattle.protocol.specs.Session.{Setting, begun}
use Rattle.protocol.proofs.Taken.{taking-width, closing-width}
use Rattle.synchronous.proofs.Synchronous.{begun-width}
use Rattle.synchronous.proofs.Reached.{Reached, reached-taking, reached-closing}
use Rattle.agreement.specs.Lists.{Call, receives, sends, closes, decides, leaves, caller, World, after_one, after, state}

pub after-append : (w : World) (before rest : List Call) → after w (before ++ rest) ≡ after (after w before) rest
unfolding after
after-append w [] rest = refl
after-append w (c ∷ before) rest = after-append (after_one w c) before rest

module _ (P : Board → Type 0) (keeps : (c : Call) (b : Board) → P b → P (leaves c b)) where
  pub one-keeps : (w : World) (c : Call) (i : ℕ) → P (w i) → P (after_one w c i)
  unfolding after_one
  one-keeps w c i h = cases (eqb i (caller c)) (λ e. rw e (keeps c (w i) h)) (λ e. rw e h)

  pub after-keeps : (calls : List Call) (w : World) (i : ℕ) → P (w i) → P (after w calls i)
  unfolding after
  after-keeps [] w i h = h
  after-keeps (c ∷ calls) w i h = after-keeps calls (after_one w c) i (one-keeps w c i h)

pub reached-leaves : (c : Call) (b : Board) → Reached b → Reached (leaves c b)
unfolding leaves receiving
reached-leaves (receives j q f) b h = reached-taking b q (decode b.width f) h
reached-leaves (sends j out) b h = h
reached-leaves (closes j) b h = reached-closing b h
reached-leaves (decides j) b h = h

pub reached-after : (calls : List Call) (w : World) (i : ℕ) → Reached (w i) → Reached (after w calls i)
reached-after = after-keeps Reached reached-leaves

-- A board keeps its width.
pub leaves-width : (c : Call) (b : Board) → (leaves c b).width ≡ b.width
unfolding leaves receiving
leaves-width (receives j q f) b = taking-width b q (decode b.width f)
leaves-width (sends j out) b = refl
leaves-width (closes j) b = closing-width b
leaves-width (decides j) b = refl

pub state-width : (s : Setting) (calls : List Call) (i : ℕ) → (state s calls i).width ≡ s.width
unfolding state
state-width s calls i = after-keeps (λ b. b.width ≡ s.width) (λ c b h. leaves-width c b ∙ h) calls (begun s) i (begun-width s i)
