-- What is claimed of the synchronous session, for every adversary: demand 3 where all boards go in step.
use Rattle.std.specs.Prelude.{ℕ, ◌+◌, ◌-◌, ◌*◌, ◌≤◌, ◌≡◌, ◌≢◌, true, false, List, get_or}
use Rattle.sets.specs.Search.{count}
use Rattle.sets.specs.Sets.{member, within}
use Rattle.heights.specs.Levels.{depth_of, is_cut}
use Rattle.schedule.specs.Schedule.{rounds, runs, steps, step}
use Rattle.protocol.specs.declared.records.Slot.{Slot}
use Rattle.protocol.specs.Listing.{as_set}
use Rattle.protocol.specs.Rounds.{Board}
use Rattle.protocol.specs.Session.{Adversary, Setting, at, keeper, Sound}
use Rattle.agreement.specs.Lists.{on_every}

-- Board i as its closing of round R in run t left it.
unfoldable pub ended : Setting → Adversary → ℕ → ℕ → Board
ended s a t i = at s a (step s.plan (record { 0 = t }) (rounds s.plan)) i

-- 01: "a board's root after run t is its first cell" then.
unfoldable pub root_after : Setting → Adversary → ℕ → ℕ → ℕ
root_after s a t i = get_or (ended s a t i).cells 0 0

-- Board i's list then.
unfoldable pub list_ended : Setting → Adversary → ℕ → ℕ → List Slot
list_ended s a t i = (ended s a t i).rec.list

pub record SessionAgreement (s : Setting) (a : Adversary) : Type 0 where
  -- every list of a board outside F lies within F, after every step
  pub sound : (j i : ℕ) → j ≤ steps s.plan → keeper s i ≡ true → within (as_set (at s a j i).rec.list) s.faulty ≡ true
  -- after the last step all boards outside F that keep cells have decided
  pub decided : (i : ℕ) → keeper s i ≡ true → (at s a (steps s.plan) i).rec.decided ≡ true
  -- one value
  pub equal : (i k : ℕ) → keeper s i ≡ true → keeper s k ≡ true
      → (at s a (steps s.plan) i).rec.decision ≡ (at s a (steps s.plan) k).rec.decision
  -- the dealer's, if the dealer is outside F
  pub dealers : member s.plan.dealer s.faulty ≡ false → (i : ℕ) → keeper s i ≡ true → (at s a (steps s.plan) i).rec.decision ≡ s.word
  -- once all hold one root after a run, they hold it after every later run
  pub stays : (t u v : ℕ) → 1 ≤ t → t ≤ u → u ≤ (runs s.plan).0 → ((i : ℕ) → keeper s i ≡ true → root_after s a t i ≡ v)
      → (i : ℕ) → keeper s i ≡ true → root_after s a u i ≡ v
  -- if roots after run t of a cut tree are unequal, at least t × (b − 3) + 1 boards stand on all these lists
  pub bound : is_cut s.plan ≡ true → (t : ℕ) → 1 ≤ t → t ≤ (runs s.plan).0 → (i k : ℕ) → keeper s i ≡ true → keeper s k ≡ true
      → root_after s a t i ≢ root_after s a t k → t * (depth_of s.plan - 3) + 1 ≤ count (on_every s (list_ended s a t)) s.plan.n

-- Agreement of the synchronous session.
abbrev pub Synchronous : Type 0
Synchronous = (s : Setting) (a : Adversary) → Sound s → SessionAgreement s a
