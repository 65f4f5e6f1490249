-- What each joining keeps, both rules keep, and so does a closing. A board joins only if it is not listed.
-- Assumes nothing.
use Prim.Native.Nat.{ℕ, zero, suc, ◌-◌}
use mathlib.Core.Path.{◌≡◌, refl}
use mathlib.Core.Bool.{false}
use mathlib.Core.List.{List, [], ◌∷◌, Memᴰ}
use mathlib.Core.Option.{Option}
use lib.Dec.{ltb}
use lib.ListN.{length}
use Rattle.sets.specs.Sets.{member}
use Rattle.sets.proofs.Tests.{cases, or_l}
use Rattle.plan.specs.declared.plan.Plan.{Plan}
use Rattle.schedule.specs.declared.rounds.Run.{Run}
use Rattle.schedule.specs.declared.rounds.Round.{Round}
use Rattle.schedule.specs.Schedule.{rounds}
use Rattle.tree.specs.Labels.{Label, last}
use Rattle.protocol.specs.declared.records.Rule.{Rule}
use Rattle.protocol.specs.declared.records.Slot.{Slot}
use Rattle.protocol.specs.Listing.{join, as_set}
use Rattle.protocol.specs.Nodes.{inner}
use Rattle.protocol.specs.Detection.{by_cell, by_resolving, explained, passes, Scan, detect_g, detect_all_g, detect_c, detect_all_c, detect_levels}
use Rattle.protocol.specs.Records.{run_ended}
use Rattle.protocol.specs.Rounds.{Board, gather, next_round, convert, close}
use Rattle.protocol.proofs.Rules.{detect_g-joined, detect_g-kept, detect_c-joined, detect_c-kept}

-- 01: "If r is not in L".
pub joins-unlisted : (p : Plan) (α : Label) (f : ℕ → Option ℕ) (s : List Slot) → passes p α f s ≡ false → member (last α) (as_set s) ≡ false
unfolding passes
joins-unlisted p α f s e = or_l (member (last α) (as_set s)) (explained p α f s) e

module _ (p : Plan) (i : ℕ) (run : Run) (round : Round) (P : List Slot → Type 0) where
  -- Joining at a node of the list by the rule keeps P.
  abbrev pub Keeps : (ℕ → Rule) → List Label → Type 0
  Keeps rule αs = (α : Label) (s : List Slot) → Memᴰ α αs → member (last α) (as_set s) ≡ false → P s → P (join (last α) run round (rule (length α)) s)

  pub detect_g-keeps : (αs : List Label) (s : Scan) → Keeps Rule.G αs → P s.list → P (detect_all_g p i run round αs s).list
  unfolding detect_all_g
  detect_g-keeps [] s h b = b
  detect_g-keeps (α ∷ αs) s h b =
      detect_g-keeps αs (detect_g p i run round α s) (λ β t m. h β t (Memᴰ.tail m))
      (cases (passes p α (by_cell p s.cells α) s.list) (λ e. rw (detect_g-kept p i run round α s e) b)
      (λ e. rw (detect_g-joined p i run round α s e) (h α s.list (Memᴰ.head refl) (joins-unlisted p α (by_cell p s.cells α) s.list e) b)))

  pub detect_c-keeps : (cells : List ℕ) (αs : List Label) (s : List Slot) → Keeps Rule.C αs → P s → P (detect_all_c p i run round cells αs s)
  unfolding detect_all_c
  detect_c-keeps cells [] s h b = b
  detect_c-keeps cells (α ∷ αs) s h b =
      detect_c-keeps cells αs (detect_c p i run round cells α s) (λ β t m. h β t (Memᴰ.tail m))
      (cases (passes p α (by_resolving p i cells α) s) (λ e. rw (detect_c-kept p i run round α cells s e) b)
      (λ e. rw (detect_c-joined p i run round α cells s e) (h α s (Memᴰ.head refl) (joins-unlisted p α (by_resolving p i cells α) s e) b)))

  pub levels-keeps : (cells : List ℕ) (k : ℕ) (s : List Slot) → ((level : ℕ) → Keeps Rule.C (inner p i level)) → P s → P (detect_levels p i run round cells k s)
  unfolding detect_levels
  levels-keeps cells zero s h b = b
  levels-keeps cells (suc k) s h b =
      levels-keeps cells k (detect_all_c p i run round cells (inner p i (suc k)) s) h (detect_c-keeps cells (inner p i (suc k)) s (h (suc k)) b)

-- Of a board that closes its round: rule G at the internal nodes of the level before, and in round R rule C at those of every level.
module _ (b : Board) (P : List Slot → Type 0) where
  abbrev pub KeepsG : Type 0
  KeepsG = let r = b.rec in Keeps r.plan r.board r.run r.round P Rule.G (inner r.plan r.board (r.round.0 - 1))

  abbrev pub KeepsC : Type 0
  KeepsC = let r = b.rec in (level : ℕ) → Keeps r.plan r.board r.run r.round P Rule.C (inner r.plan r.board level)

  pub gather-keeps : KeepsG → P b.rec.list → P (gather b).list
  unfolding gather
  gather-keeps g h =
      let r = b.rec in
      detect_g-keeps r.plan r.board r.run r.round P (inner r.plan r.board (r.round.0 - 1)) _ g h

  pub close-keeps : KeepsG → (ltb b.rec.round.0 (rounds b.rec.plan).0 ≡ false → KeepsC) → P b.rec.list → P (close b).rec.list
  unfolding close next_round convert run_ended
  close-keeps g c h =
      let r = b.rec in
      cases (ltb r.round.0 (rounds r.plan).0)
      (λ e. rw e (gather-keeps g h))
      (λ e. rw e (levels-keeps r.plan r.board r.run r.round P (gather b).cells ((rounds r.plan).0 - 1) (gather b).list (c e) (gather-keeps g h)))
