-- Values are below the span, and lists stay good.
-- Assumes nothing.
use Prim.Native.Nat.{ℕ, zero, suc, ◌-◌, ◌<◌}
use mathlib.Core.Path.{◌≡◌, refl, sym, subst}
use mathlib.Core.Bool.{Bool}
use mathlib.Core.List.{List, ◌∷◌, Memᴰ, []}
use mathlib.Core.Option.{Option, some, none}
use native.Mathlib.Omega.{arith}
use lib.Dec.{ltb}
use lib.ListN.{length}
use borrow.Author.Tests.{ltb-true}
use Rattle.sets.proofs.Tests.{cases}
use Rattle.sets.specs.Only.{only}
use Rattle.sets.proofs.Only.{only-some}
use Rattle.plan.specs.declared.plan.Plan.{Plan}
use Rattle.plan.specs.Values.{default, value}
use Rattle.schedule.specs.declared.rounds.Run.{Run}
use Rattle.schedule.specs.declared.rounds.Round.{Round}
use Rattle.schedule.specs.Schedule.{rounds}
use Rattle.schedule.proofs.Steps.{Has}
use Rattle.tree.specs.Labels.{Label, last, labels}
use Rattle.tree.specs.Cells.{cell_at}
use Rattle.tree.proofs.Labels.{no_label, root-inv, label-inv}
use Rattle.protocol.specs.Nodes.{read, internal, inner}
use Rattle.protocol.specs.declared.records.Rule.{Rule}
use Rattle.protocol.specs.declared.records.Slot.{Slot}
use Rattle.protocol.specs.Listing.{level_of}
use Rattle.protocol.specs.Detection.{vote, resolve, resolve_root, detect_levels}
use Rattle.protocol.specs.Rounds.{Board, gather}
use Rattle.protocol.proofs.Default.{root_resolved, unresolved-default, resolved-root}
use Rattle.protocol.proofs.Nodes.{internal-above, no_node, inner-inv, node-label, node-length}
use Rattle.protocol.proofs.Listing.{GoodEntry, GoodList, join-good}
use Rattle.protocol.proofs.Joining.{Keeps, levels-keeps, gather-keeps}

module _ (p : Plan) (default_below : default p < p.span) where
  pub value-small : (x : ℕ) → value p x < p.span
  unfolding value
  value-small x = cases (ltb x p.span) (λ e. rw e (ltb-true x p.span e)) (λ e. rw e default_below)

  pub read_small : (cells : List ℕ) (α : Label) → read p cells α < p.span
  unfolding read
  read_small cells α = value-small (cell_at p.n cells α)

  -- What is there is a value.
  abbrev pub Small : Option ℕ → Type 0
  Small o = (v : ℕ) → o ≡ some v → v < p.span

  some-small : (x : ℕ) → x < p.span → Small (some x)
  some-small x l v e = let z : x ≡ v = cc in omega arith

  pub only-small : (f : ℕ → Bool) → Small (only f p.span)
  only-small f v e = (only-some f p.span v e).0

  pub resolve-small : (i : ℕ) (cells : List ℕ) (left : ℕ) (α : Label) → Small (resolve p i cells left α)
  unfolding resolve vote
  resolve-small i cells zero α = some-small (read p cells α) (read_small cells α)
  resolve-small i cells (suc left) α =
      cases (internal p i α)
      (λ e. rw e (only-small _))
      (λ e. rw e (some-small (read p cells α) (read_small cells α)))

  pub root-small : (i : ℕ) (cells : List ℕ) → resolve_root p i cells < p.span
  root-small i cells = go (root_resolved p i cells) refl
    where
      go : (o : Option ℕ) → root_resolved p i cells ≡ o → resolve_root p i cells < p.span
      go none e = subst (λ v. v < p.span) (sym (unresolved-default p i cells e)) default_below
      go (some v) e = subst (λ v. v < p.span) (sym (resolved-root p i cells v e)) (resolve-small i cells ((rounds p).0 - 1) (p.dealer ∷ []) v e)

-- The last board of a label is below n.
pub last-below : (n d k : ℕ) (α : Label) → d < n → Memᴰ α (labels n d k) → last α < n
unfolding last
last-below n d zero α l m = absurd (no_label n d α m)
last-below n d (suc zero) α l m = rw (root-inv n d α m) l
last-below n d (suc (suc k)) α l m = let (β, w, (q, x, lq, a)) = label-inv n d k α m in rw x lq

-- The last board of an internal node is below n, and its level is 1 to R − 1.
module _ (p : Plan) (l : p.dealer < p.n) (i : ℕ) (k : ℕ) (α : Label) (m : Memᴰ α (inner p i k)) where
  pub inner_below : last α < p.n
  inner_below = last-below p.n p.dealer k α l (node-label p i k α (inner-inv p i k α m).0)

  pub inner-length : length α ≡ k
  inner-length = node-length p i k α (inner-inv p i k α m).0

  pub inner-high : length α < (rounds p).0
  inner-high = internal-above p i α (inner-inv p i k α m).1

pub inner-low : (p : Plan) (i k : ℕ) (α : Label) → Memᴰ α (inner p i k) → 0 < k
inner-low p i zero α m = absurd (no_node p i α (inner-inv p i zero α m).0)
inner-low p i (suc k) α m = omega arith

-- A list stays good: who joins at an internal node is below n, in a run and a round that the plan has, at a level from 1 to R − 1.
module _ (p : Plan) (l : p.dealer < p.n) (i : ℕ) (run : Run) (round : Round) (has : Has p run round) where
  joins-good : (rule : ℕ → Rule) → ((x : ℕ) → level_of (rule x) ≡ x) → (k : ℕ) → Keeps p i run round (GoodList p) rule (inner p i k)
  joins-good rule same k α s m _ g =
      let z = same (length α) in
      let good : GoodEntry p run round (rule (length α)) = record {
        position = has;
        level-low = omega (arith, z, inner-length p l i k α m, inner-low p i k α m);
        level-high = omega (arith, z, inner-high p l i k α m);
      } in
      join-good p (last α) run round (rule (length α)) s (inner_below p l i k α m) good g

  pub joins-good-G : (k : ℕ) → Keeps p i run round (GoodList p) Rule.G (inner p i k)
  unfolding level_of
  joins-good-G = joins-good Rule.G (λ x. refl)

  pub joins-good-C : (k : ℕ) → Keeps p i run round (GoodList p) Rule.C (inner p i k)
  unfolding level_of
  joins-good-C = joins-good Rule.C (λ x. refl)

  pub levels-good : (cells : List ℕ) (k : ℕ) (s : List Slot) → GoodList p s → GoodList p (detect_levels p i run round cells k s)
  levels-good cells k s g = levels-keeps p i run round (GoodList p) cells k s joins-good-C g

pub gather-good : (b : Board) → b.rec.plan.dealer < b.rec.plan.n → Has b.rec.plan b.rec.run b.rec.round
    → GoodList b.rec.plan b.rec.list → GoodList b.rec.plan (gather b).list
gather-good b l has g =
    let r = b.rec in
    gather-keeps b (GoodList r.plan) (joins-good-G r.plan l r.board r.run r.round has (r.round.0 - 1)) g
