-- The nodes below a node, and labels that part at some level.
-- Assumes nothing.
use Prim.Native.Nat.{ℕ, suc, ◌-◌, ◌≤◌, ◌<◌}
use mathlib.Core.Path.{◌≡◌, sym, ◌∙◌, ap}
use mathlib.Core.Logic.{◌≢◌}
use mathlib.Core.Bool.{true, false}
use mathlib.Core.List.{◌∷◌, Memᴰ}
use native.Mathlib.Omega.{arith}
use lib.ListN.{length, drop}
use Rattle.plan.specs.declared.plan.Plan.{Plan}
use Rattle.tree.specs.Labels.{Label, occurs, labels}
use Rattle.tree.proofs.NodePlaces.{child-mem}
use Rattle.protocol.specs.Nodes.{internal}

-- γ, with k levels below it, is reached from α, with `left` levels below it, by internal nodes.
pub data Under (p : Plan) (i : ℕ) : ℕ → Label → ℕ → Label → Type 0 where
  here : {left : ℕ} {α : Label} → Under p i left α left α
  down : {left k c : ℕ} {α γ : Label} → internal p i α ≡ true → c < p.n → occurs c α ≡ false → Under p i left (c ∷ α) k γ
      → Under p i (suc left) α k γ

pub under-trans : {p : Plan} {i a b c : ℕ} {α β γ : Label} → Under p i a α b β → Under p i b β c γ → Under p i a α c γ
under-trans here v = v
under-trans (down t l o u) v = down t l o (under-trans u v)

-- A label of the tree, whatever its level.
abbrev pub Labelled : Plan → Label → Type 0
Labelled p α = Memᴰ α (labels p.n p.dealer (length α))

pub child-labelled : (p : Plan) (c : ℕ) (α : Label) → Labelled p α → c < p.n → occurs c α ≡ false → Labelled p (c ∷ α)
child-labelled p c α m l o = child-mem p.n p.dealer (length α) c α m l o

pub under-labelled : {p : Plan} {i a b : ℕ} {α γ : Label} → Under p i a α b γ → Labelled p α → Labelled p γ
under-labelled here m = m
under-labelled {p} (down {c = c} {α = α} t l o u) m = under-labelled u (child-labelled p c α m l o)

pub under-length : {p : Plan} {i a b : ℕ} {α γ : Label} → Under p i a α b γ → length α ≤ length γ
under-length here = omega arith
under-length (down t l o u) = omega (arith, under-length u)

-- The ancestor at level k.
abbrev trunk : ℕ → Label → Label
trunk k α = drop (length α - k) α

trunk-child : (k q : ℕ) (α : Label) → k ≤ length α → trunk k (q ∷ α) ≡ trunk k α
trunk-child k q α l = let z : suc (length α) - k ≡ suc (length α - k) = omega arith in rw z

-- The labels have different ancestors at level k.
pub record Apart (k : ℕ) (α β : Label) : Type 0 where
  pub left-level : k ≤ length α
  pub right-level : k ≤ length β
  pub differ : trunk k α ≢ trunk k β

apart-left : {k : ℕ} {α β : Label} (q : ℕ) → Apart k α β → Apart k (q ∷ α) β
apart-left {k} {α} {β} q a = record {
  left-level = omega (arith, a.left-level);
  right-level = a.right-level;
  differ = λ e. a.differ (sym (trunk-child k q α a.left-level) ∙ e);
}

apart-right : {k : ℕ} {α β : Label} (q : ℕ) → Apart k α β → Apart k α (q ∷ β)
apart-right {k} {α} {β} q a = record {
  left-level = a.left-level;
  right-level = omega (arith, a.right-level);
  differ = λ e. a.differ (e ∙ trunk-child k q β a.right-level);
}

pub apart-under : {p : Plan} {i a b k : ℕ} {α β γ : Label} → Under p i a β b γ → Apart k α β → Apart k α γ
apart-under here x = x
apart-under (down {c = c} t l o u) x = apart-under u (apart-right c x)

pub under-apart : {p : Plan} {i a b k : ℕ} {α β γ : Label} → Under p i a α b γ → Apart k α β → Apart k γ β
under-apart here x = x
under-apart (down {c = c} t l o u) x = under-apart u (apart-left c x)

pub apart-ne : {k : ℕ} {α β : Label} → Apart k α β → β ≢ α
apart-ne {k} {α} {β} a e = a.differ (ap (trunk k) (sym e))

trunk-all : (α : Label) → trunk (length α) α ≡ α
trunk-all α = let z : length α - length α ≡ 0 = omega arith in rw z

first-same : (c e : ℕ) (α : Label) → c ∷ α ≡ e ∷ α → c ≡ e
first-same c e α x = cc

-- Two children of a node.
pub siblings : (c e : ℕ) (α : Label) → e ≢ c → Apart (suc (length α)) (c ∷ α) (e ∷ α)
siblings c e α ne = record {
  left-level = omega arith;
  right-level = omega arith;
  differ = λ x. ne (sym (first-same c e α (sym (trunk-all (c ∷ α)) ∙ x ∙ trunk-all (e ∷ α))));
}
