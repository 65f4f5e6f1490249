-- What a node resolves to: a leaf, an internal node from its children's table, and the root.
-- Assumes nothing.
use Prim.Native.Nat.{ℕ, zero, suc, ◌-◌, ◌≤◌, ◌<◌}
use mathlib.Core.Path.{◌≡◌, refl, sym, ap, ◌∙◌}
use mathlib.Core.Logic.{◌≢◌}
use mathlib.Core.Bool.{true, false, cond}
use mathlib.Core.List.{List, [], ◌∷◌}
use mathlib.Core.Option
use mathlib.Core.Option.{Option, some, none}
use native.Mathlib.Omega.{arith}
use lib.ListN.{get_or}
use Rattle.codec.specs.Codec.{current, blank}
use Rattle.sets.specs.Sets.{member}
use Rattle.plan.specs.declared.plan.Plan.{Plan}
use Rattle.plan.specs.Values.{default}
use Rattle.schedule.specs.Schedule.{rounds}
use Rattle.tree.specs.Labels.{Label, occurs, mask}
use Rattle.tree.proofs.Masks.{mask-member}
use Rattle.protocol.specs.Nodes.{read, internal}
use Rattle.sets.specs.Tabulate.{tabulate}
use Rattle.sets.proofs.Tabulated.{tabulate-at}
use Rattle.protocol.specs.Detection.{resolve, resolve_root}
use Rattle.protocol.proofs.Bounds.{Small, resolve-small}
use Rattle.voting.specs.Worth.{worth, child_table}
use Rattle.voting.specs.Tables.{voted}
use Rattle.voting.proofs.Table.{table_same}
use Rattle.voting.proofs.Laws.{vote-table}

module _ (p : Plan) (i : ℕ) (cells : List ℕ) (α : Label) where
  pub resolve-leaf : (left : ℕ) → internal p i α ≡ false → read p cells α ≡ worth (resolve p i cells left α)
  unfolding resolve worth
  resolve-leaf zero e = refl
  resolve-leaf (suc left) e = rw e refl

  pub resolve-inner : (left : ℕ) → p.n ≤ 8 → p.span ≤ blank current → internal p i α ≡ true
      → voted p (mask α) (child_table (λ c. resolve p i cells left (c ∷ α)) (mask α) p.n) ≡ worth (resolve p i cells (suc left) α)
  unfolding resolve
  resolve-inner left b m e =
      let child : ℕ → Option ℕ = λ c. cond (occurs c α) none (resolve p i cells left (c ∷ α)) in
      let found : ℕ → Option ℕ = λ c. get_or (tabulate child 0 p.n) c none in
      let same : (c : ℕ) → c < p.n → member c (mask α) ≡ false → resolve p i cells left (c ∷ α) ≡ found c =
      λ c l o. sym (tabulate-at child p.n c none l ∙ rw (sym (mask-member c α) ∙ o) refl) in
      ap (voted p (mask α)) (table_same (λ c. resolve p i cells left (c ∷ α)) found (mask α) p.n same)
      ∙ sym (vote-table p α found b m)
      ∙ rw e refl

-- The root: none is the default.
none-root : (p : Plan) (s : default p < p.span) (o : Option ℕ) (v : ℕ) → p.span ≤ blank current → Small p s o → v ≡ worth o → v ≡ blank current → default p ≡ Option.get_or o (default p)
unfolding worth
none-root p s none v m h e z = refl
none-root p s (some w) v m h e z = let k : v ≡ w = e in absurd (omega (arith, h w refl))

some-root : (p : Plan) (o : Option ℕ) (v : ℕ) → v ≡ worth o → v ≢ blank current → v ≡ Option.get_or o (default p)
unfolding worth
some-root p none v e ne = absurd (ne e)
some-root p (some w) v e ne = e

module _ (p : Plan) (i : ℕ) (cells : List ℕ) (v : ℕ) (e : v ≡ worth (resolve p i cells ((rounds p).0 - 1) (p.dealer ∷ []))) where
  pub root_none : p.span ≤ blank current → default p < p.span → v ≡ blank current → default p ≡ resolve_root p i cells
  unfolding resolve_root
  root_none m s z =
      none-root p s (resolve p i cells ((rounds p).0 - 1) (p.dealer ∷ [])) v m (resolve-small p s i cells ((rounds p).0 - 1) (p.dealer ∷ [])) e z

  pub root-some : v ≢ blank current → v ≡ resolve_root p i cells
  unfolding resolve_root
  root-some ne = some-root p (resolve p i cells ((rounds p).0 - 1) (p.dealer ∷ [])) v e ne
