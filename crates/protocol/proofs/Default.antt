-- 02 b: where 01 puts 0, the default is put. The sentences as short laws: what is missing, who is masked, the root. (A value or cell of m
-- or more is `value`, of `plan`.)
-- Assumes nothing.
use Prim.Native.Nat.{ℕ, ◌-◌}
use mathlib.Core.Path.{◌≡◌, refl}
use mathlib.Core.List.{List, [], ◌∷◌}
use mathlib.Core.Option.{Option, some, none}
use borrow.Author.Tests.{eq-eqb}
use Rattle.plan.specs.declared.plan.Plan.{Plan}
use Rattle.plan.specs.Values.{default}
use Rattle.schedule.specs.Schedule.{rounds}
use Rattle.tree.specs.Labels.{Label, last}
use Rattle.tree.specs.Cells.{store}
use Rattle.protocol.specs.Rounds.{fill}
use Rattle.protocol.specs.Detection.{resolve, resolve_root, mask_board}

module _ (p : Plan) where
  -- At one node: a frame that has no values, since it is missing, a misfit, or from a listed board.
  pub missing-default : (q : ℕ) (α : Label) (cells : List ℕ) → fill p q (α ∷ []) [] cells ≡ store p.n cells (q ∷ α) (default p)
  unfolding fill
  missing-default q α cells = refl

  -- At one node that ends in a board that joins the list.
  pub masked-default : (γ : Label) (cells : List ℕ) → mask_board p (last γ) (γ ∷ []) cells ≡ store p.n cells γ (default p)
  unfolding mask_board
  masked-default γ cells = rw (eq-eqb (last γ) (last γ) refl)

  -- A root that is not resolved, and one that is.
  module _ (i : ℕ) (cells : List ℕ) where
    abbrev pub root_resolved : Option ℕ
    root_resolved = resolve p i cells ((rounds p).0 - 1) (p.dealer ∷ [])

    pub unresolved-default : root_resolved ≡ none → resolve_root p i cells ≡ default p
    unfolding resolve_root
    unresolved-default e = rw e

    pub resolved-root : (v : ℕ) → root_resolved ≡ some v → resolve_root p i cells ≡ v
    unfolding resolve_root
    resolved-root v e = rw e
