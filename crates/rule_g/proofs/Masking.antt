-- Masking a board's cells at the children of a list of labels is storing a frame of it that has no values.
-- Assumes nothing.
use Prim.Native.Nat.{ℕ, zero, suc, ◌+◌, ◌-◌, ◌≤◌, ◌<◌}
use mathlib.Core.Path.{◌≡◌, refl, sym, ap, ◌∙◌}
use mathlib.Core.Logic.{◌≢◌}
use mathlib.Core.Bool.{true, false, not, cond}
use mathlib.Core.List.{List, [], ◌∷◌, ◌++◌}
use native.Mathlib.Omega.{arith}
use lib.Dec.{eqb}
use lib.ListN.{length}
use borrow.Author.Tests.{eqb-true, eqb-false, eq-eqb, ne_eqb}
use Rattle.sets.proofs.Tests.{cases}
use Rattle.plan.specs.declared.plan.Plan.{Plan}
use Rattle.tree.specs.Labels.{Label, occurs, last, children_from, children, children_of}
use Rattle.tree.specs.Cells.{store}
use Rattle.plan.specs.Values.{default}
use Rattle.schedule.specs.declared.rounds.Run.{Run}
use Rattle.schedule.specs.declared.rounds.Round.{Round}
use Rattle.protocol.specs.Nodes.{filter, nodes, inner, carried, sent}
use Rattle.protocol.specs.declared.records.Rule.TheVariants as Rule
use Rattle.protocol.specs.Listing.{join}
use Rattle.protocol.specs.Detection.{by_cell, passes, Scan, mask_board, detect_g}
use Rattle.protocol.specs.Rounds.{fill}
use Rattle.frames.specs.Nodes.{Standing}
use Rattle.frames.proofs.Listed.{sent-carried}

module _ (p : Plan) (q : ℕ) where
  mask_append : (γs δs : List Label) (cells : List ℕ) → mask_board p q (γs ++ δs) cells ≡ mask_board p q δs (mask_board p q γs cells)
  unfolding mask_board
  mask_append [] δs cells = refl
  mask_append (γ ∷ γs) δs cells = mask_append γs δs (cond (eqb (last γ) q) (store p.n cells γ (default p)) cells)

  mask-other : (γ : Label) (γs : List Label) (cells : List ℕ) → last γ ≢ q → mask_board p q (γ ∷ γs) cells ≡ mask_board p q γs cells
  unfolding mask_board
  mask-other γ γs cells ne = rw (ne_eqb (last γ) q ne)

  mask-here : (γ : Label) (γs : List Label) (cells : List ℕ) → last γ ≡ q
      → mask_board p q (γ ∷ γs) cells ≡ mask_board p q γs (store p.n cells γ (default p))
  unfolding mask_board
  mask-here γ γs cells e = rw (eq-eqb (last γ) q e)

  -- Of the children of α only the one by q ends in q.
  module _ (α : Label) where
    mask-past : (i k : ℕ) (cells : List ℕ) → q < i → mask_board p q (children_from α i k) cells ≡ cells
    unfolding mask_board children_from last
    mask-past i zero cells l = refl
    mask-past i (suc k) cells l =
        let rest = mask-past (suc i) k cells (omega arith) in
        cases (occurs i α)
        (λ o. rw o rest)
        (λ o. rw o (mask-other (i ∷ α) (children_from α (suc i) k) cells (λ z. omega arith) ∙ rest))

    abbrev masked : List ℕ → List ℕ
    masked cells = cond (occurs q α) cells (store p.n cells (q ∷ α) (default p))

    mask-own : (k : ℕ) (cells : List ℕ) → mask_board p q (children_from α q (suc k)) cells ≡ masked cells
    unfolding children_from last
    mask-own k cells =
        cases (occurs q α)
        (λ o. rw o (mask-past (suc q) k cells (omega arith)))
        (λ o. rw o (mask-here (q ∷ α) (children_from α (suc q) k) cells refl ∙ mask-past (suc q) k _ (omega arith)))

    mask-from : (i k : ℕ) (cells : List ℕ) → i ≤ q → q < i + k → mask_board p q (children_from α i k) cells ≡ masked cells
    unfolding children_from last
    mask-from i zero cells l h = absurd (omega arith)
    mask-from i (suc k) cells l h =
        cases (eqb i q)
        (λ e. let z : i ≡ q = eqb-true i q e in rw z (mask-own k cells))
        (λ e. let ne : i ≢ q = eqb-false i q e in
        let rest = mask-from (suc i) k cells (omega arith) (omega arith) in
        cases (occurs i α) (λ o. rw o rest) (λ o. rw o (mask-other (i ∷ α) (children_from α (suc i) k) cells ne ∙ rest)))

  -- Only the parents without q have such a child.
  mask-fill : q < p.n → (αs : List Label) (cells : List ℕ)
      → mask_board p q (children_of p.n αs) cells ≡ fill p q (filter (λ α. not (occurs q α)) αs) [] cells
  unfolding mask_board children_of children filter fill
  mask-fill l [] cells = refl
  mask-fill l (α ∷ αs) cells =
      mask_append (children_from α 0 p.n) (children_of p.n αs) cells
      ∙ ap (mask_board p q (children_of p.n αs)) (mask-from α 0 p.n cells (omega arith) (omega arith))
      ∙ cases (occurs q α)
      (λ o. rw o (mask-fill l αs cells))
      (λ o. rw o (mask-fill l αs (store p.n cells (q ∷ α) (default p))))

-- The nodes of the next level are the children of the internal ones.
next-nodes : (p : Plan) (i k : ℕ) → 1 ≤ k → nodes p i (suc k) ≡ children_of p.n (inner p i k)
unfolding nodes inner
next-nodes p i zero h = absurd (omega arith)
next-nodes p i (suc k) h = refl

-- At a node of the level before the round's: the cells of the round's level.
pub mask-sent : {p : Plan} {holders : List ℕ} {i : ℕ} {k : Round} → Standing p holders i k → 2 ≤ k.0 → (q : ℕ) (α : Label) (cells : List ℕ)
    → q < p.n → length α ≡ k.0 - 1 → mask_board p q (nodes p i (suc (length α))) cells ≡ fill p q (sent p q i k) [] cells
unfolding carried
mask-sent {p = p} {i = i} {k = k} s later q α cells l e =
    ap (λ m. mask_board p q (nodes p i (suc m)) cells) e
    ∙ ap (λ γs. mask_board p q γs cells) (next-nodes p i (k.0 - 1) (omega arith))
    ∙ mask-fill p q l (inner p i (k.0 - 1)) cells
    ∙ ap (λ αs. fill p q αs [] cells) (sym (sent-carried s later q))

-- Rule G at a node.
module _ (p : Plan) (i : ℕ) (run : Run) (round : Round) (α : Label) (s : Scan) where
  pub detect-kept : passes p α (by_cell p s.cells α) s.list ≡ true → detect_g p i run round α s ≡ s
  unfolding detect_g
  detect-kept e = rw e refl

  pub detect-joined : passes p α (by_cell p s.cells α) s.list ≡ false
      → detect_g p i run round α s ≡ record { list = join (last α) run round (Rule.G (length α)) s.list; cells = mask_board p (last α) (nodes p i (suc (length α))) s.cells }
  unfolding detect_g
  detect-joined e = rw e refl
