-- What `position` finds is the place of the first listed set that holds a set.
-- Assumes nothing.
use Rattle.std.proofs.Common.{ℕ, ◌≡◌, ◌≢◌, refl, sym, ap, ◌∙◌, Bool, true, false, cond, ltb, List, length, get_or, Option, Some, None}
use borrow.Author.Tests.{ne_eqb, eq-eqb}
use Rattle.std.proofs.Math.Option as M
use Rattle.std.specs.List.{position_or_len}
use Rattle.sets.specs.Search.{first}
use Rattle.sets.specs.Sets.{within}
use Rattle.sets.specs.Structure.{holder}
use Rattle.sets.proofs.Bridges.{place-first}
use Rattle.tolerance.specs.Places.{place_says, found_at}

either : (b : Bool) (i : ℕ) → place_says (cond b (Some i) None) ≡ found_at (cond b (M.some i) M.none)
unfolding place_says found_at
either true i = refl
either false i = refl

pub empty-placed : (sets : List ℕ) (a : ℕ) → a ≡ 0 → place_says (Some 0) ≡ found_at (holder sets a)
unfolding place_says found_at holder
empty-placed sets a e = rw (eq-eqb a 0 e) refl

pub placed : (sets : List ℕ) (a : ℕ) (o : Option ℕ) → a ≢ 0
    → o ≡ cond (ltb (position_or_len (λ s. within a s) sets) (length sets)) (Some (position_or_len (λ s. within a s) sets)) None
    → place_says o ≡ found_at (holder sets a)
unfolding holder
placed sets a o ne e =
    let i = first (λ i. within a (get_or sets i 0)) (length sets) 0 in
    let p = place-first (λ s. within a s) 0 sets in
    ap place_says (e ∙ ap (λ k. cond (ltb k (length sets)) (Some k) None) p)
    ∙ either (ltb i (length sets)) i
    ∙ sym (ap found_at (ap (λ b. cond b (M.some 0) (cond (ltb i (length sets)) (M.some i) M.none)) (ne_eqb a 0 ne)))
