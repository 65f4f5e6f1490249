-- `held_at` meets its contract: the place is one of at most 32, so it fits a byte.
use mathlib.Core.Path.{◌≡◌, ap, ◌∙◌}
use native.Mathlib.Omega.{arith}
use lib.ListN.{length, take}
use borrow.Author.Rules.{rules}
use Rattle.sets.specs.Structure.{holder, held_at}
use Rattle.tolerance.specs.Places.{place_says, found_at}
use Rattle.tolerance.specs.Bytes.{place_byte}
use Rattle.tolerance.proofs.Places.{found-byte}
use Rattle.plan.specs.Listed.{listed}
use Rattle.tables.proofs.Slots.{slots-listed, listed-few}
use Rattle.tables.proofs.listed.held_at.Goals as goal
use Rattle.tables.proofs.listed.held_at.Goals.{After-holder}

-- The place among the listed sets, as a byte.
at_place : (c : After-holder)
    → let a = c.args in place_byte (place_says c.holder.result) ≡ held_at (listed a.plan) a.a
at_place c =
    let a = c.args in
    let p = a.plan in
    let h : length p.sets ≡ 32 = search rules in
    ap place_byte c.holder.ensures
    ∙ ap (λ l. place_byte (found_at (holder l a.a))) (ap (λ m. take m p.sets) c.slots_used.ensures ∙ slots-listed p h)
    ∙ found-byte (listed p) a.a (omega (arith, listed-few p h))

pub slice_bounds-holder-end : goal.slice_bounds-holder-end
slice_bounds-holder-end c =
    let h : length c.args.plan.sets ≡ 32 = search rules in
    omega arith

pub returns : goal.returns
returns c = c.place_byte.ensures ∙ at_place (goal.at.returns c).After-holder
