-- Joining by writing a slot, and where there is none.
-- Assumes nothing.
use Prim.Native.Nat.{ℕ, ◌≤◌, ◌<◌}
use mathlib.Core.Path.{◌≡◌, sym, ap, ◌∙◌, subst}
use mathlib.Core.Bool.{cond}
use mathlib.Core.List.{List}
use native.Mathlib.Omega.{arith}
use lib.Dec.{eqb}
use lib.ListN.{length, get_or, set, length-set}
use lib.Seq.{ext_get_or, get_or-set_same, get_or-set_other}
use borrow.Author.Tests.{eqb-true, eqb-false, ne_eqb}
use Rattle.sets.proofs.Tests.{cases}
use Rattle.sets.proofs.Tabulated.{tabulate-at, tabulate-length}
use Rattle.schedule.specs.declared.rounds.Run.{Run}
use Rattle.schedule.specs.declared.rounds.Round.{Round}
use Rattle.protocol.specs.declared.records.Rule.{Rule}
use Rattle.protocol.specs.declared.records.Entry.TheVariants as Entry
use Rattle.protocol.specs.declared.records.Slot.{Slot}
use Rattle.protocol.specs.Listing.{unlisted, join}

module _ (board : ℕ) (run : Run) (round : Round) (rule : Rule) (list : List Slot) (seven : length list ≡ 7) where
  abbrev joined : Slot
  joined = record { entry = Entry.Listed run round rule }

  slot_of : board < 7 → (i : ℕ) → get_or (set list board joined) i unlisted ≡ cond (eqb i board) joined (get_or list i unlisted)
  slot_of below i =
      cases (eqb i board)
      (λ e. rw e (subst (λ x. get_or (set list board joined) x unlisted ≡ joined) (sym (eqb-true i board e)) (get_or-set_same list board joined unlisted (omega arith))))
      (λ e. rw e (get_or-set_other list board i joined unlisted (eqb-false i board e)))

  pub written-join : board < 7 → set list board joined ≡ join board run round rule list
  unfolding join
  written-join below =
      ext_get_or unlisted (set list board joined) (join board run round rule list)
      (length-set list board joined ∙ seven ∙ sym (tabulate-length _ 0 7))
      (λ i l. slot_of below i ∙ sym (tabulate-at _ 7 i unlisted (omega (arith, length-set list board joined))))

  pub unwritten-join : 7 ≤ board → list ≡ join board run round rule list
  unfolding join
  unwritten-join above =
      ext_get_or unlisted list (join board run round rule list)
      (seven ∙ sym (tabulate-length _ 0 7))
      (λ i l. sym (tabulate-at _ 7 i unlisted (omega arith) ∙ ap (λ b. cond b joined (get_or list i unlisted)) (ne_eqb i board (omega arith))))
