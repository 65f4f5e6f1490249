-- The laws of the table of holders. Whoever speaks of it goes by these.
-- Assumes nothing.
use Prim.Native.Nat.{ℕ, zero, suc, ◌≤◌, ◌<◌}
use mathlib.Core.Path.{◌≡◌, refl, sym, ap, ◌∙◌}
use mathlib.Core.List.{List, [], ◌∷◌}
use native.Mathlib.Omega.{arith}
use lib.Dec.{eqb, ltb}
use lib.ListN.{length, get_or}
use lib.Seq.{ext_get_or}
use borrow.Author.Tests.{eqb-true, eqb-false, ne_eqb, ltb-true, ltb-false}
use Rattle.sets.specs.Search.{first}
use Rattle.sets.specs.Structure.{holder, held_at, is_some, tolerated}
use Rattle.sets.specs.Tabulate.{tabulate}
use Rattle.tolerance.specs.Bytes.{byte_place}
use Rattle.holders.specs.Holders.{holder_table, holder_in, holds}
use Rattle.sets.proofs.Tabulated.{tabulate-length, tabulate-at}
use Rattle.sets.proofs.Tests.{cases}
use Rattle.sets.proofs.Tolerated.{holds as holds_at, holder-empty, holder-at, holder-none, held-some, held_none, held-empty}

-- A list with these values is the table.
pub tabulate-by : (f : ℕ → ℕ) (k : ℕ) (l : List ℕ) → length l ≡ k → ((j : ℕ) → j < k → get_or l j 0 ≡ f j) → l ≡ tabulate f 0 k
tabulate-by f k l e h =
    ext_get_or 0 l (tabulate f 0 k) (e ∙ sym (tabulate-length f 0 k))
    (λ j lj. let b : j < k = omega arith in h j b ∙ sym (tabulate-at f k j 0 b))

module _ (sets : List ℕ) where
  pub table-length : length (holder_table sets) ≡ 128
  unfolding holder_table
  table-length = tabulate-length (held_at sets) 0 128

  pub table_at : (a : ℕ) → a < 128 → get_or (holder_table sets) a 255 ≡ held_at sets a
  unfolding holder_table
  table_at a l = tabulate-at (held_at sets) 128 a 255 l

  -- No place of a list of at most 255 sets is FF.
  byte-held : (a : ℕ) → length sets ≤ 255 → byte_place (held_at sets a) ≡ holder sets a
  unfolding byte_place
  byte-held a short =
      let f = first (holds_at sets a) (length sets) 0 in
      cases (eqb a 0)
      (λ e. rw (eqb-true a 0 e, held-empty sets, holder-empty sets) refl)
      (λ e. cases (ltb f (length sets))
      (λ b. let l : f < length sets = ltb-true f (length sets) b in
      let h = holder-at sets a f (eqb-false a 0 e) refl l in
      rw (held-some sets a f h, h, ne_eqb f 255 (omega arith)) refl)
      (λ b. let h = holder-none sets a f (eqb-false a 0 e) refl (ltb-false f (length sets) b) in rw (held_none sets a h, h) refl))

  -- What the table answers.
  module _ (holders : List ℕ) (a : ℕ) (table : holders ≡ holder_table sets) (short : length sets ≤ 255) (small : a < 128) where
    pub table-holder : holder_in holders a ≡ holder sets a
    unfolding holder_in
    table-holder = ap (λ l. byte_place (get_or l a 255)) table ∙ ap byte_place (table_at a small) ∙ byte-held a short

    pub table-tolerated : holds holders a ≡ tolerated sets a
    unfolding holds tolerated
    table-tolerated = ap is_some table-holder
