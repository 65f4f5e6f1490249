-- The table of what a node's children are worth.
-- Assumes nothing.
use Prim.Native.Nat.{ℕ, zero, suc, ◌+◌, ◌≤◌, ◌<◌}
use mathlib.Core.Path.{◌≡◌, refl, sym, ◌∙◌, ap}
use mathlib.Core.Logic.{◌≢◌}
use mathlib.Core.Bool.{true, false}
use mathlib.Core.Option.{Option, some, none}
use native.Mathlib.Omega.{arith}
use native.Mathlib.Numerals.{add-one}
use lib.Dec.{eqb}
use lib.ListN.{length, set, replicate, length-set}
use lib.Seq.{get_or-set_same, get_or-set_other}
use borrow.Author.Tests.{eqb-true, eqb-false, ne_eqb}
use Rattle.codec.specs.Codec.{current, blank}
use Rattle.sets.specs.Sets.{member}
use Rattle.sets.specs.Only.{same}
use Rattle.sets.proofs.Tests.{cases}
use Rattle.voting.specs.Worth.{worth, child_table}
use Rattle.voting.specs.Tables.{at}

module _ (f : ℕ → Option ℕ) (s : ℕ) where
  -- No board yet: the mark everywhere.
  pub table-zero : child_table f s 0 ≡ replicate 8 (blank current)
  unfolding child_table
  table-zero = refl

  table-in : (k : ℕ) → member k s ≡ false → child_table f s (suc k) ≡ set (child_table f s k) k (worth (f k))
  unfolding child_table
  table-in k e = rw e

  table-out : (k : ℕ) → member k s ≡ true → child_table f s (suc k) ≡ child_table f s k
  unfolding child_table
  table-out k e = rw e

  -- The next board is a child of the node, or one of the node's own.
  pub table_more : (k : ℕ) → member k s ≡ false → child_table f s (k + 1) ≡ set (child_table f s k) k (worth (f k))
  table_more k e = ap (child_table f s) (add-one k) ∙ table-in k e

  pub table-skip : (k : ℕ) → member k s ≡ true → child_table f s (k + 1) ≡ child_table f s k
  table-skip k e = ap (child_table f s) (add-one k) ∙ table-out k e

  pub table-length : (k : ℕ) → length (child_table f s k) ≡ 8
  table-length zero = ap length table-zero
  table-length (suc k) =
      cases (member k s)
      (λ e. ap length (table-out k e) ∙ table-length k)
      (λ e. ap length (table-in k e) ∙ length-set (child_table f s k) k (worth (f k)) ∙ table-length k)

  -- What child c is worth.
  pub table_at : (n c : ℕ) → n ≤ 8 → c < n → member c s ≡ false → at (child_table f s n) c ≡ worth (f c)
  table_at zero c b l e = absurd (omega arith)
  table_at (suc k) c b l e =
      cases (eqb c k)
      (λ q. let z : c ≡ k = eqb-true c k q in
      rw z (ap (λ t. at t k) (table-in k (rw z at e)) ∙ get_or-set_same (child_table f s k) k (worth (f k)) 0 (omega (arith, table-length k))))
      (λ q. let ne : c ≢ k = eqb-false c k q in
      let ih = table_at k c (omega arith) (omega arith) e in
      cases (member k s)
      (λ m. ap (λ t. at t c) (table-out k m) ∙ ih)
      (λ m. ap (λ t. at t c) (table-in k m) ∙ get_or-set_other (child_table f s k) k c (worth (f k)) 0 ne ∙ ih))

-- The table looks only at children.
pub table_same : (f g : ℕ → Option ℕ) (s n : ℕ) → ((c : ℕ) → c < n → member c s ≡ false → f c ≡ g c) → child_table f s n ≡ child_table g s n
table_same f g s zero h = table-zero f s ∙ sym (table-zero g s)
table_same f g s (suc k) h =
    let ih = table_same f g s k (λ c l e. h c (omega arith) e) in
    cases (member k s)
    (λ e. table-out f s k e ∙ ih ∙ sym (table-out g s k e))
    (λ e. table-in f s k e ∙ ap (λ t. set t k (worth (f k))) ih ∙ ap (λ o. set (child_table g s k) k (worth o)) (h k (omega arith) e)
    ∙ sym (table-in g s k e))

-- A child worth v has v in the table, for v other than the mark.
pub same-worth : (o : Option ℕ) (v : ℕ) → v ≢ blank current → same o (some v) ≡ eqb (worth o) v
unfolding same worth
same-worth none v ne = sym (ne_eqb (blank current) v (λ e. ne (sym e)))
same-worth (some w) v ne = refl
