-- What stands in a list of nodes. Whoever reads it goes by these.
-- Assumes nothing.
use Prim.Native.Nat.{ℕ, ◌≤◌, ◌<◌}
use mathlib.Core.Path.{◌≡◌, sym, ◌∙◌, ap, subst}
use mathlib.Core.List.{List, [], map, Memᴰ}
use native.Mathlib.Omega.{arith}
use lib.ListN.{length, get_or, drop, length-append, length-map, length-drop, get_or-append, get_or-map}
use Rattle.plan.specs.declared.plan.Plan.{Plan}
use Rattle.tree.specs.Labels.{Label, mask, last}
use Rattle.tree.specs.Places.{rank}
use Rattle.tree.proofs.Entries.{get_d-mem}
use Rattle.protocol.specs.Nodes.{inner, carried}
use Rattle.internal.specs.Numbers.{code}
use Rattle.walk.specs.Listing.{Lists}
use Rattle.internal.proofs.Codes.{Coded}
use Rattle.walk.proofs.Carried.{inner-coded, carried-coded}

code_at : (n : ℕ) (αs : List Label) (j : ℕ) → get_or (map (code n) αs) j 0 ≡ code n (get_or αs j [])
unfolding code rank last mask
code_at n αs j = get_or-map (code n) αs j []

module _ {p : Plan} {r : ℕ} {αs : List Label} {before after : List ℕ} (l : Lists p r αs before after) where
  pub lists_length : length αs ≤ length before → length after ≡ length before
  lists_length room =
      omega (
        arith,
        l.counted,
        ap length l.content,
        length-append (map (code p.n) αs) (drop r before),
        length-map αs (code p.n),
        length-drop r before,
      )

  lists_at : (j : ℕ) → j < r → get_or after j 0 ≡ code p.n (get_or αs j [])
  lists_at j h =
      ap (λ l. get_or l j 0) l.content
      ∙ get_or-append (map (code p.n) αs) (drop r before) 0 j (omega (arith, l.counted, length-map αs (code p.n)))
      ∙ code_at p.n αs j

  -- Number j of the list is that of label number j.
  pub lists-coded : (j : ℕ) → j < r → ((α : Label) → Memᴰ α αs → Coded p.n α (code p.n α)) → Coded p.n (get_or αs j []) (get_or after j 0)
  lists-coded j h f =
      subst (Coded p.n (get_or αs j [])) (sym (lists_at j h)) (f (get_or αs j []) (get_d-mem αs j [] (omega (arith, l.counted))))

module _ (p : Plan) (i k : ℕ) (ld : p.dealer < p.n) (most : p.n ≤ 7) {r : ℕ} {before after : List ℕ} where
  pub inner-at : Lists p r (inner p i k) before after → (j : ℕ) → j < r → Coded p.n (get_or (inner p i k) j []) (get_or after j 0)
  inner-at l j h = lists-coded l j h (λ α m. inner-coded p i ld k α most m)

  pub carried-at : (q : ℕ) → Lists p r (carried p q i k) before after → (j : ℕ) → j < r → Coded p.n (get_or (carried p q i k) j []) (get_or after j 0)
  carried-at q l j h = lists-coded l j h (λ α m. carried-coded p i ld q k α most m)
