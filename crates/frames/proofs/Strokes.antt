-- Storing and writing a frame, one value at a time.
-- Assumes nothing.
use Prim.Native.Nat.{ℕ, suc, ◌+◌, ◌*◌, ◌≤◌, ◌<◌}
use mathlib.Core.Path.{◌≡◌, refl, sym, ◌∙◌, ap}
use mathlib.Core.Logic.{◌≢◌}
use mathlib.Core.Bool.{true, false}
use mathlib.Core.List.{List, [], ◌∷◌, ◌++◌, map, map-append}
use native.Mathlib.Numerals.{add-one}
use native.Mathlib.Omega.{arith}
use lib.Dec.{eqb, ltb}
use lib.ListN.{length, get_or, take, drop, set, drop_of_length-le, length-map}
use lib.Seq.{drop-cons, take-suc, length-take-le}
use borrow.Author.Tests.{eq-eqb, ne_eqb, ltb-true, ltb-false, lt-ltb, le-ltb}
use Rattle.codec.specs.Codec.{current, value_size, encode, written}
use Rattle.codec.proofs.Codec.{written_next}
use Rattle.sets.specs.Sets.{member}
use Rattle.sets.proofs.Tests.{cases}
use Rattle.plan.specs.declared.plan.Plan.{Plan}
use Rattle.plan.specs.Values.{default, value}
use Rattle.tree.specs.Labels.{Label}
use Rattle.tree.specs.Places.{place}
use Rattle.tree.specs.Cells.{store}
use Rattle.tree.proofs.Places.{root-place}
use Rattle.protocol.specs.declared.records.Slot.{Slot}
use Rattle.protocol.specs.Listing.{as_set}
use Rattle.protocol.specs.Nodes.{read}
use Rattle.protocol.specs.Rounds.{fill, counted}
use Rattle.frames.specs.Nodes.{entry}

module _ (p : Plan) (vs : List ℕ) (u : ℕ) where
  pub entry-some : u < length vs → entry p vs u ≡ value p (get_or vs u 0)
  unfolding entry
  entry-some l = rw (lt-ltb u (length vs) l)

  pub entry-none : length vs ≤ u → entry p vs u ≡ default p
  unfolding entry
  entry-none l = rw (le-ltb u (length vs) l)

-- Value number u of a frame is stored, and then the rest.
pub fill_step : (p : Plan) (q : ℕ) (α : Label) (αs βs : List Label) (u at v : ℕ) (vs cells : List ℕ)
    → βs ≡ α ∷ αs → at ≡ place p.n (q ∷ α) → v ≡ entry p vs u
    → fill p q βs (drop u vs) cells ≡ fill p q αs (drop (u + 1) vs) (set cells at v)
unfolding fill entry store
fill_step p q α αs βs u at v vs cells x y z =
    rw (x, y, z)
    (cases (ltb u (length vs))
    (λ e. rw (e, drop-cons vs u 0 (ltb-true u (length vs) e), add-one u))
    (λ e. let h = ltb-false u (length vs) e in
    let h' : length vs ≤ u + 1 = omega arith in
    rw (e, drop_of_length-le vs h, drop_of_length-le vs h')))

-- The values of the first u labels are written; then one more.
abbrev pub sofar : Plan → List ℕ → List Label → ℕ → List ℕ → List ℕ
sofar p cells αs u out = encode current (map (read p cells) (take u αs)) ++ drop (value_size current * u) out

pub write_step : (p : Plan) (cells out : List ℕ) (αs : List Label) (u v : ℕ) → u < length αs → v ≡ read p cells (get_or αs u [])
    → written current u v (sofar p cells αs u out) ≡ sofar p cells αs (u + 1) out
write_step p cells out αs u v l e =
    let vs = map (read p cells) (take u αs) in
    let size : length vs ≡ u = length-map (take u αs) (read p cells) ∙ length-take-le u αs (omega arith) in
    let more : map (read p cells) (take (suc u) αs) ≡ vs ++ (v ∷ []) =
    ap (map (read p cells)) (take-suc αs u [] l) ∙ map-append (read p cells) (take u αs) (get_or αs u [] ∷ []) ∙ ap (λ x. vs ++ (x ∷ [])) (sym e) in
    written_next current vs out v u size
    ∙ ap (λ ws. encode current ws ++ drop (value_size current * suc u) out) (sym more)
    ∙ ap (λ k. sofar p cells αs k out) (let z : suc u ≡ u + 1 = omega arith in z)

-- What a frame counts as.
module _ (list : List Slot) (q : ℕ) (αs : List Label) (f : List ℕ) where
  pub counted-all : length f ≡ length αs → member q (as_set list) ≡ false → counted list q αs f ≡ f
  unfolding counted
  counted-all e m = rw (eq-eqb (length f) (length αs) e, m)

  pub counted-misfit : length f ≢ length αs → counted list q αs f ≡ []
  unfolding counted
  counted-misfit ne = rw (ne_eqb (length f) (length αs) ne)

  pub counted-listed : member q (as_set list) ≡ true → counted list q αs f ≡ []
  unfolding counted
  counted-listed m = cases (eqb (length f) (length αs)) (λ e. rw (e, m)) (λ e. rw e)

-- A frame of one value, for the empty label: it is stored at the root.
pub fill-word : (p : Plan) (q : ℕ) (vs cells : List ℕ) → fill p q ([] ∷ []) vs cells ≡ set cells 0 (entry p vs 0)
unfolding fill
fill-word p q vs cells = fill_step p q [] [] ([] ∷ []) 0 0 (entry p vs 0) vs cells refl (sym (root-place p.n q)) refl
