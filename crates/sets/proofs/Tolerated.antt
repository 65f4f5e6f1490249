-- The laws of tolerated sets. Whoever speaks of `tolerated` or `holder` goes by these.
-- Assumes nothing.
use Prim.Native.Nat.{ℕ, ◌≤◌, ◌<◌, ◌^◌}
use mathlib.Core.Path.{◌≡◌, refl, subst}
use mathlib.Core.Logic.{◌≢◌, ◌⊎◌, inl, inr, ⊎_elim, ◌↔◌}
use mathlib.Core.Bool.{Bool, true, false}
use mathlib.Core.List.{List}
use mathlib.Core.Option.{Option, some, none}
use native.Mathlib.Omega.{arith}
use lib.Dec.{eqb, ltb}
use lib.ListN.{length, get_or}
use borrow.Author.Tests.{eqb-true, eqb-false, ne_eqb, lt-ltb, le-ltb, ltb-true, ltb-false}
use Rattle.sets.specs.Search.{first}
use Rattle.sets.specs.Sets.{member, within}
use Rattle.sets.specs.Structure.{holder, held_at, is_some, tolerated}
use Rattle.sets.proofs.Tests.{cases, clash}
use Rattle.sets.proofs.Search.{first-true, first-false, first-least}
use Rattle.sets.proofs.Member.{within-member, member-within, no_member, member-empty, within-le, within-empty}

module _ (sets : List ℕ) where
  -- The search behind `holder`.
  abbrev pub holds : ℕ → ℕ → Bool
  holds a i = within a (get_or sets i 0)

  pub holder-empty : holder sets 0 ≡ some 0
  unfolding holder
  holder-empty = refl

  -- The search stopped at i: at a set that holds a, or past the last set.
  pub holder-at : (a i : ℕ) → a ≢ 0 → i ≡ first (holds a) (length sets) 0 → i < length sets → holder sets a ≡ some i
  unfolding holder
  holder-at a i ne e l = rw (ne_eqb a 0 ne, ← e, lt-ltb i (length sets) l)

  pub holder-none : (a i : ℕ) → a ≢ 0 → i ≡ first (holds a) (length sets) 0 → length sets ≤ i → holder sets a ≡ none
  unfolding holder
  holder-none a i ne e l = rw (ne_eqb a 0 ne, ← e, le-ltb i (length sets) l)

  -- The place as a byte.
  pub held-some : (a i : ℕ) → holder sets a ≡ some i → held_at sets a ≡ i
  unfolding held_at
  held-some a i e = rw e

  pub held_none : (a : ℕ) → holder sets a ≡ none → held_at sets a ≡ 255
  unfolding held_at
  held_none a e = rw e

  pub held-empty : held_at sets 0 ≡ 0
  held-empty = held-some 0 0 holder-empty

  pub held-byte : (a : ℕ) → length sets ≤ 255 → held_at sets a ≤ 255
  held-byte a short =
      let f = first (holds a) (length sets) 0 in
      cases (eqb a 0)
      (λ e. rw (eqb-true a 0 e, held-empty) (omega arith))
      (λ e. cases (ltb f (length sets))
      (λ b. omega (arith, held-some a f (holder-at a f (eqb-false a 0 e) refl (ltb-true f (length sets) b)), ltb-true f (length sets) b))
      (λ b. omega (arith, held_none a (holder-none a f (eqb-false a 0 e) refl (ltb-false f (length sets) b)))))

  -- A set is tolerated exactly if it has a place.
  pub tolerated-at : (a i : ℕ) → holder sets a ≡ some i → tolerated sets a ≡ true
  unfolding tolerated is_some
  tolerated-at a i e = rw e

  pub tolerated-nowhere : (a : ℕ) → holder sets a ≡ none → tolerated sets a ≡ false
  unfolding tolerated is_some
  tolerated-nowhere a e = rw e

  pub tolerated-empty : tolerated sets 0 ≡ true
  unfolding tolerated is_some
  tolerated-empty = rw holder-empty

  -- What lies within a listed set is tolerated.
  pub listed-tolerated : (a i : ℕ) → i < length sets → within a (get_or sets i 0) ≡ true → tolerated sets a ≡ true
  unfolding tolerated is_some
  listed-tolerated a i l w =
      cases (eqb a 0)
      (λ e. rw (eqb-true a 0 e) tolerated-empty)
      (λ e. rw (holder-at a (first (holds a) (length sets) 0) (eqb-false a 0 e) refl (let le = first-least (holds a) (length sets) 0 i (omega arith) w in omega arith)))

  -- A tolerated set is empty, or lies within a listed set.
  pub tolerated-listed : (a : ℕ) → tolerated sets a ≡ true → (a ≡ 0) ⊎ ((i : ℕ) × (i < length sets) × (within a (get_or sets i 0) ≡ true))
  unfolding tolerated is_some
  tolerated-listed a t =
      let f = first (holds a) (length sets) 0 in
      cases (eqb a 0)
      (λ e. inl (eqb-true a 0 e))
      (λ e. inr (cases (ltb f (length sets))
      (λ b. let l : f < length sets = ltb-true f (length sets) b in (f, l, first-true (holds a) (length sets) 0 (omega arith)))
      (λ b. clash (rw (holder-none a f (eqb-false a 0 e) refl (ltb-false f (length sets) b)) at t) refl)))

  pub tolerated-holder : (a : ℕ) → tolerated sets a ≡ true → (i : ℕ) × (holder sets a ≡ some i)
  unfolding tolerated is_some
  tolerated-holder a t = go (holder sets a) refl
    where
      go : (o : Option ℕ) → holder sets a ≡ o → (i : ℕ) × (holder sets a ≡ some i)
      go none e = clash (rw e at t) refl
      go (some i) e = (i, e)

  -- The place that `holder` gives is the first listed set that holds a, if there are listed sets at all.
  pub holder-first : (a i : ℕ) → 0 < length sets → holder sets a ≡ some i
      → (i < length sets) × (within a (get_or sets i 0) ≡ true) × ((j : ℕ) → j < i → within a (get_or sets j 0) ≡ false)
  holder-first a i some-set h =
      let f = first (holds a) (length sets) 0 in
      cases (eqb a 0)
      (λ e. let q : a ≡ 0 = eqb-true a 0 e in
      let z : i ≡ 0 = cc holder-empty in
      (omega arith, rw q (within-empty (get_or sets i 0)), λ j l. absurd (omega arith)))
      (λ e. cases (ltb f (length sets))
      (λ b. let l : f < length sets = ltb-true f (length sets) b in
      let z : f ≡ i = cc (holder-at a f (eqb-false a 0 e) refl l) in
      (omega arith, subst (λ x. holds a x ≡ true) z (first-true (holds a) (length sets) 0 (omega arith)), λ j lj. first-false (holds a) (length sets) 0 j (omega arith) (omega arith)))
      (λ b. let z : ◌≡◌ {A = ℕ} 0 1 = cc (holder-none a f (eqb-false a 0 e) refl (ltb-false f (length sets) b)) in absurd (omega arith)))

  -- Monotone: what lies within a tolerated set is tolerated.
  pub tolerated-mono : (k a b : ℕ) → a < 2 ^ k → ((i : ℕ) → i < k → member i a ≡ true → member i b ≡ true) → tolerated sets b ≡ true → tolerated sets a ≡ true
  tolerated-mono k a b la h t =
      ⊎_elim
      (λ z. let q : a ≡ 0 = no_member k a la (λ i l. cases (member i a) (λ m. clash (rw z at (h i l m)) (member-empty i)) (λ m. m)) in
      rw q tolerated-empty)
      (λ w. let (i, l, e) = w in
      listed-tolerated a i l (member-within k a (get_or sets i 0) la (λ q lq m. within-member b (get_or sets i 0) e q (h q lq m))))
      (tolerated-listed b t)

  pub tolerated-within : (k a b : ℕ) → b < 2 ^ k → within a b ≡ true → tolerated sets b ≡ true → tolerated sets a ≡ true
  tolerated-within k a b h w t = tolerated-mono k a b (omega (arith, within-le a b w)) (λ i _ m. within-member a b w i m) t

  -- Tolerated exactly if it is empty or some listed set has all its members.
  pub tolerated-iff : (k a : ℕ) → a < 2 ^ k
      → (tolerated sets a ≡ true) ↔ ((a ≡ 0) ⊎ ((i : ℕ) × (i < length sets) × ((q : ℕ) → q < k → member q a ≡ true → member q (get_or sets i 0) ≡ true)))
  tolerated-iff k a la = (
    λ t. ⊎_elim inl (λ w. let (i, l, e) = w in inr (i, l, λ q _ m. within-member a (get_or sets i 0) e q m)) (tolerated-listed a t),
    λ s. ⊎_elim (λ z. rw z tolerated-empty) (λ w. let (i, l, h) = w in listed-tolerated a i l (member-within k a (get_or sets i 0) la h)) s,
  )
