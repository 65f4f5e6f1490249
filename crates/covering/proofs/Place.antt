-- What a place of the list says of the number that the search came to.
-- Assumes nothing.
use Rattle.std.proofs.Common.{ℕ, ◌≡◌, ◌<◌, ◌≤◌, refl, sym, ap, ◌∙◌, ltb, cond, Bool, List, length, Option, Some, None, arith}
use Rattle.std.specs.Option.{is_some, unwrap_or}
use Rattle.std.proofs.lemmas.Option.{none-some}
use borrow.Author.Tests.{ltb-true, ltb-false, lt-ltb}
use Rattle.sets.proofs.Tests.{cases}
use Rattle.tolerance.specs.Places.{place_says}
use Rattle.tolerance.specs.Bytes.{place_byte}
use Rattle.covering.specs.Pairs.{place_in, first_held, second_held, third_held}
use Rattle.covering.proofs.Pairs.{PairTriple, pair-triple}

module _ (sets : List ℕ) (p : ℕ) where
  pub place_test : (o : Option ℕ) (b : Bool) → b ≡ is_some o → o ≡ place_in sets p → b ≡ ltb p (length sets)
  unfolding place_in
  place_test o b t e = t ∙ ap is_some e ∙ cases (ltb p (length sets)) (λ t. rw t refl) (λ t. rw t refl)

  pub in-place : (i : ℕ) → Some i ≡ place_in sets p → (i ≡ p) × (p < length sets)
  unfolding place_in
  in-place i e =
      cases (ltb p (length sets))
      (λ t. (ap (λ o. unwrap_or o 0) (e ∙ ap (λ b. cond b (Some p) None) t), ltb-true p (length sets) t))
      (λ t. absurd (none-some i (sym (e ∙ ap (λ b. cond b (Some p) None) t))))

  pub no-place : None ≡ place_in sets p → length sets ≤ p
  unfolding place_in
  no-place e =
      cases (ltb p (length sets))
      (λ t. absurd (none-some p (e ∙ ap (λ b. cond b (Some p) None) t)))
      (λ t. ltb-false p (length sets) t)

  pub is-place : p < length sets → place_in sets p ≡ Some p
  unfolding place_in
  is-place l = rw (lt-ltb p (length sets) l) refl

-- A place that fits a byte is the one that the byte says.
pub byte-some : (o : Option ℕ) (k : ℕ) → place_byte (place_says o) ≡ k → k < 255 → o ≡ Some k
unfolding place_byte place_says
byte-some None k e l = absurd (omega (arith, e))
byte-some (Some i) k e l = ap Some (let z : i ≡ k = omega (arith, e) in z)

-- What the searches find, as places, is the first triple.
module _ (n : ℕ) (sets : List ℕ) (i : ℕ) (e : Some i ≡ place_in sets (first_held n sets)) where
  pub first-listed : i < length sets
  first-listed = omega (arith, (in-place sets (first_held n sets) i e).0, (in-place sets (first_held n sets) i e).1)

  pub has-second : second_held n sets i < length sets
  has-second = (pair-triple n sets i _ _ (in-place sets (first_held n sets) i e).0 first-listed refl refl).second-listed

  pub places-triple : (j k : ℕ) → Some j ≡ place_in sets (second_held n sets i) → k ≡ third_held n sets i j → PairTriple n sets i j k
  places-triple j k f g =
      pair-triple n sets i j k (in-place sets (first_held n sets) i e).0 first-listed (in-place sets (second_held n sets i) j f).0 g

  -- The third is found as a place too, and its byte says which.
  pub found-triple : (j k : ℕ) (o : Option ℕ) → Some j ≡ place_in sets (second_held n sets i)
      → o ≡ Some k → place_byte (place_says o) ≡ third_held n sets i j → length sets ≤ 32 → PairTriple n sets i j k
  found-triple j k o f g h l =
      let t = places-triple j (third_held n sets i j) f refl in
      places-triple j k f (ap (λ p. unwrap_or p 0) (sym g ∙ byte-some o (third_held n sets i j) h (omega (arith, t.third-listed))))
